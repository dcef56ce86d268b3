-- Where the entries of the first nodes stand, node by node.
use Rattle.std.proofs.Common.{◌≡◌, ℕ, zero, suc, ◌+◌, ◌==◌, true, ◌⊎◌, inl, inr, List, [], ◌∷◌, ◌++◌, length, Some, slice_get, nat_eq, refl, sym, ap, ◌∙◌, arith}
use Rattle.std.proofs.lemmas.Bool.{eqb-true}
use Rattle.indexmap.specs.IndexMap.{IndexMap, get}
use Rattle.xf_binds.specs.declared.entry.Seats.{Seats}
use Rattle.xf_binds.specs.Held.{AreNear, seats_or}

pub near-none : {S : Type 0} (seats : IndexMap ℕ Seats S) → AreNear seats []
near-none seats = λ n s h. cc h

got-end : {X : Type 0} (xs : List X) (x y : X) (i : ℕ) → slice_get (xs ++ x ∷ []) i ≡ Some y → (slice_get xs i ≡ Some y) ⊎ ((i ≡ length xs) × (x ≡ y))
got-end [] x y zero h = inr (refl, cc h)
got-end [] x y (suc i) h = cc h
got-end (z ∷ zs) x y zero h = inl h
got-end (z ∷ zs) x y (suc i) h = elim (got-end zs x y i h) [
  | inl g ↦ inl g
  | inr g ↦ inr (ap suc g.0, g.1)
]

pub near-next : {S : Type 0} (seats : IndexMap ℕ Seats S) (near new : List Seats) (s : Seats) (number : ℕ) → AreNear seats near → length near ≡ number → s ≡ seats_or (get nat_eq seats number) → new ≡ near ++ s ∷ [] → AreNear seats new
near-next seats near new s number so size is more = λ n t h. elim (got-end near s t n (ap (λ l. slice_get l n) (sym more) ∙ h)) [
  | inl g ↦ so n t g
  | inr g ↦ sym g.1 ∙ is ∙ ap (λ i. seats_or (get nat_eq seats i)) (sym size ∙ sym g.0)
]

longer : {X : Type 0} (xs : List X) (x : X) → length (xs ++ x ∷ []) ≡ length xs + 1
longer [] x = omega arith
longer (y ∷ ys) x = (let e = longer ys x in omega (arith, e))

pub near-longer : (near new : List Seats) (s : Seats) (number : ℕ) → length near ≡ number → new ≡ near ++ s ∷ [] → length new ≡ number + 1
near-longer near new s number size more = ap length more ∙ longer near s ∙ ap (λ n. n + 1) size

pub none-there : {X : Type 0} (xs : List X) (count : ℕ) → count ≡ length xs → (count == 0) ≡ true → [] ≡ xs
none-there [] count e h = refl
none-there (x ∷ xs) count e h = (let z = eqb-true count 0 h in absurd (omega (arith, e, z)))
