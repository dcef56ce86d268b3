-- What stands in a list.
use Rattle.std.proofs.Common.{◌≡◌, ℕ, zero, suc, Bool, true, false, cond, inl, inr, List, [], ◌∷◌, map, Some, slice_get, refl, sym, ap, ◌∙◌, subst}
use Rattle.std.specs.Prelude.{filter}
use Rattle.std.specs.List.{list_any, list_all}
use Rattle.std.proofs.lemmas.Bool.{false≢true}
use Rattle.xf_def_model.specs.Pertinent.{AllOf}
use Rattle.xf_recalc_pertinent.proofs.Lists.{and-both, and-parts, none-some, or-cases, or-left, or-right, some-same}

abbrev pub At : {X : Type 0} → List X → X → Type 0
At xs x = (k : ℕ) × (slice_get xs k ≡ Some x)

pub any-at : {X : Type 0} (p : X → Bool) (xs : List X) → list_any p xs ≡ true → (x : X) × At xs x × (p x ≡ true)
any-at p [] h = absurd (false≢true h)
any-at p (x ∷ xs) h = elim (or-cases (p x) (list_any p xs) h) [
  | inl e ↦ (x, (0, refl), e)
  | inr r ↦ let f = any-at p xs r in (f.0, (suc f.1.0, f.1.1), f.2)
]

pub at-any : {X : Type 0} (p : X → Bool) (xs : List X) (k : ℕ) (x : X) → slice_get xs k ≡ Some x → p x ≡ true → list_any p xs ≡ true
at-any p [] k x e h = none-some e
at-any p (y ∷ ys) zero x e h = or-left (p y) (list_any p ys) (ap p (some-same e) ∙ h)
at-any p (y ∷ ys) (suc k) x e h = or-right (p y) (list_any p ys) (at-any p ys k x e h)

pub all-at : {X : Type 0} (p : X → Bool) (xs : List X) (k : ℕ) (x : X) → list_all p xs ≡ true → slice_get xs k ≡ Some x → p x ≡ true
all-at p [] k x h e = none-some e
all-at p (y ∷ ys) zero x h e = ap p (sym (some-same e)) ∙ (and-parts (p y) (list_all p ys) h).0
all-at p (y ∷ ys) (suc k) x h e = all-at p ys k x (and-parts (p y) (list_all p ys) h).1 e

pub at-all : {X : Type 0} (p : X → Bool) (xs : List X) → ((k : ℕ) (x : X) → slice_get xs k ≡ Some x → p x ≡ true) → list_all p xs ≡ true
at-all p [] h = refl
at-all p (x ∷ xs) h = and-both (p x) (list_all p xs) (h 0 x refl) (at-all p xs (λ k y e. h (suc k) y e))

pub each-at : {X : Type 0} (P : X → Type 0) (xs : List X) (k : ℕ) (x : X) → AllOf P xs → slice_get xs k ≡ Some x → P x
each-at P [] k x h e = none-some e
each-at P (y ∷ ys) zero x h e = subst P (some-same e) h.0
each-at P (y ∷ ys) (suc k) x h e = each-at P ys k x h.1 e

pub at-each : {X : Type 0} (P : X → Type 0) (xs : List X) → ((k : ℕ) (x : X) → slice_get xs k ≡ Some x → P x) → AllOf P xs
at-each P [] h = tt
at-each P (x ∷ xs) h = (h 0 x refl, at-each P xs (λ k y e. h (suc k) y e))

pub filter-at : {X : Type 0} (q : X → Bool) (xs : List X) (k : ℕ) (y : X) → slice_get (filter q xs) k ≡ Some y → At xs y × (q y ≡ true)
filter-at q [] k y e = none-some e
filter-at q (x ∷ xs) k y e = by (q x) refl k e (λ j i. filter-at q xs j y i)
  where
    by : (b : Bool) → q x ≡ b → (k : ℕ) → slice_get (cond b (x ∷ filter q xs) (filter q xs)) k ≡ Some y → ((j : ℕ) → slice_get (filter q xs) j ≡ Some y → At xs y × (q y ≡ true)) → At (x ∷ xs) y × (q y ≡ true)
    by true b zero e rest = ((0, e), ap q (sym (some-same e)) ∙ b)
    by true b (suc k) e rest = let f = rest k e in ((suc f.0.0, f.0.1), f.1)
    by false b k e rest = let f = rest k e in ((suc f.0.0, f.0.1), f.1)

pub at-filter : {X : Type 0} (q : X → Bool) (xs : List X) (k : ℕ) (y : X) → slice_get xs k ≡ Some y → q y ≡ true → At (filter q xs) y
at-filter q [] k y e h = none-some e
at-filter q (x ∷ xs) zero y e h = by (q x) (ap q (some-same e) ∙ h)
  where
    by : (b : Bool) → b ≡ true → At (cond b (x ∷ filter q xs) (filter q xs)) y
    by true i = (0, e)
    by false i = absurd (false≢true i)
at-filter q (x ∷ xs) (suc k) y e h = by (q x) (at-filter q xs k y e h)
  where
    by : (b : Bool) → At (filter q xs) y → At (cond b (x ∷ filter q xs) (filter q xs)) y
    by true f = (suc f.0, f.1)
    by false f = f

pub map-at : {X Y : Type 0} (f : X → Y) (xs : List X) (k : ℕ) (y : Y) → slice_get (map f xs) k ≡ Some y → (x : X) × At xs x × (f x ≡ y)
map-at f [] k y e = none-some e
map-at f (x ∷ xs) zero y e = (x, (0, refl), some-same e)
map-at f (x ∷ xs) (suc k) y e = let g = map-at f xs k y e in (g.0, (suc g.1.0, g.1.1), g.2)

pub at-map : {X Y : Type 0} (f : X → Y) (xs : List X) (k : ℕ) (x : X) → slice_get xs k ≡ Some x → slice_get (map f xs) k ≡ Some (f x)
at-map f [] k x e = none-some e
at-map f (y ∷ ys) zero x e = ap (λ z. Some (f z)) (some-same e)
at-map f (y ∷ ys) (suc k) x e = at-map f ys k x e
