-- What `has` says of a list, and how the library's sets tell it.
use Rattle.std.proofs.Common.{◌≡◌, ℕ, Bool, true, false, not, cond, ◌||◌, ◌&&◌, inl, inr, ◌==◌, List, [], ◌∷◌, refl, sym, ap, ◌∙◌, arith}
use Rattle.std.proofs.lemmas.Bool.{cases_order, ne_eqb, eq-eqb, lt-ltb, le-ltb}
use Rattle.std.specs.Ordering.{nat_cmp}
use Rattle.std.specs.BTreeMap.{is_at}
use Rattle.std.specs.List.{list_any}
use Rattle.xf_graph.specs.Edges.{has}

pub is_at-nat_cmp : (v x : ℕ) → is_at (nat_cmp v) x ≡ (v == x)
is_at-nat_cmp v x =
    elim (cases_order v x) [
      | inl e ↦ rw (le-ltb v x (omega arith), eq-eqb v x e) refl
      | inr (inl l) ↦ rw (lt-ltb v x l, ne_eqb v x (omega arith)) refl
      | inr (inr l) ↦ rw (le-ltb v x (omega arith), ne_eqb v x (omega arith)) refl
    ]

pub ==-turned : (v x : ℕ) → (v == x) ≡ (x == v)
==-turned v x =
    elim (cases_order v x) [
      | inl e ↦ eq-eqb v x e ∙ sym (eq-eqb x v (sym e))
      | inr (inl l) ↦ ne_eqb v x (omega arith) ∙ sym (ne_eqb x v (omega arith))
      | inr (inr l) ↦ ne_eqb v x (omega arith) ∙ sym (ne_eqb x v (omega arith))
    ]

-- what a set answers for a number is `has` of its keys
pub contains-has : (xs : List ℕ) (v : ℕ) → list_any (is_at (nat_cmp v)) xs ≡ has xs v
contains-has [] v = refl
contains-has (x ∷ xs) v = rw (is_at-nat_cmp v x, ==-turned v x, contains-has xs v) refl

cond-or : (b z : Bool) → cond b true z ≡ (b || z)
cond-or true z = refl
cond-or false z = refl

cond-and : (b z : Bool) → cond b false z ≡ (not b && z)
cond-and true z = refl
cond-and false z = refl

-- a change at one number, from the set's words to `has`
module _ (xs ys : List ℕ) (v : ℕ) where
  pub has-added : ((q : ℕ) → list_any (is_at (nat_cmp q)) ys ≡ cond (is_at (nat_cmp v) q) true (list_any (is_at (nat_cmp q)) xs)) → (q : ℕ) → has ys q ≡ ((v == q) || has xs q)
  has-added h q =
      sym (contains-has ys q) ∙ h q ∙ ap (λ t. cond t true (list_any (is_at (nat_cmp q)) xs)) (is_at-nat_cmp v q) ∙ ap (λ t. cond (v == q) true t) (contains-has xs q) ∙ cond-or (v == q) (has xs q)

  pub has-removed : ((q : ℕ) → list_any (is_at (nat_cmp q)) ys ≡ cond (is_at (nat_cmp v) q) false (list_any (is_at (nat_cmp q)) xs)) → (q : ℕ) → has ys q ≡ (not (v == q) && has xs q)
  has-removed h q =
      sym (contains-has ys q) ∙ h q ∙ ap (λ t. cond t false (list_any (is_at (nat_cmp q)) xs)) (is_at-nat_cmp v q) ∙ ap (λ t. cond (v == q) false t) (contains-has xs q) ∙ cond-and (v == q) (has xs q)
