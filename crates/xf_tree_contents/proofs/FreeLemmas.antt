-- Slots that are emptied, and what keeps its slot.
use Rattle.std.proofs.Common.{◌≡◌, ℕ, ◌+◌, ◌<◌, ◌≤◌, ◌==◌, if◌then◌else◌, List, [], ◌∷◌, ◌++◌, map, length, take, get_or, None, sym, ap, ◌∙◌, inl, inr, arith}
use Rattle.std.specs.Prelude.{◌⊎◌}
use Rattle.std.proofs.lemmas.Bool.{cases_lt}
use Rattle.std.proofs.lemmas.List.{map-append, take_more}
use Rattle.slab.specs.Slab.{Slab, get, Updates}
use Rattle.xf_def_forest.specs.Limits.{size_of}
use Rattle.xf_def_forest.specs.Texts.{KeptText}
use Rattle.xf_tree_contents.specs.Slot.{Slot}
use Rattle.xf_tree_contents.specs.Keys.{kept_of, number_in, content_in, kept_times, KeepsButKept}
use Rattle.xf_tree_contents.proofs.AlikeLemmas.{eq-true}

pub kept_times-append : (n : ℕ) (xs ys : List KeptText) → kept_times n (xs ++ ys) ≡ kept_times n xs + kept_times n ys
kept_times-append n [] ys = omega arith
kept_times-append n (x ∷ xs) ys = omega (arith, kept_times-append n xs ys)

pub same-key : (a b : ℕ) → (a ≡ b → ⊥) ⊎ (a ≡ b)
same-key a b = elim (cases_lt a b) [
  | inl l ↦ inl (λ e. let z : ⊥ = omega arith in z)
  | inr l ↦ elim (cases_lt b a) [
    | inl m ↦ inl (λ e. let z : ⊥ = omega arith in z)
    | inr m ↦ inr (let e : a ≡ b = omega arith in e)
  ]
]

-- what is emptied is no larger
pub less-more : (s s1 s2 : Slab Slot) (at : ℕ) → ((key : ℕ) → size_of (content_in (get s1 key)) ≤ size_of (content_in (get s key))) → Updates s1 s2 at None
    → (key : ℕ) → size_of (content_in (get s2 key)) ≤ size_of (content_in (get s key))
less-more s s1 s2 at less up key = elim (same-key key at) [
  | inl ne ↦ omega (arith, ap (λ o. size_of (content_in o)) (up.others key ne), less key)
  | inr e ↦ omega (arith, ap (λ k. size_of (content_in (get s2 k))) e, ap (λ o. size_of (content_in o)) up.changed)
]

module _ (s : Slab Slot) (keys : List ℕ) (i x : ℕ) (within : i < length keys) (is : get_or keys i 0 ≡ x) where
  pub kept-more : (n : ℕ) → kept_times n (map (kept_of s) (take (i + 1) keys)) ≡ kept_times n (map (kept_of s) (take i keys)) + (if number_in (get s x) == n then 1 else 0)
  kept-more n =
      ap (λ l. kept_times n (map (kept_of s) l)) (take_more keys i 0 within ∙ ap (λ r. take i keys ++ (r ∷ [])) is) ∙ ap (kept_times n) (map-append (kept_of s) (take i keys) (x ∷ []))
      ∙ kept_times-append n (map (kept_of s) (take i keys)) (kept_of s x ∷ []) ∙ (omega arith)

  pub free-kept_more : (s1 s2 : Slab Slot) → KeepsButKept s s1 (map (kept_of s) (take i keys)) → Updates s1 s2 x None → KeepsButKept s s2 (map (kept_of s) (take (i + 1) keys))
  free-kept_more s1 s2 keeps up = λ key none.
      let t = kept-more (number_in (get s key)) in
      elim (same-key key x) [
        | inl ne ↦ up.others key ne ∙ keeps key (omega arith)
        | inr e ↦ absurd (let one = ap {B = ℕ} (λ b. if b then 1 else 0) (eq-true (number_in (get s x)) (number_in (get s key)) (ap (λ k. number_in (get s k)) (sym e))) in omega arith)
      ]
