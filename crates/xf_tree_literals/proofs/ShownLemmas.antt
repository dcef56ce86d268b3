-- Numbers in a set and in a list, and what is printed by them.
use Rattle.std.proofs.Common.{◌≡◌, ℕ, zero, suc, ◌+◌, ◌==◌, ◌||◌, if◌then◌else◌, Bool, true, false, List, [], ◌∷◌, ◌++◌, take, Option, Some, None, nat_lt, refl, sym, ap, ◌∙◌, inl, inr, arith, add-one}
use Rattle.std.specs.Prelude.{slice_get}
use Rattle.std.specs.List.{list_any}
use Rattle.std.proofs.lemmas.Bool.{cases_Bool}
use Rattle.std.proofs.lemmas.Bool.Decides.{nat_tests}
use Rattle.std.proofs.lemmas.List.Folds.{list_any-append}
use Rattle.indexmap.specs.IndexSet.{insert_key}
use Rattle.xf_def_forest.specs.declared.content.Node.{Node}
use Rattle.xf_def_forest.specs.Forest.{is_text}
use Rattle.xf_def_forest.specs.Literal.{printed, printed_from}
use Rattle.xf_def_forest.specs.Visit.{has}

one-suc : (ns : List ℕ) (at k : ℕ) → slice_get ns at ≡ Some k → take (suc at) ns ≡ take at ns ++ (k ∷ [])
one-suc [] at k e = absurd (none e)
  where
    none : {k : ℕ} → None ≡ Some k → ⊥
    none e = cc
one-suc (n ∷ ns) zero k e = let same : n ≡ k = cc in ap (λ m. m ∷ []) same
one-suc (n ∷ ns) (suc at) k e = ap (λ l. n ∷ l) (one-suc ns at k e)

one-more : (ns : List ℕ) (at k : ℕ) → slice_get ns at ≡ Some k → take (at + 1) ns ≡ take at ns ++ (k ∷ [])
one-more ns at k e = rw add-one (one-suc ns at k e)

or-false : (b : Bool) → (b || false) ≡ b
or-false true = refl
or-false false = refl

or-true : (a b : Bool) → a ≡ true → a ≡ (a || b)
or-true true b e = refl
or-true false b e = cc

has-more : (n k : ℕ) (ns : List ℕ) → has n (ns ++ (k ∷ [])) ≡ (has n ns || (n == k))
has-more n k ns = list_any-append (λ m. n == m) ns (k ∷ []) ∙ ap (λ b. has n ns || b) (or-false (n == k))

same-number : (n k : ℕ) → (n == k) ≡ true → n ≡ k
same-number n k e = grind (arith, nat_tests)

-- a number more in the set is one more of the list
pub has-inserted : (keys keys2 ns : List ℕ) (at k : ℕ) → keys2 ≡ insert_key (λ x y. x == y) keys k → slice_get ns at ≡ Some k
    → ((n : ℕ) → has n keys ≡ has n (take at ns)) → (n : ℕ) → has n keys2 ≡ has n (take (at + 1) ns)
has-inserted keys keys2 ns at k made here same n = elim (cases_Bool (list_any (λ m. k == m) keys)) [
  | inl e ↦
      let is : keys2 ≡ keys = made ∙ ap (λ b. if b then keys else keys ++ (k ∷ [])) e in
      let known : has k (take at ns) ≡ true = sym (same k) ∙ e in
      ap (has n) is ∙ same n ∙ double known ∙ sym (has-more n k (take at ns)) ∙ sym (ap (has n) (one-more ns at k here))
  | inr e ↦
      let is : keys2 ≡ keys ++ (k ∷ []) = made ∙ ap (λ b. if b then keys else keys ++ (k ∷ [])) e in
      ap (has n) is ∙ has-more n k keys ∙ ap (λ b. b || (n == k)) (same n) ∙ sym (has-more n k (take at ns)) ∙ sym (ap (has n) (one-more ns at k here))
]
  where
    double : has k (take at ns) ≡ true → has n (take at ns) ≡ (has n (take at ns) || (n == k))
    double known = elim (cases_Bool (n == k)) [
      | inl e ↦ or-true (has n (take at ns)) (n == k) (ap (λ m. has m (take at ns)) (same-number n k e) ∙ known)
      | inr e ↦ sym (ap (λ b. has n (take at ns) || b) e ∙ or-false (has n (take at ns)))
    ]

-- the same numbers, the same nodes
none-same : (ms ns : List ℕ) (x : Node) (xs : List Node) → has x.number ms ≡ has x.number ns → printed_from ms None xs ≡ printed_from ns None xs → printed_from ms (Some x.depth) xs ≡ printed_from ns (Some x.depth) xs
    → printed_from ms None (x ∷ xs) ≡ printed_from ns None (x ∷ xs)
none-same ms ns x xs number inside outside =
    ap (λ b. if is_text x.content || b then x ∷ printed_from ms None xs else printed_from ms (Some x.depth) xs) number
    ∙ ap (λ l. if is_text x.content || has x.number ns then x ∷ l else printed_from ms (Some x.depth) xs) inside
    ∙ ap (λ l. if is_text x.content || has x.number ns then x ∷ printed_from ns None xs else l) outside

from-same : (ms ns : List ℕ) (out : Option ℕ) (xs : List Node) → ((n : ℕ) → has n ms ≡ has n ns) → printed_from ms out xs ≡ printed_from ns out xs
from-same ms ns out [] same = refl
from-same ms ns None (x ∷ xs) same = none-same ms ns x xs (same x.number) (from-same ms ns None xs same) (from-same ms ns (Some x.depth) xs same)
from-same ms ns (Some d) (x ∷ xs) same =
    ap (λ l. if nat_lt d x.depth then l else printed_from ms None (x ∷ xs)) (from-same ms ns (Some d) xs same)
    ∙ ap (λ l. if nat_lt d x.depth then printed_from ns (Some d) xs else l) (none-same ms ns x xs (same x.number) (from-same ms ns None xs same) (from-same ms ns (Some x.depth) xs same))

pub printed-same : (ms ns : List ℕ) (xs : List Node) → ((n : ℕ) → has n ms ≡ has n ns) → printed ms xs ≡ printed ns xs
printed-same ms ns [] same = refl
printed-same ms ns (x ∷ xs) same = ap (λ l. x ∷ l) (from-same ms ns None xs same)
