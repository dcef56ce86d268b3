-- No number comes twice.
use Rattle.std.proofs.Common.{◌≡◌, ℕ, ◌+◌, ◌==◌, true, false, List, [], ◌∷◌, refl, inl, inr, arith}
use Rattle.std.specs.Prelude.{◌≤◌}
use Rattle.std.proofs.lemmas.Bool.{cases_Bool}
use Rattle.std.proofs.lemmas.Bool.Decides.{nat_tests}
use Rattle.xf_def_forest.specs.declared.content.Node.{Node}
use Rattle.xf_def_forest.specs.Forest.{has_number}
use Rattle.xf_def_forest.specs.WellFormed.{are_apart}
use Rattle.xf_tree_walks.specs.Nodes.{times}

pub none-has : (n : ℕ) (xs : List Node) → times n xs ≡ 0 → has_number n xs ≡ false
none-has n [] h = refl
none-has n (x ∷ xs) h =
    elim (cases_Bool (x.number == n)) [
      | inl e ↦ absurd (omega (arith, (rw e at h)))
      | inr e ↦ let g : 0 + times n xs ≡ 0 = rw e at h in rw e (none-has n xs (omega (arith, g)))
    ]

pub once-apart : (xs : List Node) → ((n : ℕ) → times n xs ≤ 1) → are_apart xs ≡ true
once-apart [] h = refl
once-apart (x ∷ xs) h =
    let here : (x.number == x.number) ≡ true = grind (arith, nat_tests) in
    let one : 1 + times x.number xs ≤ 1 = rw here at (h x.number) in
    rw (none-has x.number xs (omega (arith, one))) (once-apart xs (λ n. let g = h n in omega (arith, g)))
