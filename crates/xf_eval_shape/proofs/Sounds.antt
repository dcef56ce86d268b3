-- A forest whose next number fits 128 bits has no number that a text of its shape has.
use Rattle.std.proofs.Common.{◌≡◌, ℕ, ◌==◌, ◌<◌, ◌^◌, Bool, true, false, ◌||◌, List, [], ◌∷◌, nat_lt, refl, sym, ap, ◌∙◌, arith}
use Rattle.std.proofs.lemmas.Bool.{eqb-true}
use Rattle.std.proofs.lemmas.Bool.Decides.{nat_tests}
use Rattle.xf_def_forest.specs.declared.content.Node.{Node}
use Rattle.xf_def_forest.specs.Forest.{has_number}
use Rattle.xf_def_forest.specs.Texts.{Keeping}
use Rattle.xf_def_forest.specs.WellFormed.{AreTrees, are_below}
use Rattle.xf_def_forest.proofs.BackLaws.{and-true}
use Rattle.xf_def_forest.proofs.OrderLaws.{seen-has}
use Rattle.xf_def_forest.proofs.TextLaws.{in_forest}
use Rattle.xf_eval_shape.proofs.Shapes.{Sound}

less-too : (k n : ℕ) → nat_lt k n ≡ true → n < 2 ^ 128 → nat_lt k (2 ^ 128) ≡ true
less-too k n h l = grind (arith, nat_tests, h, l)

number-below : (next k : ℕ) (nodes : List Node) → are_below next nodes ≡ true → has_number k nodes ≡ true → nat_lt k next ≡ true
number-below next k [] h i = cc i
number-below next k (x ∷ xs) h i = by (λ j. number-below next k xs (and-true _ _ h).1 j) (x.number == k) refl i
  where
    by : (has_number k xs ≡ true → nat_lt k next ≡ true) → (b : Bool) → (x.number == k) ≡ b → (b || has_number k xs) ≡ true → nat_lt k next ≡ true
    by rest true e j = ap (λ m. nat_lt m next) (sym (eqb-true x.number k e)) ∙ (and-true _ _ h).0
    by rest false e j = rest j

pub sound-of : (k : Keeping) → AreTrees k → (next : ℕ) → next ≡ k.forest.next → next < 2 ^ 128 → Sound k.forest
sound-of k trees next e l = record {
  trees = in_forest trees;
  below = λ n h. less-too n next (ap (nat_lt n) e ∙ number-below k.forest.next n k.forest.nodes trees.below (sym (seen-has n [] k.forest.nodes) ∙ h)) l;
}
