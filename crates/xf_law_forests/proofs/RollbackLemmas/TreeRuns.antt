-- Below an element without element children its attributes stand first and its texts after them, in the list as in its trees.
use Rattle.std.proofs.Common.{◌≡◌, ℕ, suc, ◌==◌, true, false, List, [], refl, sym, subst, inl, inr}
use Rattle.std.proofs.lemmas.Bool.{cases_Bool}
use Rattle.xf_def_forest.specs.declared.content.Node.{Node}
use Rattle.xf_def_forest.specs.declared.content.Content.{Content}
use Rattle.xf_def_forest.specs.Forest.{is_attribute, is_text}
use Rattle.xf_def_forest.proofs.RunLemmas.{IsRun, AreTexts, IsLeafAt}
use Rattle.xf_law_forests.proofs.RollbackLemmas.Trees.{Trees, none, tree, onto, StopsAt, stops-onto}
use Rattle.xf_law_forests.proofs.RollbackLemmas.TreeTexts.{below-onto}
use Rattle.xf_law_forests.proofs.RollbackLemmas.TreeShape.{is_leaf}
use Rattle.xf_law_forests.proofs.RollbackLemmas.TreeBlank.{AreLeaves, LeafAt}
use Rattle.xf_law_forests.proofs.RollbackLemmas.TreeOrder.{NoAttributes, AttributesFirst, Ordered}

leaf-text : (c : Content) → is_leaf c ≡ true → is_attribute c ≡ false → is_text c ≡ true
leaf-text c leaf other = rw other at leaf

texts-run : (d : ℕ) (k : Trees) → AreLeaves k → NoAttributes k → AreTexts d (onto (suc d) k [])
texts-run d none leaves plain = tt
texts-run d (tree n c k r) leaves plain =
    subst (λ j. AreTexts d (onto (suc d) (tree n c j r) [])) (sym leaves.1) (leaf-text c leaves.0 plain.0, refl, texts-run d r leaves.2 plain.1)

run-onto : (d : ℕ) (k : Trees) → AreLeaves k → AttributesFirst k → IsRun d (onto (suc d) k [])
run-onto d none leaves first = tt
run-onto d (tree n c k r) leaves first =
    subst (λ j. IsRun d (onto (suc d) (tree n c j r) [])) (sym leaves.1) (
    elim (cases_Bool (is_attribute c)) [
      | inl e ↦ inl (e, refl, run-onto d r leaves.2 first.1)
      | inr e ↦ let text = leaf-text c leaves.0 e in inr (text, refl, texts-run d r leaves.2 (first.0 e))
    ]
    )

pub leaf-onto : (n d : ℕ) (t : Trees) (ys : List Node) → LeafAt n t → Ordered t → StopsAt d ys → IsLeafAt n ys → IsLeafAt n (onto d t ys)
leaf-onto n d none ys leaf first stops more = more
leaf-onto n d (tree m c k r) ys leaf first stops more =
    elim (cases_Bool (m == n)) [
      | inl e ↦ rw e ((leaf.0 e).0, subst (IsRun d) (sym (below-onto d k (onto d r ys) (stops-onto d r ys stops))) (run-onto d k (leaf.0 e).1 first.0))
      | inr e ↦ rw e (leaf-onto n (suc d) k (onto d r ys) leaf.1 first.1 (stops-onto d r ys stops) (leaf-onto n d r ys leaf.2 first.2 stops more))
    ]
