use Rattle.std.proofs.Common.{◌≡◌, ◌+◌, ◌∷◌, Some, None, drop, sym, ap, ◌∙◌, add-one}
use Rattle.std.proofs.lemmas.Result.{IfOk-weaker}
use Rattle.std.proofs.Math.Seq.{drop-cons}
use Rattle.xf_def_forest.specs.Planted.{first_fault, bare_fault, or_later, elements_of_bare}
use Rattle.xf_tree_literals.specs.Contents.{elements_of_all}
use Rattle.xf_tree_literals.proofs.BareLemmas.{first-of_element, first-of_all}
use Rattle.xf_tree_literals.proofs.bare_fault.+bare_faults.Goals as goal

pub fault_of_element-returns : goal.fault_of_element-returns
fault_of_element-returns t c =
    let b = c.args.prefixes.now in
    let e = c.args.element.now in
    let none : None ≡ bare_fault b (e.name, e.attributes) = sym c.in_default.is ∙ c.in_ok-fault.ensures ∙ ap (λ attributes. bare_fault b (e.name, attributes)) c.as_slice-attributes.ensures in
    IfOk-weaker c.fault_of_all.result _ _
    (λ fault h.
    h ∙ ap (λ ls. first_fault (bare_fault b) (elements_of_all ls)) c.as_slice.ensures
    ∙ ap (λ o. or_later o (first_fault (bare_fault b) (elements_of_all e.children))) none
    ∙ sym (first-of_element b e))
    c.fault_of_all.ensures

pub fault_of_all-returns-in-Some : goal.fault_of_all-returns-in-Some
fault_of_all-returns-in-Some t c =
    let f = bare_fault c.args.prefixes.now in
    let i = c.loop-tree.tree-index in
    let trees = c.args.trees.now in
    let tree = c.tree-item.result in
    let split : drop i trees ≡ tree ∷ drop (i + 1) trees = rw add-one (drop-cons trees i tree c.loop-tree-test.true) ∙ ap (λ x. x ∷ drop (i + 1) trees) (sym c.tree-item.is) in
    let here : Some c.in-Some.fault ≡ first_fault f (elements_of_bare tree) = sym c.in-Some.is ∙ c.in_ok-fault.ensures in
    ap (λ o. or_later o (first_fault f (elements_of_all (drop (i + 1) trees)))) here ∙ sym (first-of_all c.args.prefixes.now tree (drop (i + 1) trees)) ∙ ap (λ l. first_fault f (elements_of_all l)) (sym split) ∙ c.loop-tree.invariant

pub fault_of_all-loop-tree-preserved : goal.fault_of_all-loop-tree-preserved
fault_of_all-loop-tree-preserved t c =
    let f = bare_fault c.args.prefixes.now in
    let i = c.loop-tree.tree-index in
    let trees = c.args.trees.now in
    let tree = c.tree-item.result in
    let split : drop i trees ≡ tree ∷ drop (i + 1) trees = rw add-one (drop-cons trees i tree c.loop-tree-test.true) ∙ ap (λ x. x ∷ drop (i + 1) trees) (sym c.tree-item.is) in
    let here : None ≡ first_fault f (elements_of_bare tree) = sym c.in_default.is ∙ c.in_ok-fault.ensures in
    ap (λ o. or_later o (first_fault f (elements_of_all (drop (i + 1) trees)))) here ∙ sym (first-of_all c.args.prefixes.now tree (drop (i + 1) trees)) ∙ ap (λ l. first_fault f (elements_of_all l)) (sym split) ∙ c.loop-tree.invariant
