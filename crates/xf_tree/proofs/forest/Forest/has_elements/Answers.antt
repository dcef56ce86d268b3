use Rattle.std.proofs.Common.{ℕ, List, [], map, length, nat_lt, refl, sym, ap, ◌∙◌}
use Rattle.xf_def_forest.specs.Forest.{is_element}
use Rattle.xf_def_forest.specs.Shape.{has_elements}
use Rattle.xf_def_forest.specs.Texts.{Keeping}
use Rattle.xf_def_forest.specs.Visit.{visits}
use Rattle.xf_tree_walks.specs.Nodes.{node_of}
use Rattle.xf_tree_walks.proofs.KidLemmas.{kids-none}
use Rattle.xf_tree.proofs.ChildLemmas.{kids-mean, elements-are}
use Rattle.xf_tree.proofs.forest.Forest.has_elements.Goals as goal

pub returns-in-Some : goal.returns-in-Some
returns-in-Some c =
    let n = c.args.node.number in
    let s = c.self.inside.slots in
    let rows = c.self.inside.rows.items in
    let at = c.in-Some.at in
    let here = c.in-Some.ensures in
    let means = kids-mean is_element s n at rows c.self.inside.kept.items c.self.inside.next c.self.invariant.sound here in
    c.has_element.ensures ∙ ap (nat_lt 0) (sym means) ∙ sym (elements-are n (visits (map (node_of s) rows)))
    ∙ ap (λ (k : Keeping). has_elements (visits k.forest.nodes) n) c.self.view_is

pub returns-in-None : goal.returns-in-None
returns-in-None c =
    let n = c.args.node.number in
    let s = c.self.inside.slots in
    let rows = c.self.inside.rows.items in
    let absent = c.in-None.ensures in
    ap (λ (l : List ℕ). nat_lt 0 (length l)) (sym (kids-none is_element n [] (map (node_of s) rows) refl absent)) ∙ sym (elements-are n (visits (map (node_of s) rows)))
    ∙ ap (λ (k : Keeping). has_elements (visits k.forest.nodes) n) c.self.view_is
