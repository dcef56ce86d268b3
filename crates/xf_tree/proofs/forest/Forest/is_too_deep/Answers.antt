use Rattle.std.proofs.Common.{◌≡◌, ◌-◌, length, map, take, drop, sym, ap, ◌∙◌, arith}
use Rattle.xf_def_forest.specs.Forest.{tree_of}
use Rattle.xf_def_forest.specs.Changes.{elements_above}
use Rattle.xf_def_forest.specs.Limits.{is_too_deep}
use Rattle.xf_def_forest.specs.Visit.{visits}
use Rattle.xf_def_forest.specs.Texts.{Keeping}
use Rattle.xf_tree_rows.specs.Rows.{tree_of as row_tree}
use Rattle.xf_tree_rows.proofs.CutLemmas.{tree-is-front}
use Rattle.xf_tree_walks.specs.Nodes.{node_of}
use Rattle.xf_tree.proofs.MeansLemmas.{one_of}
use Rattle.xf_tree.proofs.AttachLemmas.{tree-nodes}
use Rattle.xf_tree.proofs.ElementLemmas.{elements-mean}
use Rattle.xf_tree.proofs.forest.Forest.is_too_deep.Goals as goal

pub returns-in-Some-Some : goal.returns-in-Some-Some
returns-in-Some-Some c =
    let n = c.args.node.number in
    let m = c.args.parent.number in
    let s = c.self.inside.slots in
    let rows = c.self.inside.rows.items in
    let at = c.in-Some-Some.at in
    let above = c.in-Some-Some.above in
    let end = c.end_of-end.result in
    let here = c.in-Some-Some.ensures in
    let there = c.in-Some-Some.ensures' in
    let elements = c.elements_over-elements.ensures
    ∙ sym (elements-mean s m above rows there (λ k. one_of s rows c.self.inside.kept.items c.self.inside.next k c.self.invariant.sound)) in
    let size : end - at ≡ length (row_tree (drop at rows)) = omega (arith, c.end_of-end.ensures.answer) in
    let slice : take (end - at) (drop at rows) ≡ row_tree (drop at rows) =
    (tree-is-front (drop at rows) (end - at) size).0 in
    let tree = ap (map (node_of s)) slice ∙ sym (tree-nodes s n at rows here (one_of s rows c.self.inside.kept.items c.self.inside.next n c.self.invariant.sound)) in
    let nodes = map (node_of s) rows in
    c.has_deep.ensures ∙ ap (λ l. is_too_deep 100 c.elements_over-elements.result (map (node_of s) l)) c.slice.ensures
    ∙ ap (λ e. is_too_deep 100 e (map (node_of s) (take (end - at) (drop at rows)))) elements
    ∙ ap (is_too_deep 100 (elements_above m (visits nodes))) tree
    ∙ ap (λ (k : Keeping). is_too_deep 100 (elements_above m (visits k.forest.nodes)) (tree_of n k.forest.nodes)) c.self.view_is
