use Rattle.std.proofs.Common.{◌≡◌, ◌<◌, length, Some, None, option_map, sym, ap, ◌∙◌, arith}
use Rattle.slab.specs.Slab.{get}
use Rattle.xf_def_forest.specs.declared.node.NodeId.{NodeId}
use Rattle.xf_def_forest.specs.Texts.{Keeping}
use Rattle.xf_def_forest.specs.Visit.{visits, parent_of}
use Rattle.xf_tree_rows.specs.declared.rows.Row.{Row}
use Rattle.xf_tree_rows.specs.Rows.{parent_row_of}
use Rattle.xf_tree_contents.specs.Keys.{number_in}
use Rattle.xf_tree_walks.specs.Nodes.{number_at}
use Rattle.xf_tree_walks.proofs.ParentLemmas.{parent-means}
use Rattle.xf_tree.proofs.MeansLemmas.{one_of}
use Rattle.xf_tree.proofs.forest.Forest.parent.Goals as goal

pub returns : goal.returns
returns c =
    let n = c.args.node.number in
    let s = c.self.inside.slots in
    let rows = c.self.inside.rows.items in
    let at = c.in_ok-at.at in
    let above = c.in_ok-above.above in
    let here = c.in_ok-at.ensures in
    let means = parent-means s n at rows here (one_of s rows c.self.inside.kept.items c.self.inside.next n c.self.invariant.sound) in
    let view = ap (λ (k : Keeping). parent_of n (visits k.forest.nodes)) c.self.view_is in
    let is : Some above ≡ parent_row_of rows at = c.in_ok-above.ensures.answer in
    let within : above < length rows = omega (arith, here.within, c.in_ok-above.ensures.within) in
    let row = c.at-place.ensures in
    let number = c.number_of.ensures ∙ ap (λ (r : Row). number_in (get s r.key)) row in
    ap Some number ∙ ap (number_at s rows) is ∙ sym means ∙ view

pub returns-in_err-above : goal.returns-in_err-above
returns-in_err-above c =
    let n = c.args.node.number in
    let s = c.self.inside.slots in
    let rows = c.self.inside.rows.items in
    let at = c.in_ok-at.at in
    let here = c.in_ok-at.ensures in
    let means = parent-means s n at rows here (one_of s rows c.self.inside.kept.items c.self.inside.next n c.self.invariant.sound) in
    let view = ap (λ (k : Keeping). parent_of n (visits k.forest.nodes)) c.self.view_is in
    let is : None ≡ parent_row_of rows at = c.in_err-above.ensures.answer in
    ap (option_map (λ (m : NodeId). m.number)) c.from_residual-in_err-above.ensures ∙ ap (number_at s rows) is ∙ sym means ∙ view
