use Rattle.std.proofs.Common.{◌<◌, length, ap, ◌∙◌}
use Rattle.slab.specs.Slab.{get}
use Rattle.xf_def_forest.specs.Texts.{Keeping}
use Rattle.xf_def_forest.specs.Visit.{visits, top_of}
use Rattle.xf_tree_rows.specs.declared.rows.Row.{Row}
use Rattle.xf_tree_contents.specs.Keys.{number_in}
use Rattle.xf_tree.proofs.MeansLemmas.{top-means}
use Rattle.xf_tree.proofs.forest.Forest.top.Goals as goal

pub returns-in-Some : goal.returns-in-Some
returns-in-Some c =
    let n = c.args.node.number in
    let s = c.self.inside.slots in
    let rows = c.self.inside.rows.items in
    let at = c.in-Some.at in
    let here = c.in-Some.ensures in
    let within : c.top_row-top.result < length rows = c.top_row-top.ensures.within in
    let row = c.at-place.ensures in
    let top = c.top_row-top.ensures.answer in
    c.number_of.ensures ∙ ap (λ (r : Row). number_in (get s r.key)) (row ∙ top)
    ∙ top-means s n at rows c.self.inside.kept.items c.self.inside.next c.self.invariant.sound here ∙ ap (λ (k : Keeping). top_of n (visits k.forest.nodes)) c.self.view_is
