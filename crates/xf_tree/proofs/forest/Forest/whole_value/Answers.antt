use Rattle.std.proofs.Common.{map, false, ◌≡◌, sym, ap, ◌∙◌}
use Rattle.xf_def_forest.specs.Forest.{has_number}
use Rattle.xf_def_forest.specs.StringValue.{pieces, whole}
use Rattle.xf_def_forest.specs.Texts.{Keeping}
use Rattle.xf_def_forest.specs.Visit.{visits}
use Rattle.xf_tree_walks.specs.Nodes.{node_of}
use Rattle.xf_tree_walks.proofs.ReadLemmas.{absent-pieces}
use Rattle.xf_tree.proofs.MeansLemmas.{pieces-means}
use Rattle.xf_tree.proofs.forest.Forest.whole_value.Goals as goal

pub returns-in-Some : goal.returns-in-Some
returns-in-Some c =
    let n = c.args.node.number in
    let s = c.self.inside.slots in
    let rows = c.self.inside.rows.items in
    let at = c.in-Some.at in
    let here = c.in-Some.ensures in
    c.whole_at.ensures
    ∙ ap whole (sym (pieces-means s n at rows c.self.inside.kept.items c.self.inside.next c.self.invariant.sound here)) ∙ ap (λ (k : Keeping). whole (pieces n (visits k.forest.nodes))) c.self.view_is

pub returns-in-None : goal.returns-in-None
returns-in-None c =
    let n = c.args.node.number in
    let s = c.self.inside.slots in
    let absent : has_number n (map (node_of s) c.self.inside.rows.items) ≡ false = c.in-None.ensures in
    ap whole (sym (absent-pieces n (map (node_of s) c.self.inside.rows.items) absent)) ∙ ap (λ (k : Keeping). whole (pieces n (visits k.forest.nodes))) c.self.view_is
