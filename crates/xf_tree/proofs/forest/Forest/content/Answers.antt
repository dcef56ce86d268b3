use Rattle.std.proofs.Common.{map, false, ◌≡◌, option_map, sym, ap, ◌∙◌}
use Rattle.slab.specs.Slab.{get}
use Rattle.xf_def_forest.specs.Forest.{has_number, content_at}
use Rattle.xf_def_forest.specs.Texts.{Keeping}
use Rattle.xf_tree_rows.specs.declared.rows.Row.{Row}
use Rattle.xf_tree_contents.specs.Slot.{Slot}
use Rattle.xf_tree_walks.specs.Nodes.{node_of}
use Rattle.xf_tree_walks.proofs.ReadLemmas.{absent-content}
use Rattle.xf_tree.proofs.MeansLemmas.{slot-content}
use Rattle.xf_tree.proofs.forest.Forest.content.Goals as goal

pub returns-in-Some : goal.returns-in-Some
returns-in-Some c =
    let n = c.args.node.number in
    let s = c.self.inside.slots in
    let rows = c.self.inside.rows.items in
    let at = c.in-Some.at in
    let here = c.in-Some.ensures in
    let row = c.at.ensures in
    c.content_of.ensures ∙ ap (λ (r : Row). option_map (λ (p : Slot). p.content) (get s r.key)) row
    ∙ slot-content s n at rows c.self.inside.kept.items c.self.inside.next c.self.invariant.sound here ∙ ap (λ (k : Keeping). content_at n k.forest.nodes) c.self.view_is

pub returns-in-None : goal.returns-in-None
returns-in-None c =
    let n = c.args.node.number in
    let s = c.self.inside.slots in
    let absent : has_number n (map (node_of s) c.self.inside.rows.items) ≡ false = c.in-None.ensures in
    sym (absent-content n (map (node_of s) c.self.inside.rows.items) absent) ∙ ap (λ (k : Keeping). content_at n k.forest.nodes) c.self.view_is
