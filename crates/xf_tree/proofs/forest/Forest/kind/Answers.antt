use Rattle.std.proofs.Common.{Some, option_map, sym, ap, ◌∙◌}
use Rattle.slab.specs.Slab.{get}
use Rattle.xf_def_forest.specs.Forest.{kind_of, kind_at}
use Rattle.xf_def_forest.specs.Texts.{Keeping}
use Rattle.xf_tree_rows.specs.declared.rows.Row.{Row}
use Rattle.xf_tree_contents.specs.Keys.{content_in}
use Rattle.xf_tree.proofs.MeansLemmas.{content-means}
use Rattle.xf_tree.proofs.forest.Forest.kind.Goals as goal

pub returns-in-Some : goal.returns-in-Some
returns-in-Some c =
    let n = c.args.node.number in
    let s = c.self.inside.slots in
    let rows = c.self.inside.rows.items in
    let at = c.in-Some.at in
    let here = c.in-Some.ensures in
    let row = c.at.ensures in
    let means = ap (option_map kind_of) (content-means s n at rows c.self.inside.kept.items c.self.inside.next c.self.invariant.sound here) in
    ap Some (c.kind.ensures ∙ ap (λ (r : Row). kind_of (content_in (get s r.key))) row) ∙ sym means ∙ ap (λ (k : Keeping). kind_at n k.forest.nodes) c.self.view_is
