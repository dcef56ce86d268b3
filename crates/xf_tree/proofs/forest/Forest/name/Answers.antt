use Rattle.std.proofs.Common.{option_map, sym, ap, ◌∙◌}
use Rattle.std.specs.Prelude.{option_and_then}
use Rattle.slab.specs.Slab.{get}
use Rattle.xf_def_forest.specs.declared.content.Name.{Name}
use Rattle.xf_def_forest.specs.Forest.{name_in, name_at}
use Rattle.xf_def_forest.specs.Texts.{Keeping}
use Rattle.xf_tree_rows.specs.declared.rows.Row.{Row}
use Rattle.xf_tree_contents.specs.Keys.{content_in}
use Rattle.xf_tree.proofs.MeansLemmas.{content-means}
use Rattle.xf_tree.proofs.forest.Forest.name.Goals as goal

pub returns-in-Some : goal.returns-in-Some
returns-in-Some c =
    let n = c.args.node.number in
    let s = c.self.inside.slots in
    let rows = c.self.inside.rows.items in
    let at = c.in-Some.at in
    let here = c.in-Some.ensures in
    let row = c.at.ensures in
    let means = ap (λ o. option_map (λ (name : Name). name.meaning) (option_and_then name_in o)) (content-means s n at rows c.self.inside.kept.items c.self.inside.next c.self.invariant.sound here) in
    c.name.ensures ∙ ap (λ (r : Row). option_map (λ (name : Name). name.meaning) (name_in (content_in (get s r.key)))) row ∙ sym means ∙ ap (λ (k : Keeping). name_at n k.forest.nodes) c.self.view_is
