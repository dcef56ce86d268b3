use Rattle.std.proofs.Common.{sym, ap, ◌∙◌}
use Rattle.xf_def_forest.specs.Order.{is_before}
use Rattle.xf_def_forest.specs.Texts.{Keeping}
use Rattle.xf_tree.proofs.MeansLemmas.{before-means}
use Rattle.xf_tree.proofs.forest.Forest.before.Goals as goal

pub returns-in-Some-Some : goal.returns-in-Some-Some
returns-in-Some-Some c =
    let n = c.args.first.number in
    let m = c.args.second.number in
    let s = c.self.inside.slots in
    let rows = c.self.inside.rows.items in
    let at = c.in-Some-Some.one in
    let to = c.in-Some-Some.other in
    let here = c.in-Some-Some.ensures in
    let there = c.in-Some-Some.ensures' in
    sym (before-means s n m at to rows c.self.inside.kept.items c.self.inside.next c.self.invariant.sound here there) ∙ ap (λ (k : Keeping). is_before n m k.forest.nodes) c.self.view_is
