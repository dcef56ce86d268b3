use Rattle.std.proofs.Common.{sym, ap, ◌∙◌}
use Rattle.xf_def_forest.specs.Order.{rank_of}
use Rattle.xf_def_forest.specs.Texts.{Keeping}
use Rattle.xf_tree.proofs.MeansLemmas.{rank-means}
use Rattle.xf_tree.proofs.forest.Forest.rank.Goals as goal

pub returns-in-Some : goal.returns-in-Some
returns-in-Some c =
    let n = c.args.node.number in
    let s = c.self.inside.slots in
    let rows = c.self.inside.rows.items in
    let at = c.in-Some.at in
    let here = c.in-Some.ensures in
    sym (rank-means s n at rows c.self.inside.kept.items c.self.inside.next c.self.invariant.sound here) ∙ ap (λ (k : Keeping). rank_of n k.forest.nodes) c.self.view_is
