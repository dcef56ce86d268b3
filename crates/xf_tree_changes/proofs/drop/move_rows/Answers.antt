use Rattle.std.proofs.Common.{◌≡◌, ap, ◌∙◌, arith}
use Rattle.std.specs.List.{copy_within}
use Rattle.xf_tree_changes.proofs.MoveOlderLemmas.{moved-none}
use Rattle.xf_tree_changes.proofs.drop.move_rows.Goals as goal

pub returns-else-to-at-clause-rows : goal.returns-else-to-at-clause-rows
returns-else-to-at-clause-rows c =
    let same : c.args.at ≡ c.args.to = omega arith in
    moved-none c.args.rows.now.items c.args.at c.args.end c.requires.first c.requires.second ∙ ap (copy_within c.args.rows.now.items c.args.at c.args.end) same
