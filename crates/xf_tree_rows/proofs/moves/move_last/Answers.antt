use Rattle.std.proofs.Common.{ap, ◌∙◌}
use Rattle.xf_tree_rows.specs.Rows.{rotated}
use Rattle.xf_tree_rows.proofs.RootedLemmas.{last-moved}
use Rattle.xf_tree_rows.proofs.moves.move_last.Goals as goal

pub returns-clause-moved : goal.returns-clause-moved
returns-clause-moved c =
    let old = c.args.rows.now.items in
    last-moved c.args.at c.end_of-end.result old c.rotate.new.self.items c.requires.within c.end_of-end.ensures.answer c.end_of-end.ensures.within
    (c.rotate.ensures.items ∙ ap (λ n. rotated c.args.at c.end_of-end.result n old) c.len-all.ensures)
