use Rattle.std.proofs.Common.{length, sym, subst}
use Rattle.xf_def_forest.specs.Limits.{limits}
use Rattle.xf_def_forest.specs.Planted.{contents_of_bare, with_tree}
use Rattle.xf_engine_state.specs.Moving.{IsRefusedBy}
use Rattle.xf_engine_state.proofs.MovedLaws.{bare-refused}
use Rattle.xf_engine_state.proofs.moving.plant_in.Goals as goal

pub returns-in-Err-clause-done : goal.returns-in-Err-clause-done
returns-in-Err-clause-done c =
    let d = c.args.draft.now in
    let b = c.args.prefixes.now in
    let bare = c.args.tree.now in
    let count = length (contents_of_bare b bare 0 0) in
    subst (IsRefusedBy count c.args.tally.now (with_tree limits (contents_of_bare b bare 0 0) d.now)) (sym c.fault_of.ensures)
    (bare-refused b bare d count c.args.tally.now c.in-Err.fault c.in-Err.ensures.answer)
