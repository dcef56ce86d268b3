use Rattle.std.proofs.Common.{get_or, arith}
use Rattle.std.proofs.lemmas.List.Edits.{map_over_more}
use Rattle.std.proofs.lemmas.List.{get_or_default}
use Rattle.xf_engine_state.specs.Flags.{none_due, without_refresh}
use Rattle.xf_engine_state.proofs.flags.clear_refresh.Goals as goal

pub loop-flags-preserved : goal.loop-flags-preserved
loop-flags-preserved c =
    let ys = c.loop-flags.flags in
    let i = c.loop-flags.flags-index in
    map_over_more without_refresh c.args.flags.now ys i (get_or ys i none_due) (omega arith) c.loop-flags.invariant (get_or_default ys i none_due _ (omega arith))
