use Rattle.std.proofs.Common.{◌≤◌, length, get_or, sym, arith}
use Rattle.xf_engine_state.specs.Flags.{none_due, with_refresh}
use Rattle.xf_engine_state.proofs.SetLaws.{set-past}
use Rattle.xf_engine_state.proofs.flags.set_refresh.Goals as goal

pub returns-else-at-flags : goal.returns-else-at-flags
returns-else-at-flags c =
    let fs = c.args.flags.now in
    let past : length fs ≤ c.args.model = omega (arith, c.if-at-flags.false) in
    sym (set-past fs c.args.model (with_refresh c.args.due (get_or fs c.args.model none_due)) past)
