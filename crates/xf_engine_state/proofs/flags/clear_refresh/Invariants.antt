use Rattle.std.proofs.Common.{◌≡◌, map, take, drop, ◌++◌}
use Rattle.xf_engine_state.specs.Flags.{without_refresh}
use Rattle.xf_engine_state.proofs.flags.clear_refresh.Given as goal

abbrev pub invariant-loop-flags : goal.invariant-loop-flags
invariant-loop-flags l = l.flags ≡ map without_refresh (take l.flags-index l.fn.flags) ++ drop l.flags-index l.fn.flags
