use Rattle.std.proofs.Common.{◌≡◌, map, drop, nat_lt}
use Rattle.xf_controls.specs.Seen.{seen_copy}
use Rattle.xf_def_ui.specs.Copies.{copy_count}
use Rattle.xf_engine_state.proofs.CountLaws.{items_in}
use Rattle.xf_engine_state.proofs.showing.is_over.Given as goal

abbrev pub invariant-loop-copy : goal.invariant-loop-copy
invariant-loop-copy l = nat_lt l.left (items_in (drop l.copy-index l.list)) ≡ nat_lt 65536 (copy_count (map seen_copy l.fn.list))
