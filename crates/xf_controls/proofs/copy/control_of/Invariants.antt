use Rattle.std.proofs.Common.{◌≡◌, drop, map}
use Rattle.std.specs.Prelude.{find}
use Rattle.xf_controls.specs.Seen.{is_copy_at, number, seen_copy}
use Rattle.xf_controls.proofs.copy.control_of.Given as goal

abbrev pub invariant-loop-copy : goal.invariant-loop-copy
invariant-loop-copy l =
    let sought = is_copy_at l.element (map number l.rows) in find sought (map seen_copy l.copy-items) ≡ find sought (map seen_copy (drop l.copy-index l.copy-items))
