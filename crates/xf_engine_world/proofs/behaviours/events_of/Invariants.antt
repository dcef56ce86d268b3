use Rattle.std.proofs.Common.{◌≡◌, map, take}
use Rattle.xf_controls.specs.Seen.{seen_notification}
use Rattle.xf_def_machine.specs.Events.{told_by}
use Rattle.xf_actions.specs.Seen.{fired_of}
use Rattle.xf_engine_world.proofs.behaviours.events_of.Given as goal

abbrev pub invariant-loop-one : goal.invariant-loop-one
invariant-loop-one l = map fired_of l.events ≡ map told_by (map seen_notification (take l.one-index l.one-items))
