use Rattle.xf_def_ui.specs.Interface.{interface_of}
use Rattle.xf_controls.specs.Known.{AreNoted}
use Rattle.xf_controls.proofs.finding.noted.Given as goal

abbrev pub invariant-loop-copy : goal.invariant-loop-copy
invariant-loop-copy l = AreNoted (interface_of l.form) l.copies l.known.items
