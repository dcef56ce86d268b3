use Rattle.std.proofs.Common.{drop}
use Rattle.xf_law_bindings.specs.Fixed.{AllFixed}
use Rattle.xf_def_ui.specs.Interface.{interface_of}
use Rattle.xf_controls.proofs.finding.are_fixed.Given as goal

abbrev pub invariant-loop-element : goal.invariant-loop-element
invariant-loop-element l = AllFixed (interface_of l.form) (drop l.element-index l.elements) → AllFixed (interface_of l.form) l.elements
