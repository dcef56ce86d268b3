use Rattle.std.proofs.Common.{◌≡◌, drop}
use Rattle.std.specs.List.{flat_map}
use Rattle.xf_def_syntax.specs.Ordered.{child_in}
use Rattle.xf_def_ui.specs.Interface.{interface_of}
use Rattle.xf_controls.specs.Plain.{are_children}
use Rattle.xf_controls.proofs.element.are_children.Given as goal

abbrev pub invariant-loop-part : goal.invariant-loop-part
invariant-loop-part l = are_children (interface_of l.form) l.at (flat_map child_in l.parts) ≡ are_children (interface_of l.form) l.at (flat_map child_in (drop l.part-index l.parts))
