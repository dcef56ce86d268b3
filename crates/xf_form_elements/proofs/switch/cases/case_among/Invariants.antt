use Rattle.std.proofs.Common.{◌≡◌, drop, get_or}
use Rattle.xf_def_ui.specs.Interface.{interface_of}
use Rattle.xf_form_elements.specs.Switch.Among.{cases_among}
use Rattle.xf_form_elements.proofs.switch.cases.case_among.Given as goal

abbrev pub invariant-loop-part : goal.invariant-loop-part
invariant-loop-part l = get_or (cases_among (interface_of l.form) l.parts) l.place 0 ≡ get_or (cases_among (interface_of l.form) (drop l.part-index l.parts)) l.left 0
