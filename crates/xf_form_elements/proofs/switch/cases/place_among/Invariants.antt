use Rattle.std.proofs.Common.{◌≡◌, ◌+◌, ◌≤◌, ◌==◌, drop}
use Rattle.std.specs.List.{position_or_len}
use Rattle.xf_def_ui.specs.Interface.{interface_of}
use Rattle.xf_form_elements.specs.Switch.Among.{cases_among}
use Rattle.xf_form_elements.proofs.switch.cases.place_among.Given as goal

abbrev pub invariant-loop-part : goal.invariant-loop-part
invariant-loop-part l = record {
  place : position_or_len (λ m. m == l.case) (cases_among (interface_of l.form) l.parts)
      ≡ l.place + position_or_len (λ m. m == l.case) (cases_among (interface_of l.form) (drop l.part-index l.parts));
  within : l.place ≤ l.part-index;
}
