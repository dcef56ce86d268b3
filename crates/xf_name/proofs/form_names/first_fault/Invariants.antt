use Rattle.std.proofs.Common.{◌≡◌, map, drop}
use Rattle.xf_name.specs.Shown.{shown_by}
use Rattle.xf_name.specs.FirstShown.{first_shown}
use Rattle.xf_name.proofs.form_names.first_fault.Given as goal

abbrev pub invariant-loop-at : goal.invariant-loop-at
invariant-loop-at l = first_shown l.prefixes 0 (map shown_by l.elements) ≡ first_shown l.prefixes l.at (map shown_by (drop l.at l.elements))
