use Rattle.std.proofs.Common.{◌≡◌, drop, map}
use Rattle.std.specs.List.{list_all}
use Rattle.xf_def_syntax.specs.Ordered.{numbered_from}
use Rattle.xf_def_ui.specs.Interface.{element_of, interface_of}
use Rattle.xf_controls.specs.Plain.{stands_plainly}
use Rattle.xf_controls.proofs.element.all_plain.Given as goal

abbrev pub invariant-loop-at : goal.invariant-loop-at
invariant-loop-at l =
    list_all (stands_plainly (interface_of l.form)) (numbered_from 0 (map (element_of l.form.tables) l.elements))
    ≡ list_all (stands_plainly (interface_of l.form)) (numbered_from l.at (map (element_of l.form.tables) (drop l.at l.elements)))
