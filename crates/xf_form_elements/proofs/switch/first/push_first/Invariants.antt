use Rattle.std.proofs.Common.{◌≡◌, ◌++◌, map, take}
use Rattle.xf_def_ui.specs.Cases.{first_case, place_of_case}
use Rattle.xf_def_ui.specs.Interface.{interface_of}
use Rattle.xf_form_elements.proofs.switch.first.push_first.Given as goal

abbrev pub invariant-loop-element : goal.invariant-loop-element
invariant-loop-element l = l.cases.items ≡ l.fn.cases.items ++ map (λ n. place_of_case (interface_of l.form) n (first_case (interface_of l.form) n)) (take l.element-index l.switches)
