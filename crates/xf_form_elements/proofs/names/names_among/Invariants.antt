use Rattle.std.proofs.Common.{◌≡◌, ℕ, List, map, take}
use Rattle.xf_def_syntax.specs.declared.form.Tables.{Tables}
use Rattle.xf_def_ui.specs.Interface.{element_of}
use Rattle.xf_form_elements.specs.Names.{found, named_from}
use Rattle.xf_form_elements.proofs.names.names_among.Given as goal

abbrev pub invariant-loop-place : goal.invariant-loop-place
invariant-loop-place l = (tables : Tables) (id : List ℕ) → found l.all id ≡ named_from id 0 (map (element_of tables) (take l.place l.elements))
