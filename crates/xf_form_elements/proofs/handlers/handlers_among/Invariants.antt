use Rattle.std.proofs.Common.{◌≡◌, ◌++◌, drop}
use Rattle.xf_def_syntax.specs.declared.form.Tables.{Tables}
use Rattle.xf_form_elements.proofs.HandlerLemmas.{left}
use Rattle.xf_form_elements.proofs.handlers.handlers_among.Given as goal

abbrev pub invariant-loop-place : goal.invariant-loop-place
invariant-loop-place l = (tables : Tables) → l.all ++ left tables l.observer l.place (drop l.place l.elements) ≡ left tables l.observer 0 l.elements
