-- What the event tells that a submission ends with (XForms 1.1, sections 11.4 and 11.5).
use Rattle.std.specs.Prelude.{ℕ, List, Option, Some, None}
use Rattle.xf_def_syntax.specs.declared.form.Submission.{Submission}
use Rattle.xf_def_machine.specs.Exchange.{done_told, failed_told}
use Rattle.xf_def_machine.specs.Surround.{Told}

-- by the type of its error, where it failed
abbrev pub end_told : Submission → Option (List ℕ) → Told
end_told sub None = done_told sub
end_told sub (Some error) = failed_told sub error
