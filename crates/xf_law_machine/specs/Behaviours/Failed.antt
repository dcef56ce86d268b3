-- A submission that fails (XForms 1.1, section 11.2) changes nothing between the end of its first step, in which what is due is done, and the
-- event that tells its error: but for the calls of the store that were made.
use Rattle.std.specs.Prelude.{◌≡◌, List, ℕ, Ok}
use Rattle.xf_store.specs.declared.answers.Answer.{Answer}
use Rattle.xf_def_syntax.specs.declared.form.Submission.{Submission}
use Rattle.xf_def_machine.specs.Profile.{Profile}
use Rattle.xf_def_machine.specs.State.{State}
use Rattle.xf_def_machine.specs.Events.{Tell}
use Rattle.xf_def_machine.specs.Submit.{failed}
use Rattle.xf_def_machine.specs.Exchange.{attempt}

abbrev pub KeepsAllButCalls : State → State → Type 0
KeepsAllButCalls s t = t ≡ record s { calls = t.calls }

-- whatever the store answers, and whatever the events do that are told on the way
abbrev pub FailedKeeps : Type 0
FailedKeeps =
    (p : Profile) (answers : List Answer) (tell : Tell) (sub : Submission) (s t : State) (error : List ℕ)
    → attempt p answers tell sub s ≡ Ok (failed error t) → KeepsAllButCalls s t
