-- Each item of a session counts as one accepted event.
use Rattle.std.specs.Prelude.{ℕ, ◌≡◌, true, List, length, Some}
use Rattle.xf_store.specs.declared.answers.Answer.{Answer}
use Rattle.xf_def_machine.specs.Program.{Program}
use Rattle.xf_law_machine.specs.Rest.Rests.{is_filled}
use Rattle.xf_def_sessions.specs.Sessions.{Machine, Session}
use Rattle.xf_def_sessions.specs.Runs.{Item, Ran}

-- the forms that are read have no empty texts in their documents
abbrev pub FormsAreFilled : Machine → Type 0
FormsAreFilled m = (bytes : List ℕ) (form : Program) → m.form_in bytes ≡ Some form → is_filled form ≡ true

-- as many accepted events as items, and the state has the form that the bytes are
pub record IsCounted (m : Machine) (items : List Item) (s : Session) : Type 0 where
  pub accepted : s.state.accepted ≡ length items
  pub form : m.form_in s.form ≡ Some s.state.form

abbrev pub RunsCount : Type 0
RunsCount = (m : Machine) (bytes : List ℕ) (answers : List Answer) (items : List Item) (last : Session)
    → FormsAreFilled m → Ran m bytes answers items last → IsCounted m items last
