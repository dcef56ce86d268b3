-- The rows, indexes and copies of controls over a state with other numbers of nodes (XForms 1.1, sections 8 and 9): they are those of the
-- state, with these numbers. Asked of the form: its elements and binds are those of the tables of a form, as those of each that is loaded.
use Rattle.std.specs.Prelude.{ℕ, ◌≡◌, List, map, option_map, Result, Ok, Err}
use Rattle.xf_def_syntax.specs.declared.form.Form.{Form}
use Rattle.xf_store.specs.declared.answers.Answer.{Answer}
use Rattle.xf_store.specs.declared.call.Asked.{Asked}
use Rattle.xf_def_forest.specs.Same.{renumbered_visit}
use Rattle.xf_def_xpath.specs.Same.{renumbered_given}
use Rattle.xf_def_model.specs.Rules.{rule_of}
use Rattle.xf_def_ui.specs.Around.{Around}
use Rattle.xf_def_ui.specs.Copies.{Copy}
use Rattle.xf_def_ui.specs.Index.{Index, Stop}
use Rattle.xf_def_ui.specs.Interface.{interface_of}
use Rattle.xf_def_ui.specs.Notifications.{Notification, notifications}
use Rattle.xf_def_machine.specs.Profile.{Profile}
use Rattle.xf_def_machine.specs.Program.{Program}
use Rattle.xf_def_machine.specs.State.{State}
use Rattle.xf_def_machine.specs.Refusal.{Refused}
use Rattle.xf_def_machine.specs.Flow.{Run}
use Rattle.xf_def_machine.specs.Update.{reindex, shown, refresh_cleared, all_cleared}
use Rattle.xf_def_machine.specs.Choose.{set_index}
use Rattle.xf_def_machine.specs.Exchange.{with_call}
use Rattle.xf_def_machine.specs.Same.{renumbered_index, renumbered_copy}
use Rattle.xf_law_sessions.specs.Same.Going.{Runs, image, Counts, GoesAt, Goes}

-- what surrounds expressions, and the same with other numbers
pub record GoesAround (f : ℕ → ℕ) (a b : Around) : Type 0 where
  pub functions : b.functions ≡ a.functions
  pub most : b.most ≡ a.most
  pub given : b.given ≡ renumbered_given f a.given
  pub all : b.all ≡ map (renumbered_visit f) a.all
  pub bound : (k : ℕ) → b.bound k ≡ option_map (map f) (a.bound k)

abbrev pub renumbered_brought : (ℕ → ℕ) → Result (List Index) Stop → Result (List Index) Stop
renumbered_brought f (Ok indexes) = Ok (map (renumbered_index f) indexes)
renumbered_brought f (Err stop) = Err stop

abbrev pub renumbered_list : (ℕ → ℕ) → Result (List Copy) Refused → Result (List Copy) Refused
renumbered_list f (Ok list) = Ok (map (renumbered_copy f) list)
renumbered_list f (Err refusal) = Err refusal

abbrev pub renumbered_notification : (ℕ → ℕ) → Notification → Notification
renumbered_notification f n = record n { rows = map f n.rows }

pub record HasForm (program : Program) : Type 0 where
  pub form : Form
  pub rules : program.rules ≡ map rule_of form.tables.binds
  pub interface : program.interface ≡ interface_of form

abbrev pub GoesWithForm : Profile → (ℕ → ℕ) → ℕ → ℕ → Run → Run → Type 0
GoesWithForm p f first second run other = (s : State) → HasForm s.form → Counts p first s → GoesAt p f first second run other s

pub record ControlLaws (p : Profile) (f : ℕ → ℕ) (first second : ℕ) : Type 0 where
  pub reindex : (added : List ℕ) → GoesWithForm p f first second (reindex p added) (reindex p (map f added))
  pub set_index : (model r n : ℕ) → GoesWithForm p f first second (set_index p model r n) (set_index p model r n)
  -- the list of the controls made afresh, and what is told of two lists
  pub shown : (s : State) → HasForm s.form → shown p (image f second s) ≡ renumbered_list f (shown p s)
  pub told : (before now : List Copy) → notifications (map (renumbered_copy f) before) (map (renumbered_copy f) now) ≡ map (renumbered_notification f) (notifications before now)
  pub controls : (list : List Copy) → Goes p f first second (λ s. Ok (record s { controls = list })) (λ s. Ok (record s { controls = map (renumbered_copy f) list }))
  pub cleared : (model : ℕ) → Goes p f first second (λ s. Ok (refresh_cleared model s)) (λ s. Ok (refresh_cleared model s))
  pub all_cleared : Goes p f first second (λ s. Ok (all_cleared s)) (λ s. Ok (all_cleared s))
  pub called : (name : List ℕ) (asked : Asked) (answer : Answer) → Goes p f first second (λ s. Ok (with_call name asked answer s)) (λ s. Ok (with_call name asked answer s))

abbrev pub ControlsGo : Type 0
ControlsGo = (p : Profile) (f : ℕ → ℕ) (first second : ℕ) → Runs p f first second → ControlLaws p f first second
