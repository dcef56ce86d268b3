-- What the calls on the parts of a state do and give.
use Rattle.std.specs.Prelude.{ℕ, ◌≡◌, ◌++◌, List, [], map, length, get_or, slice_set, nat_lt, Option, Some, None, Result, Ok, Err, false, true}
use Rattle.xf_base.specs.Limits.{copy_limit}
use Rattle.xf_def_forest.specs.Forest.{Forest}
use Rattle.xf_binds.specs.Kept.{Kept}
use Rattle.xf_controls.specs.declared.copy.ControlCopy.{ControlCopy}
use Rattle.xf_controls.specs.declared.refresh.Notification.{Notification}
use Rattle.xf_controls.specs.Seen.{seen_copy, seen_notification}
use Rattle.xf_def_machine.specs.declared.limit.LimitWord.TheVariants.{Controls}
use Rattle.xf_def_machine.specs.declared.limit.LimitWord.TheVariants as word
use Rattle.xf_def_xpath.specs.declared.fault.EvalFault.{EvalFault}
use Rattle.xf_def_xpath.specs.declared.fault.EvalFault.TheVariants as eval
use Rattle.xf_def_ui.specs.Copies.{Copy, copy_count}
use Rattle.xf_def_ui.specs.Notifications.{notifications}
use Rattle.xf_def_machine.specs.Behave as machine
use Rattle.xf_def_machine.specs.ControlText.{state_text}
use Rattle.xf_def_machine.specs.Flow.{◌>>=◌}
use Rattle.xf_def_machine.specs.Update as update
use Rattle.xf_def_machine.specs.State.{State}
use Rattle.xf_def_machine.specs.declared.refusal.Refusal.TheVariants.{Limit}
use Rattle.xf_form.specs.declared.loaded.Loaded.{Loaded}
use Rattle.xf_engine_state.specs.declared.fault.WorkFault.{WorkFault}
use Rattle.xf_engine_state.specs.declared.fault.WorkFault.TheVariants.{Refused, Memory}
use Rattle.xf_engine_state.specs.declared.flags.Flag.TheVariants.{Rebuild}
use Rattle.xf_engine_state.specs.declared.flags.Flags.{Flags}
use Rattle.xf_engine_state.specs.declared.tally.Tally.{Tally}
use Rattle.xf_def_form.specs.Formed.{profile}
use Rattle.xf_engine_state.specs.Does.{Does, Finds, IsRefused}
use Rattle.xf_engine_state.specs.Flags.{none_due, without}
use Rattle.xf_engine_state.specs.Parts.{Chosen, standing_of}
use Rattle.xf_engine_state.specs.Standing.{Standing, state_of}

-- one thing is due no more of a model
abbrev pub rebuilt_flags : List Flags → ℕ → List Flags
rebuilt_flags flags model = slice_set flags model (without Rebuild (get_or flags model none_due))

-- whatever is due, shown and counted besides
abbrev pub Rebuilds : {X : Type 0} → Loaded → Forest → ℕ → List Kept → List Kept → Result X WorkFault → Type 0
Rebuilds loaded forest model before after result = (chosen : Chosen) (flags : List Flags) (controls : List ControlCopy) (tally : Tally) → length before ≡ length flags →
    Does result (standing_of chosen loaded forest after (rebuilt_flags flags model) controls tally) (machine.rebuild profile model (state_of (standing_of chosen loaded forest before flags controls tally)))

abbrev pub Shows : Chosen → Loaded → Forest → List Kept → Result (List ControlCopy) WorkFault → Type 0
Shows chosen loaded forest table result = (flags : List Flags) (controls : List ControlCopy) (tally : Tally) → length table ≡ length flags →
    Finds (map seen_copy) result (update.shown profile (state_of (standing_of chosen loaded forest table flags controls tally)))

-- the list is given, unless it has too many copies
abbrev pub IsWithin : Result (List ControlCopy) WorkFault → List ControlCopy → Type 0
IsWithin (Ok given) list = (given ≡ list) × (nat_lt copy_limit (copy_count (map seen_copy list)) ≡ false)
IsWithin (Err (Refused refusal)) list = (refusal ≡ Limit Controls) × (nat_lt copy_limit (copy_count (map seen_copy list)) ≡ true)
IsWithin (Err Memory) list = ⊥

abbrev pub Writes : Chosen → Loaded → Forest → List Kept → List ControlCopy → List ℕ → List ℕ → Type 0
Writes chosen loaded forest table controls before after = (flags : List Flags) (tally : Tally) → length table ≡ length flags →
    after ≡ before ++ state_text profile (state_of (standing_of chosen loaded forest table flags controls tally))

abbrev pub long_or_memory : EvalFault → WorkFault
long_or_memory eval.Long = Refused (Limit word.Long)
long_or_memory eval.Memory = Memory

-- the controls are those made afresh, and the answer is what is told of the differences, while what is due stays so
pub record AreShown (answer : List Notification) (before after : Standing) : Type 0 where
  pub list : List Copy
  pub shown : update.shown profile (state_of before) ≡ Ok list
  pub told : map seen_notification answer ≡ notifications before.controls list
  pub now : after ≡ record before { controls = list }

abbrev pub ShowsOthers : Result (List Notification) WorkFault → Standing → Standing → Type 0
ShowsOthers (Ok answer) before after = AreShown answer before after
ShowsOthers (Err (Refused refusal)) before after = IsRefused refusal (update.shown profile (state_of before))
ShowsOthers (Err Memory) before after = Unit {0}

-- the same after the indexes were brought up to date, and flags are cleared: those of a refresh, of one model or of all
pub record AreRefreshed (cleared : State → State) (answer : List Notification) (before after : Standing) : Type 0 where
  pub t : State
  pub list : List Copy
  pub brought : update.reindex profile [] (state_of before) ≡ Ok t
  pub shown : update.shown profile t ≡ Ok list
  pub told : map seen_notification answer ≡ notifications t.controls list
  pub now : state_of after ≡ cleared (record t { controls = list })

abbrev pub Refreshes : (State → State) → Result (List Notification) WorkFault → Standing → Standing → Type 0
Refreshes cleared (Ok answer) before after = AreRefreshed cleared answer before after
Refreshes cleared (Err (Refused refusal)) before after = IsRefused refusal (update.reindex profile [] (state_of before) >>= update.shown profile)
Refreshes cleared (Err Memory) before after = Unit {0}

-- copies have the values of their nodes, unless a string is too long
abbrev pub Renews : {X : Type 0} → Result X WorkFault → Option (List ControlCopy) → List ControlCopy → Type 0
Renews (Ok x) given list = given ≡ Some list
Renews (Err (Refused refusal)) given list = (refusal ≡ Limit word.Long) × (given ≡ None)
Renews (Err Memory) given list = Unit {0}
