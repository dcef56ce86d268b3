-- Events as they are dispatched (DOM Level 2 Events, section 1.2; XForms 1.1, section 4): to a copy of an element, with their properties.
use Rattle.std.specs.Prelude.{ℕ, Bool, true, false, List, [], ◌∷◌, bytes_eq, codes, get_or, if◌then◌else◌}
use Rattle.std.specs.List.{list_any}
use Rattle.xf_def_ui.specs.Calls.{Event}
use Rattle.xf_def_ui.specs.Named.{rows_cut}
use Rattle.xf_def_ui.specs.Notifications.{Notification}
use Rattle.xf_def_machine.specs.State.{State}
use Rattle.xf_def_machine.specs.Surround.{Told, interface}
use Rattle.xf_def_machine.specs.Flow.{Run}

-- an event to a copy of an element
pub record Fired : Type 0 where
  pub event : Event
  -- the chain of rows of the target's copy
  pub rows : List ℕ
  pub told : Told

-- what dispatches an event
abbrev pub Tell : Type 0
Tell = Fired → Run

-- ---- which events can be cancelled

-- the known events that can be cancelled
abbrev pub cancelable_names : List (List ℕ)
cancelable_names =
    codes "DOMActivate" ∷ codes "xforms-rebuild" ∷ codes "xforms-recalculate" ∷ codes "xforms-revalidate" ∷ codes "xforms-refresh"
    ∷ codes "xforms-reset" ∷ codes "xforms-submit" ∷ []

-- the known events that cannot
abbrev pub other_names : List (List ℕ)
other_names =
    codes "xforms-submit-done" ∷ codes "xforms-submit-error" ∷ codes "xforms-insert" ∷ codes "xforms-delete"
    ∷ codes "xforms-value-changed" ∷ codes "xforms-valid" ∷ codes "xforms-invalid" ∷ codes "xforms-readonly" ∷ codes "xforms-readwrite"
    ∷ codes "xforms-required" ∷ codes "xforms-optional" ∷ codes "xforms-enabled" ∷ codes "xforms-disabled"
    ∷ codes "xforms-select" ∷ codes "xforms-deselect"
    ∷ codes "xforms-model-construct" ∷ codes "xforms-model-construct-done" ∷ codes "xforms-ready" ∷ []

-- the name is one of these
abbrev pub is_named : List (List ℕ) → List ℕ → Bool
is_named names name = list_any (bytes_eq name) names

-- an event that is known is so or not, whatever is written; another one as it is written
abbrev pub can_be_cancelled : List ℕ → Bool → Bool
can_be_cancelled name written = if is_named cancelable_names name then true else if is_named other_names name then false else written

-- each known event bubbles; another one as it is written
abbrev pub bubbles_if : List ℕ → Bool → Bool
bubbles_if name written = if is_named cancelable_names name then true else if is_named other_names name then true else written

-- ---- events

-- to the copy in these rows, with what is written of it
abbrev pub fired : List ℕ → Bool → Bool → Told → ℕ → List ℕ → Fired
fired name bubbles is_cancelable told target rows = record {
  event = record { name = name; target = target; bubbles = bubbles_if name bubbles; is_cancelable = can_be_cancelled name is_cancelable };
  rows = rows;
  told = told;
}

-- an event without properties
abbrev pub plainly : List ℕ → ℕ → List ℕ → Fired
plainly name target rows = fired name true true [] target rows

-- to a model, an instance or a submission: in the indexed rows, as far as there are some
abbrev pub fired_at : State → List ℕ → Told → ℕ → Fired
fired_at s name told target = fired name true true told target (rows_cut (interface s) s.indexes target)

-- the event of a notification
abbrev pub told_by : Notification → Fired
told_by n = plainly n.name n.target n.rows

-- ---- elements by their numbers among their kind

-- that of a model
abbrev pub model_element : State → ℕ → ℕ
model_element s k = get_or s.form.model_elements k 0

-- that of a submission
abbrev pub submission_element : State → ℕ → ℕ
submission_element s k = get_or s.form.submission_elements k 0
