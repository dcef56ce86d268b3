-- Which handlers an event calls (DOM Level 2 Events, sections 1.2.1 to 1.2.4; XML Events, section 3), from the list of the target's ancestors
-- alone.
use Rattle.std.specs.Prelude.{ℕ, Bool, true, false, not, ◌&&◌, List, [], ◌∷◌, ◌++◌, map, filter, Option, Some, None, bytes_eq, ◌==◌, if◌then◌else◌}
use Rattle.std.specs.List.{list_any, flat_map}
use Rattle.xf_def_syntax.specs.declared.action.Handler.{Handler}
use Rattle.xf_def_syntax.specs.declared.action.Phase.{Phase}
use Rattle.xf_def_syntax.specs.declared.action.Phase.TheVariants.{Capture, Default}
use Rattle.xf_def_syntax.specs.Ordered.{numbered_from}
use Rattle.xf_def_ui.specs.declared.answers.CallList.{CallList}
use Rattle.xf_def_ui.specs.Interface.{Sort, Interface, action}
use Rattle.xf_def_ui.specs.Elements.{ancestors, path_to}

-- an event that is dispatched
pub record Event : Type 0 where
  pub name : List ℕ
  pub target : ℕ
  pub bubbles : Bool
  pub is_cancelable : Bool

-- ---- handlers, each with its element

-- the handler that an element is, where it is one
abbrev pub handlers_of : ℕ → Sort → List (ℕ × Handler)
handlers_of n (action (Some h)) = (n, h) ∷ []
handlers_of n sort = []

-- all of a form, in document order
abbrev pub handlers : Interface → List (ℕ × Handler)
handlers f = flat_map (λ e. handlers_of e.0 e.1.sort) (numbered_from 0 f.elements)

-- the observer that is named is this element
abbrev pub is_element : Option ℕ → ℕ → Bool
is_element None n = false
is_element (Some m) n = m == n

-- a target that is named has to be that of the event
abbrev pub may_have : Option ℕ → ℕ → Bool
may_have None n = true
may_have (Some m) n = m == n

-- the two phases are the same
abbrev pub is_phase : Phase → Phase → Bool
is_phase Capture Capture = true
is_phase Default Default = true
is_phase one other = false

-- the handler is called for the event, in this phase at this observer
abbrev pub hears : Event → Phase → ℕ → Handler → Bool
hears e phase observer h =
    bytes_eq h.event e.name && is_element h.observer observer && is_phase h.phase phase && may_have h.target e.target

-- those of one observer in one phase, in document order
abbrev pub heard_at : Interface → Event → Phase → ℕ → List (ℕ × Handler)
heard_at f e phase observer = filter (λ h. hears e phase observer h.1) (handlers f)

-- ---- the way of an event

-- capture from the root down to the parent, the target, and back up where it bubbles; capture handlers of the target are not among them
abbrev pub stages : Interface → Event → List (List (ℕ × Handler))
stages f e =
    map (heard_at f e Capture) (path_to f e.target)
    ++ heard_at f e Default e.target ∷ (if e.bubbles then map (heard_at f e Default) (ancestors f e.target) else [])

-- one of the handlers of a stage stops the event
abbrev pub stops : List (ℕ × Handler) → Bool
stops stage = list_any (λ h. h.1.stops) stage

-- as far as the first observer at which one stops it, whose other handlers are still called
abbrev pub reached : List (List (ℕ × Handler)) → List (ℕ × Handler)
reached [] = []
reached (stage ∷ further) = stage ++ (if stops stage then [] else reached further)

-- the handlers in order, and whether the default action follows: unless one of them cancels what can be cancelled
abbrev pub calls : Interface → Event → CallList
calls f e = let called = reached (stages f e) in record {
  handlers = map (λ h. h.0) called;
  with_default = not (e.is_cancelable && list_any (λ h. h.1.cancels) called);
}
