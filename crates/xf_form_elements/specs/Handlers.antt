-- The handlers of an observer, of all events and phases, in document order (XML Events, section 3).
use Rattle.std.specs.Prelude.{ℕ, Bool, false, List, map, filter, Some}
use Rattle.std.specs.List.{flat_map}
use Rattle.xf_def_syntax.specs.Ordered.{numbered_from}
use Rattle.xf_def_syntax.specs.declared.action.Handler.{Handler}
use Rattle.xf_def_ui.specs.Interface.{Element, Interface, Sort, action}
use Rattle.xf_def_ui.specs.Calls.{handlers_of, is_element}

abbrev pub has_observer : ℕ → ℕ × Handler → Bool
has_observer observer h = is_element h.1.observer observer

-- among these elements, of which the first has the number
abbrev pub handlers_from : ℕ → ℕ → List Element → List ℕ
handlers_from observer n es = map (λ h. h.0) (filter (has_observer observer) (flat_map (λ e. handlers_of e.0 e.1.sort) (numbered_from n es)))

abbrev pub handlers_at : Interface → ℕ → List ℕ
handlers_at f observer = handlers_from observer 0 f.elements

-- an element of this sort is one of them
abbrev pub is_heard : ℕ → Sort → Bool
is_heard observer (action (Some h)) = is_element h.observer observer
is_heard observer sort = false
