-- The handlers of the events of one name (XML Events, section 3).
use Rattle.std.specs.Prelude.{ℕ, Bool, List, bytes_eq, filter, map}
use Rattle.std.specs.List.{flat_map}
use Rattle.xf_def_syntax.specs.declared.action.Handler.{Handler}
use Rattle.xf_def_syntax.specs.declared.element.Element.{Element}
use Rattle.xf_def_syntax.specs.declared.form.Tables.{Tables}
use Rattle.xf_def_syntax.specs.Ordered.{numbered_from}
use Rattle.xf_def_ui.specs.Calls.{handlers_of}
use Rattle.xf_def_ui.specs.Interface.{Sort, element_of}
use Rattle.xf_events.specs.declared.listeners.Listener.{Listener}

-- a handler with its element, as the definitions have it
abbrev pub seen_listener : Listener → ℕ × Handler
seen_listener l = (l.element, l.handler.now)

abbrev pub is_named : List ℕ → ℕ × Handler → Bool
is_named name h = bytes_eq h.1.event name

-- those of one element, and of these elements, of which the first has the number
abbrev pub named_in : List ℕ → ℕ → Sort → List (ℕ × Handler)
named_in name n sort = filter (is_named name) (handlers_of n sort)

abbrev pub named_from : List ℕ → ℕ → Tables → List Element → List (ℕ × Handler)
named_from name n tables es = filter (is_named name) (flat_map (λ x. handlers_of x.0 x.1.sort) (numbered_from n (map (element_of tables) es)))
