-- The handlers that an event calls, found one after the other (DOM Level 2 Events, section 1.2).
use Rattle.std.specs.Prelude.{ℕ, ◌≡◌, Bool, false, ◌||◌, List, [], ◌∷◌, ◌++◌, map, if◌then◌else◌}
use Rattle.std.specs.List.{list_any}
use Rattle.xf_def_syntax.specs.declared.action.Handler.{Handler}
use Rattle.xf_def_syntax.specs.declared.action.Phase.{Phase}
use Rattle.xf_def_ui.specs.Calls.{Event, heard_at, stages, stops}
use Rattle.xf_def_ui.specs.Interface.{Interface}
use Rattle.xf_events.specs.declared.handlers.Stage.{Stage}
use Rattle.xf_events.specs.declared.handlers.Stop.{Stop}

abbrev pub cancels : List (ℕ × Handler) → Bool
cancels hs = list_any (λ h. h.1.cancels) hs

-- these handlers come behind those before
pub record Adds (before after : Stage) (hs : List (ℕ × Handler)) : Type 0 where
  pub handlers : after.handlers ≡ before.handlers ++ map (λ h. h.0) hs
  pub stops : after.stops ≡ (before.stops || stops hs)
  pub cancels : after.cancels ≡ (before.cancels || cancels hs)

-- these handlers come behind those before, whatever stops
pub record Reaches (before after : Stage) (hs : List (ℕ × Handler)) : Type 0 where
  pub handlers : after.handlers ≡ before.handlers ++ map (λ h. h.0) hs
  pub cancels : after.cancels ≡ (before.cancels || cancels hs)

abbrev pub one_where : Bool → ℕ × Handler → List (ℕ × Handler)
one_where b h = if b then h ∷ [] else []

abbrev pub none_yet : Stage
none_yet = record { handlers = []; stops = false; cancels = false }

-- the stages of these stops of the way
abbrev pub stages_at : Interface → Event → List Stop → List (List (ℕ × Handler))
stages_at f e stops = map (λ stop. heard_at f e stop.phase stop.observer) stops

abbrev pub stops_at : Phase → List ℕ → List Stop
stops_at phase observers = map (λ n. record { phase = phase; observer = n }) observers

-- the stops of the whole way of an event
abbrev pub IsWay : Interface → Event → List Stop → Type 0
IsWay f e way = stages_at f e way ≡ stages f e
