use Rattle.std.proofs.Common.{map, drop}
use Rattle.std.specs.Prelude.{filter}
use Rattle.xf_def_ui.specs.Calls.{hears}
use Rattle.xf_actions.specs.Seen.{fired_of}
use Rattle.xf_events.specs.declared.handlers.Stage.{Stage}
use Rattle.xf_events.specs.Handlers.{Adds}
use Rattle.xf_events.specs.Listeners.{seen_listener}
use Rattle.xf_events.proofs.handlers.push_heard.Given as goal

abbrev pub invariant-loop-listener : goal.invariant-loop-listener
invariant-loop-listener l =
    (new : Stage) → Adds l.all new (filter (λ h. hears (fired_of l.fired).event l.stop.phase l.stop.observer h.1) (map seen_listener (drop l.listener-index l.some)))
    → Adds l.fn.all new (filter (λ h. hears (fired_of l.fired).event l.stop.phase l.stop.observer h.1) (map seen_listener l.some))
