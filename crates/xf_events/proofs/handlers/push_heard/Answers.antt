use Rattle.std.proofs.Common.{ℕ, map, sym, ap, subst}
use Rattle.std.specs.Prelude.{filter}
use Rattle.std.proofs.lemmas.List.{drop_all}
use Rattle.xf_def_syntax.specs.declared.action.Handler.{Handler}
use Rattle.xf_def_ui.specs.Calls.{hears}
use Rattle.xf_actions.specs.Seen.{fired_of}
use Rattle.xf_events.specs.Handlers.{Adds}
use Rattle.xf_events.specs.Listeners.{seen_listener}
use Rattle.xf_events.proofs.HandlerLaws.{adds-next, adds-none}
use Rattle.xf_events.proofs.handlers.push_heard.Goals as goal

pub loop-listener-preserved : goal.loop-listener-preserved
loop-listener-preserved c = λ new rest.
    let stop = c.args.stop in
    c.loop-listener.invariant new
    (adds-next (λ (h : ℕ × Handler). hears (fired_of c.args.fired.now).event stop.phase stop.observer h.1) c.loop-listener.all c.push_handler.new.all new c.args.some.now
    c.loop-listener.listener-index c.listener-item.result c.loop-listener-test.true c.listener-item.is c.in_ok-push_handler.ensures rest)

pub returns : goal.returns
returns c =
    let stop = c.args.stop in
    let all = c.loop-listener.all in
    let none = drop_all c.loop-listener.listener-index c.args.some.now c.loop-listener-test.false in
    c.loop-listener.invariant all
    (subst (λ ls. Adds all all (filter (λ (h : ℕ × Handler). hears (fired_of c.args.fired.now).event stop.phase stop.observer h.1) (map seen_listener ls))) (sym none) (adds-none all))
