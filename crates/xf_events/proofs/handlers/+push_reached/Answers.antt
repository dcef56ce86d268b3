use Rattle.std.proofs.Common.{◌-◌, ◌<◌, map, length, take, drop, get_or, subst, arith}
use Rattle.std.proofs.lemmas.Bool.Decides.{nat_tests}
use Rattle.std.proofs.lemmas.List.{get_or_default}
use Rattle.std.proofs.lemmas.Result.{on_ok_weaker}
use Rattle.xf_def_syntax.specs.declared.action.Phase.TheVariants.{Capture}
use Rattle.xf_def_ui.specs.Calls.{heard_at}
use Rattle.xf_actions.specs.Seen.{fired_of}
use Rattle.xf_events.specs.declared.handlers.Stage.{Stage}
use Rattle.xf_events.specs.declared.handlers.Stop.{Stop}
use Rattle.xf_events.specs.Handlers.{Adds, none_yet}
use Rattle.xf_events.specs.Listeners.{seen_listener}
use Rattle.xf_events.proofs.HandlerLaws.{heard-of-named, reaches-on, reaches-stop, rest-is}
use Rattle.xf_events.proofs.handlers.+push_reached.Goals as goal

pub returns-then-stops : goal.returns-then-stops
returns-then-stops t c = λ f of_name.
    let e = (fired_of c.args.fired.now).event in
    let way = c.args.way.now in
    let old = c.args.all.now in
    let own = c.push_heard.new.all in
    let none : Stop = record { phase = Capture; observer = 0 } in
    let stop = get_or way 0 none in
    let new : Stage = record { handlers = c.append.new.self; stops = old.stops; cancels = c.either-all.result } in
    let some : 0 < length way = grind (arith, nat_tests, c.if-is_empty.ensures) in
    let adds : Adds none_yet own (heard_at f e stop.phase stop.observer) =
    subst (λ s. Adds s own (heard_at f e stop.phase stop.observer)) c.empty-own.ensures
    (subst (Adds c.empty-own.result own) (heard-of-named f e stop.phase stop.observer (map seen_listener c.args.named.now) of_name) c.in_ok-push_heard.ensures) in
    reaches-stop f e old own new way stop some (get_or_default way 0 none stop some) adds c.in_ok-append.ensures c.either-all.ensures c.if-stops.true

pub returns : goal.returns
returns t c =
    let e = (fired_of c.args.fired.now).event in
    let way = c.args.way.now in
    let old = c.args.all.now in
    let own = c.push_heard.new.all in
    let none : Stop = record { phase = Capture; observer = 0 } in
    let stop = get_or way 0 none in
    let mid : Stage = record { handlers = c.append.new.self; stops = old.stops; cancels = c.either-all.result } in
    let some : 0 < length way = grind (arith, nat_tests, c.if-is_empty.ensures) in
    on_ok_weaker c.push_reached.result
    (λ later f of_name.
    let adds : Adds none_yet own (heard_at f e stop.phase stop.observer) =
    subst (λ s. Adds s own (heard_at f e stop.phase stop.observer)) c.empty-own.ensures
    (subst (Adds c.empty-own.result own) (heard-of-named f e stop.phase stop.observer (map seen_listener c.args.named.now) of_name) c.in_ok-push_heard.ensures) in
    reaches-on f e old own c.push_reached.new.all way stop some (get_or_default way 0 none stop some) adds mid (take (length way - 1) (drop 1 way)) (rest-is way)
    c.in_ok-append.ensures c.either-all.ensures c.if-stops.false (later f of_name))
    c.push_reached.ensures
