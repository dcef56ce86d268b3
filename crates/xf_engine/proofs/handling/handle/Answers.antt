use Rattle.std.proofs.Common.{Some, ◌∙◌, ap, sym, true}
use Rattle.xf_def_machine.specs.State.{State}
use Rattle.xf_def_machine.specs.Step.{posted}
use Rattle.xf_actions.proofs.Stores.{called-ahead, covers-same}
use Rattle.xf_engine.proofs.EngineLaws.{handled, unhandled, unwritten}
use Rattle.xf_engine.proofs.handling.handle.Goals as goal

pub returns-in_err-change-clause-done : goal.returns-in_err-change-clause-done
returns-in_err-change-clause-done g c answers h = unhandled _ _ _ _ _ _ c.from_residual.ensures.1 (c.in_err-change.ensures.done answers h)

pub returns-in_default-clause-done : goal.returns-in_default-clause-done
returns-in_default-clause-done g c answers h = tt

pub returns-in_default-clause-store : goal.returns-in_default-clause-store
returns-in_default-clause-store g c = called-ahead _ c.in_ok-change.ensures.store c.count_event.ensures.calls

pub returns-in_err-push_ok-clause-done : goal.returns-in_err-push_ok-clause-done
returns-in_err-push_ok-clause-done g c answers h = unwritten _ _ _ _ _ c.from_residual-in_err-push_ok.ensures.1

pub returns-in_err-push_ok-clause-store : goal.returns-in_err-push_ok-clause-store
returns-in_err-push_ok-clause-store g c = called-ahead _ c.in_ok-change.ensures.store c.count_event.ensures.calls

pub returns-clause-done : goal.returns-clause-done
returns-clause-done g c answers h =
    let after = g.W.World.state c.count_event.new.self in
    handled answers (g.W.World.state c.args.world.now) (g.W.World.state c.change.new.world) after c.args.event.now c.evaluated-count.result _ _
    (c.in_ok-change.ensures.done answers (covers-same answers _ _ c.count_event.ensures.calls h)) c.in-Ok.ensures.now c.evaluated-count.ensures
    (c.in_ok-push_ok.ensures true after (posted after) (record {
      told = sym c.notes.ensures;
      number = sym c.accepted.ensures;
      count = ap Some (ap (λ (s : State). s.evaluated) c.in-Ok.ensures.now ∙ sym c.evaluated-count.ensures);
    }))

pub returns-clause-store : goal.returns-clause-store
returns-clause-store g c = called-ahead _ c.in_ok-change.ensures.store c.count_event.ensures.calls
