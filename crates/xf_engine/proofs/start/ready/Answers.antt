use Rattle.std.proofs.Common.{ap, refl}
use Rattle.xf_def_machine.specs.State.{State}
use Rattle.xf_actions.proofs.Flow.{refuses-none, stopped}
use Rattle.xf_actions.proofs.Stores.{called-behind, called-both, covers-before}
use Rattle.xf_engine.proofs.StartLaws.{ready-all, ready-first, ready-second, ready-third}
use Rattle.xf_engine.proofs.start.ready.Goals as goal

pub returns-in_err-tell_models-clause-done : goal.returns-in_err-tell_models-clause-done
returns-in_err-tell_models-clause-done g c answers h =
    stopped _ _ _ _ _ c.from_residual.ensures.1
    (ready-first answers (g.W.World.state c.args.world.now) (g.W.World.state c.begin_event.new.self) _ _ c.begin_event.ensures.now (c.in_err-tell_models.ensures.done answers h))

pub returns-in_err-tell_models-clause-store : goal.returns-in_err-tell_models-clause-store
returns-in_err-tell_models-clause-store g c = called-behind _ (ap (λ (s : State). s.calls) c.begin_event.ensures.now) c.in_err-tell_models.ensures.store

pub returns-in_err-tell_models-2-clause-done : goal.returns-in_err-tell_models-2-clause-done
returns-in_err-tell_models-2-clause-done g c answers h =
    stopped _ _ _ _ _ c.from_residual-in_err-tell_models-2.ensures.1
    (ready-second answers (g.W.World.state c.args.world.now) (g.W.World.state c.begin_event.new.self) (g.W.World.state c.tell_models.new.world) _ _ c.begin_event.ensures.now
    (c.in_ok-tell_models.ensures.done answers (covers-before _ _ c.in_err-tell_models-2.ensures.store.grown answers h))
    (c.in_err-tell_models-2.ensures.done answers h))

pub returns-in_err-tell_models-2-clause-store : goal.returns-in_err-tell_models-2-clause-store
returns-in_err-tell_models-2-clause-store g c =
    called-both (called-behind _ (ap (λ (s : State). s.calls) c.begin_event.ensures.now) c.in_ok-tell_models.ensures.store) c.in_err-tell_models-2.ensures.store

pub returns-in_err-tell_models-3-clause-done : goal.returns-in_err-tell_models-3-clause-done
returns-in_err-tell_models-3-clause-done g c answers h =
    let k = covers-before _ _ c.in_err-tell_models-3.ensures.store.grown answers h in
    stopped _ _ _ _ _ c.from_residual-in_err-tell_models-3.ensures.1
    (ready-third answers (g.W.World.state c.args.world.now) (g.W.World.state c.begin_event.new.self) (g.W.World.state c.tell_models.new.world) (g.W.World.state c.tell_models-2.new.world) _ _
    c.begin_event.ensures.now (c.in_ok-tell_models.ensures.done answers (covers-before _ _ c.in_ok-tell_models-2.ensures.store.grown answers k))
    (c.in_ok-tell_models-2.ensures.done answers k) (c.in_err-tell_models-3.ensures.done answers h))

pub returns-in_err-tell_models-3-clause-store : goal.returns-in_err-tell_models-3-clause-store
returns-in_err-tell_models-3-clause-store g c =
    called-both (called-both (called-behind _ (ap (λ (s : State). s.calls) c.begin_event.ensures.now) c.in_ok-tell_models.ensures.store)
    c.in_ok-tell_models-2.ensures.store) c.in_err-tell_models-3.ensures.store

pub returns-in_err-push_notes-clause-done : goal.returns-in_err-push_notes-clause-done
returns-in_err-push_notes-clause-done g c answers h = stopped _ _ _ _ _ c.from_residual-in_err-push_notes.ensures.1 (refuses-none _ _ _ refl)

pub returns-in_err-push_notes-clause-store : goal.returns-in_err-push_notes-clause-store
returns-in_err-push_notes-clause-store g c =
    called-both (called-both (called-behind _ (ap (λ (s : State). s.calls) c.begin_event.ensures.now) c.in_ok-tell_models.ensures.store)
    c.in_ok-tell_models-2.ensures.store) c.in_ok-tell_models-3.ensures.store

pub returns-clause-done : goal.returns-clause-done
returns-clause-done g c answers h =
    let k = covers-before _ _ c.in_ok-tell_models-3.ensures.store.grown answers h in
    ready-all answers (g.W.World.state c.args.world.now) (g.W.World.state c.begin_event.new.self) (g.W.World.state c.tell_models.new.world) (g.W.World.state c.tell_models-2.new.world)
    (g.W.World.state c.tell_models-3.new.world) c.begin_event.ensures.now
    (c.in_ok-tell_models.ensures.done answers (covers-before _ _ c.in_ok-tell_models-2.ensures.store.grown answers k)) (c.in_ok-tell_models-2.ensures.done answers k)
    (c.in_ok-tell_models-3.ensures.done answers h)

pub returns-clause-store : goal.returns-clause-store
returns-clause-store g c =
    called-both (called-both (called-behind _ (ap (λ (s : State). s.calls) c.begin_event.ensures.now) c.in_ok-tell_models.ensures.store)
    c.in_ok-tell_models-2.ensures.store) c.in_ok-tell_models-3.ensures.store
