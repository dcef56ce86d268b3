use Rattle.xf_engine.specs.Running.{AtWork, calls_in, kept_in, shown_in}
use Rattle.xf_engine.proofs.RunningLaws.{not-started, started-so}
use Rattle.xf_engine.proofs.constructed.ConstructedStartingRunning.start.Goals as goal

pub returns-in-Ok : goal.returns-in-Ok
returns-in-Ok g c = record {
  done =
      started-so g.W.World.state g.W.World.kept (g.W.World.state c.args.self.world) c.pending.result c.ready-ready.new.world c.pending.ensures.world c.pending.ensures.pending _ _ _ _
      c.in-Ok.ensures.store c.calls_are_covered.ensures c.in-Ok.ensures.done c.in-Ok.ensures.text;
}

pub returns-in-Err : goal.returns-in-Err
returns-in-Err g c = record {
  done =
      not-started (λ (q : AtWork _). shown_in q.is_pending (g.W.World.state q.world)) (λ q. kept_in q.is_pending (g.W.World.kept q.world)) (λ q. calls_in q.is_pending (g.W.World.state q.world))
      (g.W.World.state c.args.self.world) (g.W.World.state c.ready-ready.new.world) c.in-Err.fault _ _ _ _ c.in-Err.ensures.store c.calls_are_covered.ensures c.in-Err.ensures.done;
}
