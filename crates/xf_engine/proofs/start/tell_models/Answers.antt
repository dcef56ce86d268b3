use Rattle.std.proofs.Common.{◌∙◌, ap, arith}
use Rattle.xf_store.proofs.CalledLaws.{called-none}
use Rattle.xf_def_machine.specs.Cycles.{counted_from}
use Rattle.xf_def_machine.specs.Flow.{in_turn}
use Rattle.xf_def_machine.specs.Start.{tell_model}
use Rattle.xf_def_form.specs.Formed.{profile}
use Rattle.xf_actions.proofs.Flow.{same-refuses, stopped}
use Rattle.xf_actions.proofs.Rounds.{counted-end, counted-step, counted-stop}
use Rattle.xf_actions.proofs.Stores.{called-both, covers-before}
use Rattle.xf_engine.proofs.start.tell_models.Goals as goal

pub loop-model-init : goal.loop-model-init
loop-model-init g c =
    record {
      rest = λ answers h. ap (λ n. in_turn (tell_model profile answers c.args.name.now) (counted_from 0 n) (g.W.World.state c.args.world.now)) (omega (arith, c.model_count-count.ensures));
      store = called-none _ _;
    }

pub loop-model-preserved : goal.loop-model-preserved
loop-model-preserved g c =
    record {
      rest = λ answers h.
          c.loop-model.invariant.rest answers (covers-before _ _ c.in_ok-tell_model.ensures.store.grown answers h)
          ∙ counted-step (tell_model profile answers c.args.name.now) _ _ _ _ (g.W.World.state c.loop-model.world) (g.W.World.state c.tell_model.new.world)
          (omega arith) (omega arith) (omega arith) (c.in_ok-tell_model.ensures.done answers h);
      store = called-both c.loop-model.invariant.store c.in_ok-tell_model.ensures.store;
    }

pub returns-in_err-tell_model-clause-done : goal.returns-in_err-tell_model-clause-done
returns-in_err-tell_model-clause-done g c answers h =
    stopped _ _ _ _ _ c.from_residual.ensures.1
    (same-refuses _ _ _ _ (c.loop-model.invariant.rest answers (covers-before _ _ c.in_err-tell_model.ensures.store.grown answers h))
    (counted-stop (tell_model profile answers c.args.name.now) _ _ (g.W.World.state c.loop-model.world) _ _ (omega arith) (c.in_err-tell_model.ensures.done answers h)))

pub returns-in_err-tell_model-clause-store : goal.returns-in_err-tell_model-clause-store
returns-in_err-tell_model-clause-store g c = called-both c.loop-model.invariant.store c.in_err-tell_model.ensures.store

pub returns-clause-done : goal.returns-clause-done
returns-clause-done g c answers h =
    c.loop-model.invariant.rest answers h ∙ counted-end (tell_model profile answers c.args.name.now) _ _ (g.W.World.state c.loop-model.world) (omega arith)

pub returns-clause-store : goal.returns-clause-store
returns-clause-store g c = c.loop-model.invariant.store
