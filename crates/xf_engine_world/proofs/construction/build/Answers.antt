use Rattle.std.proofs.Common.{◌∙◌, ◌-◌, ◌<◌, arith}
use Rattle.std.proofs.lemmas.Result.{err_from_is_err_and}
use Rattle.xf_def_machine.specs.Construct.{build_model}
use Rattle.xf_def_form.specs.Formed.{profile}
use Rattle.xf_engine_state.specs.Standing.{state_of}
use Rattle.xf_engine_world.specs.Constructed.{all_built}
use Rattle.xf_engine_world.proofs.Flow.{counted-step, turn-stops}
use Rattle.xf_engine_world.proofs.Keeps.{build-count}
use Rattle.xf_engine_world.proofs.construction.build.Goals as goal

pub loop-model-preserved : goal.loop-model-preserved
loop-model-preserved c = record {
  rest =
      c.loop-model.invariant.rest
      ∙ counted-step (build_model profile) _ _ _ _ (state_of c.loop-model.work.now) (state_of c.build_model.new.work.now)
      (omega arith) (omega arith) (omega arith) c.in_ok-build_model.ensures.done;
  models =
      build-count profile c.loop-model.model (state_of c.loop-model.work.now) (state_of c.build_model.new.work.now) c.in_ok-build_model.ensures.done
      ∙ c.loop-model.invariant.models;
  built = c.in_ok-build_model.ensures.built;
}

pub returns-in_err-build_model : goal.returns-in_err-build_model
returns-in_err-build_model c =
    let left : 0 < c.model_count-count.result - c.loop-model.model = omega arith in
    let p = err_from_is_err_and c.from_residual.result c.from_residual.ensures.1 in
    rw (p.1, p.2)
    (turn-stops (build_model profile) c.loop-model.model _ (state_of c.loop-model.work.now) (all_built profile (state_of c.args.work.now.now)) c.build_model.new.work.now c.in_err-build_model.field-0.0
    c.loop-model.invariant.rest left c.in_err-build_model.ensures.done)
