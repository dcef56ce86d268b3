use Rattle.std.proofs.Common.{◌≡◌, ◌-◌, length}
use Rattle.xf_def_machine.specs.Flow.{in_turn}
use Rattle.xf_def_machine.specs.Cycles.{counted_from}
use Rattle.xf_def_machine.specs.Construct.{build_model}
use Rattle.xf_def_form.specs.Formed.{profile}
use Rattle.xf_engine_state.specs.Standing.{state_of}
use Rattle.xf_engine_world.specs.Constructed.{all_built}
use Rattle.xf_engine_world.proofs.construction.build.Given as goal

-- what is left of the models gives what all of them give; those before are built
abbrev pub invariant-loop-model : goal.invariant-loop-model
invariant-loop-model l = record {
  rest : all_built profile (state_of l.initial.work.now) ≡ in_turn (build_model profile) (counted_from l.model (l.count - l.model)) (state_of l.work.now);
  models : length l.work.now.models ≡ l.count;
  built : l.work.built ≡ l.model;
}
