use Rattle.std.proofs.Common.{ap, ◌∙◌}
use Rattle.xf_eval_shape.specs.Fixed.{are_placed}
use Rattle.xf_eval_shape.proofs.FixedEquations.{step-placed}
use Rattle.xf_eval_shape.proofs.steps.stepped.Goals as goal

pub taken-requires-clause-placed : goal.taken-requires-clause-placed
taken-requires-clause-placed g c = ap are_placed c.as_slice-predicates.ensures ∙ step-placed c.args.step.now c.requires.fixed

pub taken-requires-2-clause-placed : goal.taken-requires-2-clause-placed
taken-requires-2-clause-placed g c = ap are_placed c.as_slice-predicates.ensures ∙ step-placed c.args.step.now c.requires.fixed
