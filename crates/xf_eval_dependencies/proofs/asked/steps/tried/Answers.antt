use Rattle.std.proofs.Common.{map, sym, ap, ◌∙◌}
use Rattle.std.proofs.lemmas.Result.{IfOk-weaker}
use Rattle.xf_eval.specs.Taken.{taken}
use Rattle.xf_def_xpath.specs.AskedSteps.{if_tight}
use Rattle.xf_def_xpath.specs.Meaning.{meaning}
use Rattle.xf_def_xpath.specs.Reads.{trace}
use Rattle.xf_eval_shape.specs.Fixed.{are_placed}
use Rattle.xf_eval_shape.specs.Over.{shape_at}
use Rattle.xf_eval_shape.specs.Spots.{numbers_at}
use Rattle.xf_eval_shape.proofs.FixedEquations.{step-placed}
use Rattle.xf_eval_dependencies.proofs.AskedLemmas.Steppings.{tight-meanings}
use Rattle.xf_eval_dependencies.proofs.asked.steps.tried.Goals as goal

pub taken-requires-2-clause-placed : goal.taken-requires-2-clause-placed
taken-requires-2-clause-placed g c = ap are_placed c.as_slice-predicates.ensures ∙ step-placed c.args.step.now c.requires.fixed

pub returns-then-is_loose-clause-value : goal.returns-then-is_loose-clause-value
returns-then-is_loose-clause-value g c =
    let s = shape_at (g.A.Around.given c.args.around.now) c.args.forest.now.forest.nodes c.args.context.now in
    let step = c.args.step.now in
    let from = numbers_at c.args.from.now in
    IfOk-weaker c.taken.result _ _
    (λ found h. ap (λ b. taken step.axis step.test (if_tight b (map trace step.predicates)) s from) c.if-is_loose.true ∙ h)
    c.taken.ensures.value

pub returns-clause-value : goal.returns-clause-value
returns-clause-value g c =
    let s = shape_at (g.A.Around.given c.args.around.now) c.args.forest.now.forest.nodes c.args.context.now in
    let step = c.args.step.now in
    let from = numbers_at c.args.from.now in
    IfOk-weaker c.taken-2.result _ _
    (λ found h. ap (λ b. taken step.axis step.test (if_tight b (map trace step.predicates)) s from) c.if-is_loose.false
    ∙ ap (λ ms. taken step.axis step.test ms s from) (tight-meanings step.predicates ∙ ap (map meaning) (sym c.as_slice-predicates.ensures))
    ∙ h)
    c.taken-2.ensures.value
