use Rattle.std.proofs.Common.{subst, refl}
use Rattle.xf_def_xpath.specs.Reads.{trace_of_step}
use Rattle.xf_eval_shape.specs.Over.{shape_at}
use Rattle.xf_eval_dependencies.specs.Asked.Tells.{Tells}
use Rattle.xf_eval_dependencies.proofs.AskedLemmas.Steppings.{walks-end, walks-round}
use Rattle.xf_eval_dependencies.proofs.asked.steps.walks_asked.Goals as goal

pub loop-step-init : goal.loop-step-init
loop-step-init g c = record {
  stands = c.requires.stands;
  told = λ a t. (a, t, refl);
}

pub loop-step-preserved : goal.loop-step-preserved
loop-step-preserved g c =
    let nodes = c.args.forest.now.forest.nodes in
    let s = shape_at (g.A.Around.given c.args.around.now) nodes c.args.context.now in record {
      stands = c.in_ok-left.ensures.stands;
      told = λ a t.
          let r = c.loop-step.invariant.told a t in
          let step = c.step-item.result in
          ((trace_of_step step).asked s r.0, c.in_ok-left.ensures.tells r.0 r.1, walks-round s c.args.steps.now c.loop-step.step-index step r.0 _ c.loop-step-test.true c.step-item.is r.2);
    }

pub returns-clause-tells : goal.returns-clause-tells
returns-clause-tells g c =
    let nodes = c.args.forest.now.forest.nodes in
    let s = shape_at (g.A.Around.given c.args.around.now) nodes c.args.context.now in
    λ a t.
    let r = c.loop-step.invariant.told a t in
    subst (Tells nodes c.as_set.result) (walks-end s c.args.steps.now c.loop-step.step-index r.0 _ c.loop-step-test.false r.2) (c.as_set.ensures.tells nodes r.0 r.1)

pub returns-clause-stands : goal.returns-clause-stands
returns-clause-stands g c = c.as_set.ensures.stands c.args.forest.now.forest.nodes c.loop-step.invariant.stands
