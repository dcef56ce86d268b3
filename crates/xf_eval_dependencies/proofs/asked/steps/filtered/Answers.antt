use Rattle.std.proofs.Common.{refl}
use Rattle.xf_eval_shape.specs.Over.{shape_at}
use Rattle.xf_eval_dependencies.proofs.AskedLemmas.Steppings.{filtered-loose, filtered-tight}
use Rattle.xf_eval_dependencies.proofs.asked.steps.filtered.Goals as goal

pub returns-then-asked-clause-tells : goal.returns-then-asked-clause-tells
returns-then-asked-clause-tells g c =
    let nodes = c.args.forest.now.forest.nodes in
    let s = shape_at (g.A.Around.given c.args.around.now) nodes c.args.context.now in
    λ a t. filtered-loose nodes s c.args.predicates.now c.args.asked c.as_set.result a t c.if-asked.true (c.as_set.ensures.tells nodes a t)

pub returns-clause-tells : goal.returns-clause-tells
returns-clause-tells g c =
    let nodes = c.args.forest.now.forest.nodes in
    let s = shape_at (g.A.Around.given c.args.around.now) nodes c.args.context.now in
    λ a t. filtered-tight nodes s c.args.predicates.now c.args.asked _ a t c.if-asked.false c.in_ok-kept_by_all.ensures.value refl refl refl refl

pub returns-clause-stands : goal.returns-clause-stands
returns-clause-stands g c = record {
  set = c.in_ok-kept_by_all.ensures.spots;
  reads = c.requires.stands.reads;
}
