use Rattle.std.proofs.Common.{map, sym, ◌∙◌}
use Rattle.std.proofs.lemmas.Result.{IfOk-weaker}
use Rattle.xf_def_xpath.specs.AskedSteps.{if_tight}
use Rattle.xf_def_xpath.specs.Reads.{trace}
use Rattle.xf_eval_shape.specs.Over.{shape_at}
use Rattle.xf_eval_shape.specs.Spots.{numbers_at}
use Rattle.xf_eval_shape.proofs.Shapes.{whole-visits}
use Rattle.xf_eval_dependencies.proofs.AskedLemmas.Steppings.{stepped-plain, stepped-texts}
use Rattle.xf_eval_dependencies.proofs.asked.steps.stepped.Goals as goal

pub returns-then-keeps_texts-clause-value : goal.returns-then-keeps_texts-clause-value
returns-then-keeps_texts-clause-value g c =
    let f = c.args.forest.now.forest in
    let s = shape_at (g.A.Around.given c.args.around.now) f.nodes c.args.context.now in
    let step = c.args.step.now in
    IfOk-weaker c.with_texts.result _ _
    (λ found h. stepped-texts step.is_written step.axis step.test (if_tight c.args.is_loose (map trace step.predicates)) s (numbers_at c.args.from.now) (numbers_at c.in_ok-found.found.items) (numbers_at found.items)
    (whole-visits f c.is_sound.ensures).apart c.in_ok-found.ensures.value (sym c.keeps_texts.ensures ∙ c.if-keeps_texts.true) h)
    c.with_texts.ensures.value

pub returns-clause-value : goal.returns-clause-value
returns-clause-value g c =
    let f = c.args.forest.now.forest in
    let s = shape_at (g.A.Around.given c.args.around.now) f.nodes c.args.context.now in
    let step = c.args.step.now in
    stepped-plain step.is_written step.axis step.test (if_tight c.args.is_loose (map trace step.predicates)) s (numbers_at c.args.from.now) (numbers_at c.in_ok-found.found.items)
    c.in_ok-found.ensures.value (sym c.keeps_texts.ensures ∙ c.if-keeps_texts.false)
