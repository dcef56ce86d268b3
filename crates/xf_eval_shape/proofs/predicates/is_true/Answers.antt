use Rattle.std.proofs.Common.{sym, ap, ◌∙◌}
use Rattle.xf_def_xpath.specs.Steps.{is_true_at}
use Rattle.xf_eval_shape.proofs.Placings.{predicate-told}
use Rattle.xf_eval_shape.proofs.predicates.is_true.Goals as goal

pub returns-in-Ok : goal.returns-in-Ok
returns-in-Ok g c =
    let told = predicate-told c.args.forest.now.forest c.is_sound.ensures (g.A.Around.given c.args.around.now) c.args.context.now c.args.predicate.now c.requires.placed c.args.context.now.node.number c.args.position c.args.size c.in-Ok.value c.in-Ok.ensures.value in
    (told.0, told.1, told.2 ∙ ap (λ d. is_true_at d c.args.position c.in-Ok.value) (sym c.decimals.ensures) ∙ sym c.is_true_at.ensures)
