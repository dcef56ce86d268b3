use Rattle.std.proofs.Common.{◌++◌, [], ◌∷◌, sym, ap, ◌∙◌}
use Rattle.xf_eval_shape.specs.Spots.{number_at, numbers_at}
use Rattle.xf_eval_shape.specs.Steps.{if_so}
use Rattle.xf_eval_shape.proofs.Filled.{append-none}
use Rattle.xf_eval_shape.proofs.Rounds.{numbers-append}
use Rattle.xf_eval_dependencies.proofs.AskedLemmas.Spotted.{text-is}
use Rattle.xf_eval_dependencies.proofs.asked.steps.push_text.Goals as goal

pub returns-in_ok-push-clause-value : goal.returns-in_ok-push-clause-value
returns-in_ok-push-clause-value c =
    let f = c.args.forest.now.forest in
    ap numbers_at c.in_ok-push.ensures.items
    ∙ numbers-append c.args.spots.now.items (c.args.spot ∷ [])
    ∙ ap (λ l. numbers_at c.args.spots.now.items ++ l) (ap (λ b. if_so b (number_at c.args.spot)) (sym c.if-is_text_spot.true ∙ c.is_text_spot.ensures) ∙ text-is f c.is_sound.ensures c.args.spot c.requires)

pub returns-else-is_text_spot-clause-value : goal.returns-else-is_text_spot-clause-value
returns-else-is_text_spot-clause-value c =
    let f = c.args.forest.now.forest in
    sym (append-none (numbers_at c.args.spots.now.items))
    ∙ ap (λ l. numbers_at c.args.spots.now.items ++ l) (ap (λ b. if_so b (number_at c.args.spot)) (sym c.if-is_text_spot.false ∙ c.is_text_spot.ensures) ∙ text-is f c.is_sound.ensures c.args.spot c.requires)
