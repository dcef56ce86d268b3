use Rattle.std.proofs.Common.{ap, ◌∙◌, sym, subst}
use Rattle.std.specs.List.{list_all}
use Rattle.std.proofs.lemmas.Result.{IfOk-weaker}
use Rattle.xf_def_xpath.specs.Steps.{reached}
use Rattle.xf_eval.specs.Places.{Keeps}
use Rattle.xf_eval_shape.specs.Spots.{is_spot, number_at, numbers_at, shaped}
use Rattle.xf_eval_shape.proofs.places.reached_placed.Goals as goal

pub returns-in-Node-clause-value : goal.returns-in-Node-clause-value
returns-in-Node-clause-value c =
    let all = shaped c.args.forest.now.forest.nodes in
    IfOk-weaker c.plainly_placed.result _ _
    (λ kept h. subst (λ s. Keeps c.args.decimals c.args.number (reached c.args.axis c.args.test.now all (number_at s)) (numbers_at kept.items)) (sym c.in-Node.is) h)
    c.plainly_placed.ensures.value

pub returns-in_ok-spots-in_default-clause-spots : goal.returns-in_ok-spots-in_default-clause-spots
returns-in_ok-spots-in_default-clause-spots c =
    let nodes = c.args.forest.now.forest.nodes in
    IfOk-weaker c.placed.result _ _ (λ kept h. h nodes (ap (list_all (is_spot nodes)) c.deref.ensures.value ∙ c.in_ok-spots-in_default.ensures.spots)) c.placed.ensures.spots
