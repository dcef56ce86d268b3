use Rattle.std.proofs.Common.{◌++◌, reverse, sym, ap, ◌∙◌, subst}
use Rattle.xf_def_forest.specs.Forest.{has_number}
use Rattle.xf_def_forest.specs.Shape.{text_number}
use Rattle.xf_def_forest.proofs.BackLaws.{and-true}
use Rattle.xf_def_xpath.specs.AskedSteps.{is_kind}
use Rattle.xf_def_xpath.specs.Setting.{in_order}
use Rattle.xf_eval_shape.specs.Spots.{AreSpots, is_leaf, numbers_at, shaped}
use Rattle.xf_eval_shape.specs.Steps.{if_so, text_if}
use Rattle.xf_eval_shape.proofs.Reached.{numbers-reversed, owner-own, spots-reversed, text-are, text-numbers}
use Rattle.xf_eval_shape.proofs.Rounds.{numbers-append, spots-append}
use Rattle.xf_eval_shape.proofs.TextAxes.{text-up}
use Rattle.xf_eval_shape.proofs.walk.up_from_text.Goals as goal

pub plainly-requires-clause-spot : goal.plainly-requires-clause-spot
plainly-requires-clause-spot c = owner-own c.args.forest.now.forest c.is_sound.ensures c.args.owner c.requires

pub in_order-requires : goal.in_order-requires
in_order-requires c =
    let nodes = c.args.forest.now.forest.nodes in
    let all = c.deref-2.ensures.value ∙ c.in_ok-extend_from_slice.ensures.items ∙ ap (λ l. l ++ c.deref.result.now) c.in_ok-found.ensures ∙ ap (λ l. text_if (is_kind c.args.test.now) c.args.owner ++ l) c.deref.ensures.value in
    subst (AreSpots nodes) (sym all) (spots-append nodes (text_if (is_kind c.args.test.now) c.args.owner) c.in_ok-above.above.items (text-are nodes (is_kind c.args.test.now) c.args.owner c.requires) c.in_ok-above.ensures.spots)

pub returns-clause-value : goal.returns-clause-value
returns-clause-value c =
    let f = c.args.forest.now.forest in
    let n = c.args.owner.number in
    let t = c.args.test.now in
    let p = and-true (has_number n f.nodes) (is_leaf f.nodes n) c.requires in
    let all = c.deref-2.ensures.value ∙ c.in_ok-extend_from_slice.ensures.items ∙ ap (λ l. l ++ c.deref.result.now) c.in_ok-found.ensures ∙ ap (λ l. text_if (is_kind c.args.test.now) c.args.owner ++ l) c.deref.ensures.value in
    ap numbers_at c.reverse.ensures.items
    ∙ numbers-reversed c.in_ok-ordered.ordered.items
    ∙ ap reverse (c.in_ok-ordered.ensures.value ∙ ap (in_order (shaped f.nodes)) (ap numbers_at all ∙ numbers-append (text_if (is_kind t) c.args.owner) c.in_ok-above.above.items ∙ ap (λ l. l ++ numbers_at c.in_ok-above.above.items) (text-numbers (is_kind t) c.args.owner) ∙ ap (λ l. if_so (is_kind t) (text_number n) ++ l) c.in_ok-above.ensures.value))
    ∙ text-up f c.is_sound.ensures n p.0 p.1 t

pub returns-clause-spots : goal.returns-clause-spots
returns-clause-spots c =
    let nodes = c.args.forest.now.forest.nodes in
    subst (AreSpots nodes) (sym c.reverse.ensures.items) (spots-reversed nodes c.in_ok-ordered.ordered.items c.in_ok-ordered.ensures.spots)
