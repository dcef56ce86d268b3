use Rattle.std.proofs.Common.{◌≡◌, Some, sym, ap, ◌∙◌}
use Rattle.std.specs.List.{flat_map}
use Rattle.std.proofs.lemmas.List.{take_all}
use Rattle.std.proofs.lemmas.Result.{IfOk-weaker}
use Rattle.xf_def_xpath.specs.Setting.{in_order}
use Rattle.xf_eval.proofs.Lives.{live-is, live-in_order}
use Rattle.xf_eval_shape.specs.Bound.{bound_at}
use Rattle.xf_eval_shape.specs.Spots.{numbers_at, shaped}
use Rattle.xf_eval_shape.proofs.Bounds.{bound-set, shown-order}
use Rattle.xf_eval_shape.proofs.Values.{set-of}
use Rattle.xf_eval_shape.proofs.nodes.selected.Goals as goal

pub returns-clause-value : goal.returns-clause-value
returns-clause-value g c =
    let f = c.args.forest.now.forest in
    let given = g.A.Around.given c.args.around.now in
    let ns = numbers_at c.in_ok-spots.spots.items in
    let all : c.loop-spot.found ≡ flat_map (bound_at f.nodes) ns =
    c.loop-spot.invariant.so_far ∙ ap (λ l. flat_map (bound_at f.nodes) (numbers_at l)) (take_all c.loop-spot.spot-index c.deref-spot-items.result.now c.loop-spot-test.false ∙ c.deref-spot-items.ensures.value) in
    IfOk-weaker c.in_order.result _ _
    (λ found h. set-of given f.nodes c.args.expr.now c.args.context.now ns c.in_ok-spots.ensures.value
    ∙ ap Some (bound-set f.nodes ns ∙ ap (in_order (shaped f.nodes)) (sym all) ∙ sym (shown-order f c.is_sound.ensures c.loop-spot.found c.loop-spot.invariant.shown) ∙ sym h))
    c.in_order.ensures

pub returns-clause-live : goal.returns-clause-live
returns-clause-live g c =
    let f = c.args.forest.now.forest in
    IfOk-weaker c.in_order.result _ _ (λ found h. live-is f.nodes h (live-in_order c.loop-spot.found f.nodes)) c.in_order.ensures
