use Rattle.std.proofs.Common.{sym, ap, ◌∙◌}
use Rattle.std.specs.List.{list_all}
use Rattle.std.proofs.lemmas.Result.{IfOk-weaker}
use Rattle.xf_def_forest.specs.declared.node.NodeId.{NodeId}
use Rattle.xf_def_forest.specs.Order.{in_order}
use Rattle.xf_def_forest.specs.Visit.{visits}
use Rattle.xf_eval.proofs.Lives.{live-is, live-in_order}
use Rattle.xf_eval_shape.specs.Woven.{is_attribute_of, is_owner, is_shown}
use Rattle.xf_eval_shape.proofs.Ordered.{order-woven, own-order, owner-order, woven-same}
use Rattle.xf_eval_shape.proofs.Results.{all-mapped}
use Rattle.xf_eval_shape.proofs.order.in_order.Goals as goal

pub weave-requires-clause-all : goal.weave-requires-clause-all
weave-requires-clause-all c = live-is c.args.forest.now.forest.nodes c.in_ok-all.ensures (live-in_order _ c.args.forest.now.forest.nodes)

pub weave-requires-clause-nodes : goal.weave-requires-clause-nodes
weave-requires-clause-nodes c =
    let f = c.args.forest.now.forest in
    all-mapped (is_shown f.nodes) (λ (n : NodeId). n.number) c.as_slice.result.now
    ∙ ap (list_all (is_shown f.nodes)) (c.as_slice.ensures ∙ c.in_ok-nodes.ensures ∙ ap (in_order (visits f.nodes)) c.in_ok-own_nodes.ensures)
    ∙ own-order f c.is_sound.ensures c.args.spots.now c.requires

pub weave-requires-clause-owners : goal.weave-requires-clause-owners
weave-requires-clause-owners c =
    let f = c.args.forest.now.forest in
    all-mapped (is_owner f.nodes) (λ (n : NodeId). n.number) c.as_slice-2.result.now
    ∙ ap (list_all (is_owner f.nodes)) (c.as_slice-2.ensures ∙ c.in_ok-owners.ensures ∙ ap (in_order (visits f.nodes)) c.in_ok-owners_of.ensures)
    ∙ owner-order f c.is_sound.ensures c.args.spots.now c.requires

pub returns-clause-value : goal.returns-clause-value
returns-clause-value c =
    let f = c.args.forest.now.forest in
    let same = woven-same (is_attribute_of f.nodes) _ _ _ _ _ _
    (c.in_ok-all.ensures ∙ ap (in_order (visits f.nodes)) c.in_ok-all_nodes.ensures)
    (c.as_slice.ensures ∙ c.in_ok-nodes.ensures ∙ ap (in_order (visits f.nodes)) c.in_ok-own_nodes.ensures)
    (c.as_slice-2.ensures ∙ c.in_ok-owners.ensures ∙ ap (in_order (visits f.nodes)) c.in_ok-owners_of.ensures) in
    IfOk-weaker c.weave.result _ _ (λ found h. h ∙ same ∙ sym (order-woven f c.is_sound.ensures c.args.spots.now c.requires)) c.weave.ensures.value
