use Rattle.std.proofs.Common.{◌≡◌, ◌+◌, true, [], Some, drop, get_or, ap, sym, ◌∙◌}
use Rattle.std.proofs.lemmas.Result.{err_from_is_err_and}
use Rattle.xf_base.specs.Limits.{string_limit}
use Rattle.xf_def_forest.specs.declared.node.NodeId.{NodeId}
use Rattle.xf_def_forest.specs.Forest.{has_number}
use Rattle.xf_def_forest.specs.Visit.{visits}
use Rattle.xf_def_xpath.specs.declared.fault.EvalFault.TheVariants.{Long, Memory}
use Rattle.xf_def_xpath.specs.Binding.{bound_nodes}
use Rattle.xf_def_xpath.specs.Reads.{trace}
use Rattle.xf_def_model.specs.Nested.{set_from}
use Rattle.xf_eval.proofs.Bounded.{part-long}
use Rattle.xf_eval.proofs.Lives.{live-append, live-in_order, live-is, live-item}
use Rattle.xf_eval_context.specs.Nested.Chain.{scope_in, selected}
use Rattle.xf_eval_context.proofs.NestedLemmas.SetLaws.{left, set-given, set-long, sets-more, sets-stuck}
use Rattle.xf_eval_context.proofs.nested.chain.selected.Goals as goal

pub value_at-requires : goal.value_at-requires
value_at-requires g c =
    let nodes = c.args.forest.now.forest.nodes in
    let ids = c.as_slice-node-items.result.now in
    let none : NodeId = record { number = 0; place = 0 } in
    let live : has_number (get_or ids c.loop-node.node-index none).number nodes ≡ true = live-item ids c.loop-node.node-index none nodes (live-is nodes c.as_slice-node-items.ensures c.requires.from) c.loop-node-test.true in
    record { around = c.requires.around; node = live; current = live }

pub returns-in_err-value_at-clause-value : goal.returns-in_err-value_at-clause-value
returns-in_err-value_at-clause-value g c =
    let all = visits c.args.forest.now.forest.nodes in
    let scope = scope_in (g.A.Around.given c.args.around.now) [] c.args.model in
    let e = c.args.node_set.now in
    let ids = c.as_slice-node-items.result.now in
    let none : NodeId = record { number = 0; place = 0 } in
    let p = err_from_is_err_and c.from_residual.result c.from_residual.ensures.1 in
    rw (p.1, p.2) (part-long Memory Long _ _ (selected scope all (trace e) c.args.from.now) c.in_err-value_at.ensures.value
    (λ h. sets-stuck (set_from (Some string_limit) scope all (trace e)) all c.loop-node.found c.args.from.now ids c.loop-node.node-index none c.as_slice-node-items.ensures c.loop-node.invariant.left c.loop-node-test.true
    (set-long scope all e (get_or ids c.loop-node.node-index none).number h)))

pub loop-node-preserved : goal.loop-node-preserved
loop-node-preserved g c =
    let nodes = c.args.forest.now.forest.nodes in
    let all = visits nodes in
    let scope = scope_in (g.A.Around.given c.args.around.now) [] c.args.model in
    let e = c.args.node_set.now in
    let ids = c.as_slice-node-items.result.now in
    let none : NodeId = record { number = 0; place = 0 } in
    let one = set_from (Some string_limit) scope all (trace e) in
    let set : one (get_or ids c.loop-node.node-index none).number ≡ Some c.in_ok-set.set =
    set-given scope all e (get_or ids c.loop-node.node-index none).number c.in_ok-value_at.field-0 c.in_ok-value_at.ensures.value
    ∙ ap (λ ns. Some (bound_nodes all ns)) (sym c.nodes_in-nodes.ensures) ∙ ap Some (sym c.in_ok-set.ensures.value) in
    record {
      live = live-is nodes c.in_ok-append.ensures (live-append c.loop-node.found c.in_ok-set.set nodes c.loop-node.invariant.live c.in_ok-set.ensures.live);
      left = ap (λ l. left one l (drop (c.loop-node.node-index + 1) ids)) c.in_ok-append.ensures
          ∙ sets-more one c.loop-node.found c.in_ok-set.set ids c.loop-node.node-index none c.loop-node.invariant.left c.loop-node-test.true set;
    }

pub returns-clause-live : goal.returns-clause-live
returns-clause-live g c =
    let nodes = c.args.forest.now.forest.nodes in
    live-is nodes c.in_ok-in_order.ensures (live-in_order _ nodes)
