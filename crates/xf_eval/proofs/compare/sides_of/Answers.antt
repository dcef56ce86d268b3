use Rattle.std.proofs.Common.{map}
use Rattle.xf_eval.specs.Sides.{plain_on}
use Rattle.std.proofs.lemmas.Result.{err_from_is_err_and}
use Rattle.xf_def_xpath.specs.declared.fault.EvalFault.TheVariants.{Long, Memory}
use Rattle.xf_def_values.specs.declared.plain.Plain.TheVariants.{Text}
use Rattle.xf_eval.proofs.Made.{text_made}
use Rattle.xf_eval.proofs.Lists.{whole-long}
use Rattle.xf_eval.proofs.Loops.{loop-stuck, loop-done}
use Rattle.xf_eval.proofs.Lives.{live-item, live-is}
use Rattle.xf_eval.proofs.compare.sides_of.Goals as goal

pub value_of_node-requires : goal.value_of_node-requires
value_of_node-requires c =
    let nodes = c.args.forest.now.forest.nodes in
    live-item c.as_slice-node-items.result.now c.loop-node.node-index _ nodes (live-is nodes c.as_slice-node-items.ensures c.requires) c.loop-node-test.true

pub returns-in_err-value_of_node : goal.returns-in_err-value_of_node
returns-in_err-value_of_node c =
    let nodes = c.args.forest.now.forest.nodes in
    let p = err_from_is_err_and c.from_residual-in_err-value_of_node.result c.from_residual-in_err-value_of_node.ensures.1 in
    rw (p.1, p.2) (whole-long Memory Long _ (text_made nodes) _ _ c.in_err-value_of_node.ensures
    (loop-stuck (text_made nodes) Text (map plain_on c.loop-node.sides.items) c.as_slice-node-items.result.now c.args.nodes.now c.loop-node.node-index _ c.as_slice-node-items.ensures c.loop-node.invariant c.loop-node-test.true))

pub returns : goal.returns
returns c =
    let nodes = c.args.forest.now.forest.nodes in
    loop-done (text_made nodes) Text (map plain_on c.loop-node.sides.items) c.as_slice-node-items.result.now c.args.nodes.now c.loop-node.node-index c.as_slice-node-items.ensures c.loop-node.invariant c.loop-node-test.false
