use Rattle.std.proofs.Common.{ap, ◌∙◌, map, drop, ◌+◌}
use Rattle.xf_def_forest.specs.declared.node.NodeId.{NodeId}
use Rattle.xf_eval.specs.Texts.{folded}
use Rattle.xf_eval.proofs.Lives.{live-item}
use Rattle.xf_eval.proofs.Runs.{fold-more}
use Rattle.xf_eval.proofs.of_nodes.folded.Goals as goal

pub number_of_node-requires : goal.number_of_node-requires
number_of_node-requires c = live-item c.args.nodes.now c.loop-node.node-index _ c.args.forest.now.forest.nodes c.requires c.loop-node-test.true

pub loop-node-preserved : goal.loop-node-preserved
loop-node-preserved c =
    let nodes = c.args.forest.now.forest.nodes in
    let ids = c.args.nodes.now in
    ap (λ k. folded c.args.decimals c.args.kind nodes k (map (λ (n : NodeId). n.number) (drop (c.loop-node.node-index + 1) ids))) c.combined-number.ensures
    ∙ fold-more c.args.decimals c.args.kind nodes ids c.loop-node.node-index _ c.loop-node.number c.in_ok-next.next _ c.loop-node.invariant c.loop-node-test.true c.in_ok-next.ensures
