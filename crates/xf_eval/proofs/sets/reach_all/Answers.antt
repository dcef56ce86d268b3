use Rattle.std.proofs.Common.{◌≡◌, map, ap, ◌∙◌, sym}
use Rattle.std.specs.List.{flat_map}
use Rattle.std.proofs.lemmas.List.{take_all}
use Rattle.xf_def_forest.specs.declared.node.NodeId.{NodeId}
use Rattle.xf_def_xpath.specs.Steps.{reached}
use Rattle.xf_eval.specs.Worth.{seen}
use Rattle.xf_eval.proofs.Lives.{live-item, live-is}
use Rattle.xf_eval.proofs.sets.reach_all.Goals as goal

pub reach-requires : goal.reach-requires
reach-requires c =
    let nodes = c.args.forest.now.forest.nodes in
    live-item c.as_slice-node-items.result.now c.loop-node.node-index _ nodes (live-is nodes c.as_slice-node-items.ensures c.requires) c.loop-node-test.true

pub returns : goal.returns
returns c =
    let below = flat_map (reached c.args.axis c.args.test.now (seen c.args.forest.now.forest.nodes)) in
    c.loop-node.invariant ∙ ap (λ l. below (map (λ (n : NodeId). n.number) l)) (take_all c.loop-node.node-index c.as_slice-node-items.result.now c.loop-node-test.false) ∙ ap below c.as_slice-node-items.ensures
