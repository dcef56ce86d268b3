use Rattle.std.proofs.Common.{◌<◌, [], map, length, ap, sym, subst, take, take_all, refl}
use Rattle.xf_def_forest.specs.declared.node.NodeId.{NodeId}
use Rattle.xf_graph.specs.Edges.{has, HasEdges}
use Rattle.xf_binds_rebuild.specs.Readers.{edge_with, readers_at, reads_one}
use Rattle.xf_binds_rebuild.proofs.Linked.{any-next, edges-none, edges-more}
use Rattle.xf_binds_rebuild.proofs.ring.link_above.Goals as goal

pub link_node-requires-clause-place : goal.link_node-requires-clause-place
link_node-requires-clause-place c = subst (λ n. c.args.place < n) (sym c.loop-node.invariant.size) c.requires.place

pub link_node-requires-clause-readers : goal.link_node-requires-clause-readers
link_node-requires-clause-readers c = λ n place h. subst (λ k. place < k) (sym c.loop-node.invariant.size) (c.requires.readers n place h)

pub loop-node-init : goal.loop-node-init
loop-node-init c = edges-none c.args.graph.now c.args.place (reads_one c.args.readers.now []) (λ r. refl)

pub loop-node-preserved : goal.loop-node-preserved
loop-node-preserved c =
    edges-more c.args.graph.now c.loop-node.graph c.link_node.new.graph c.args.place (length c.args.graph.now) _
    (reads_one c.args.readers.now (map (λ (n : NodeId). n.number) (take c.loop-node.node-index c.args.nodes.now)))
    (reads_one c.args.readers.now (map (λ (n : NodeId). n.number) (take _ c.args.nodes.now))) c.loop-node.invariant c.in_ok-link_node.ensures
    (λ r. any-next (λ n. has (readers_at c.args.readers.now n) r) (λ (n : NodeId). n.number) c.args.nodes.now c.loop-node.node-index _ c.loop-node-test.true)

pub returns : goal.returns
returns c =
    subst (λ l. HasEdges c.loop-node.graph (length c.args.graph.now) (edge_with c.args.graph.now c.args.place (reads_one c.args.readers.now (map (λ (n : NodeId). n.number) l))))
    (take_all c.loop-node.node-index c.args.nodes.now c.loop-node-test.false) c.loop-node.invariant
