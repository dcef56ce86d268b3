use Rattle.std.proofs.Common.{◌==◌, ◌&&◌, ◌||◌, ◌∙◌, ap, sym, take_all}
use Rattle.std.specs.Prelude.{map}
use Rattle.xf_def_forest.specs.declared.node.NodeId.{NodeId}
use Rattle.xf_def_forest.specs.Visit as doc
use Rattle.xf_graph.specs.Edges.{has}
use Rattle.xf_binds_rebuild.specs.Readers.{readers_at}
use Rattle.xf_binds_rebuild.proofs.Linked.{added-next}
use Rattle.xf_binds_rebuild.proofs.readers.add_all.Goals as goal

pub loop-node-preserved : goal.loop-node-preserved
loop-node-preserved c = λ n other.
    added-next c.args.nodes.now c.loop-node.node-index _ c.args.place n other (has (readers_at c.add.new.readers n) other) (has (readers_at c.loop-node.readers n) other)
    (has (readers_at c.args.readers.now n) other) c.loop-node-test.true (c.in_ok-add.ensures n other) (c.loop-node.invariant n other)

pub returns : goal.returns
returns c = λ n other.
    c.loop-node.invariant n other
    ∙ ap (λ l. (doc.has n (map (λ (i : NodeId). i.number) l) && (c.args.place == other)) || has (readers_at c.args.readers.now n) other) (take_all c.loop-node.node-index c.args.nodes.now c.loop-node-test.false)
