use Rattle.std.proofs.Common.{map, take, get_or, ◌∙◌}
use Rattle.xf_def_forest.specs.declared.node.NodeId.{NodeId}
use Rattle.xf_binds.specs.Table.{kept_at}
use Rattle.xf_recalc_pertinent.proofs.Calculated.{calculated-more}
use Rattle.xf_recalc_pertinent.proofs.Lists.{any-next}
use Rattle.xf_recalc_pertinent.proofs.begun.mark_calculates.Goals as goal

pub mark_calculate-requires-clause-size : goal.mark_calculate-requires-clause-size
mark_calculate-requires-clause-size c = c.loop-node.invariant.size ∙ c.requires.size

pub loop-node-preserved : goal.loop-node-preserved
loop-node-preserved c =
    calculated-more (kept_at c.args.table.now c.args.model).entries _ (map (λ (i : NodeId). i.number) (take c.loop-node.node-index c.args.nodes.now)) _ c.args.marks.now c.loop-node.marks c.mark_calculate.new.marks
    (λ p. any-next p (λ (i : NodeId). i.number) c.args.nodes.now c.loop-node.node-index _ c.loop-node-test.true) c.loop-node.invariant c.mark_calculate.ensures
