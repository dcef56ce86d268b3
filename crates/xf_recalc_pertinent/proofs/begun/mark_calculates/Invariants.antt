use Rattle.std.proofs.Common.{map, take}
use Rattle.xf_def_forest.specs.declared.node.NodeId.{NodeId}
use Rattle.xf_binds.specs.Table.{kept_at}
use Rattle.xf_recalc_pertinent.specs.Begun.{AreCalculated}
use Rattle.xf_recalc_pertinent.proofs.begun.mark_calculates.Given as goal

abbrev pub invariant-loop-node : goal.invariant-loop-node
invariant-loop-node l = AreCalculated (kept_at l.fn.table l.model).entries (map (λ (i : NodeId). i.number) (take l.node-index l.nodes)) l.fn.marks l.marks
