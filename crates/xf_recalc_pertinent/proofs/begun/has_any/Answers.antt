use Rattle.std.proofs.Common.{sym, ◌∙◌}
use Rattle.xf_def_forest.specs.declared.node.NodeId.{NodeId}
use Rattle.xf_def_forest.specs.Visit.{has}
use Rattle.xf_recalc_pertinent.proofs.Lists.{any-there}
use Rattle.xf_recalc_pertinent.proofs.begun.has_any.Goals as goal

pub returns-then-has : goal.returns-then-has
returns-then-has c =
    sym (any-there (λ n. has n c.args.numbers.now) (λ (i : NodeId). i.number) c.args.nodes.now c.loop-node.node-index _ c.loop-node-test.true (sym c.has.ensures ∙ c.if-has.true))
