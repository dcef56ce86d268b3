use Rattle.std.proofs.Common.{sym, ◌∙◌}
use Rattle.xf_def_forest.specs.Visit.{visits}
use Rattle.xf_insert.proofs.LoopLaws.{first-end, first-found, first-next}
use Rattle.xf_insert.proofs.placing.first_named.Goals as goal

pub returns-then-has_same_name : goal.returns-then-has_same_name
returns-then-has_same_name c =
    first-found (visits c.args.forest.now.forest.nodes) c.args.node.number c.args.nodes.now c.loop-other.other-index _ _ c.loop-other-test.true (sym c.has_same_name.ensures ∙ c.if-has_same_name.true) c.loop-other.invariant

pub loop-other-preserved : goal.loop-other-preserved
loop-other-preserved c =
    first-next (visits c.args.forest.now.forest.nodes) c.args.node.number c.args.nodes.now c.loop-other.other-index _ _ c.loop-other-test.true (sym c.has_same_name.ensures ∙ c.if-has_same_name.false) c.loop-other.invariant

pub returns : goal.returns
returns c = first-end (visits c.args.forest.now.forest.nodes) c.args.node.number c.args.nodes.now c.loop-other.other-index _ c.loop-other-test.false c.loop-other.invariant
