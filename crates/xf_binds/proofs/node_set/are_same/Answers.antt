use Rattle.std.proofs.Common.{◌<◌, subst}
use Rattle.xf_binds.proofs.NodeSets.{same-at}
use Rattle.xf_binds.proofs.node_set.are_same.Goals as goal

pub returns-then-others-at-clause-differs : goal.returns-then-others-at-clause-differs
returns-then-others-at-clause-differs c = λ same.
    c.if-others-at.true (same-at c.args.some.now c.args.others.now c.loop-at.at _ _ c.loop-at-test.true (subst (λ n. c.loop-at.at < n) c.if-some-others.false c.loop-at-test.true) same)
