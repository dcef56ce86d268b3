use Rattle.std.proofs.Common.{arith}
use Rattle.xf_recalc_pertinent.proofs.Lists.{filter-few}
use Rattle.xf_recalc_pertinent.proofs.marks.count.Goals as goal

pub overflow_add-count : goal.overflow_add-count
overflow_add-count c =
    omega (arith, c.loop-place.invariant, filter-few (λ mark. mark) c.loop-place.place c.args.marks.now, c.loop-place-test.true)
