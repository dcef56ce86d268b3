use Rattle.std.proofs.Common.{MatchOption, subst, arith}
use Rattle.std.proofs.lemmas.Result.{IfOk-weaker}
use Rattle.xf_graph.specs.Marks.{mark_of}
use Rattle.xf_graph.specs.Search.{IsOnNoCycle, IsMeasured, ClosesAt, IsTrace}
use Rattle.xf_graph.specs.Cycle.{IsChosen}
use Rattle.xf_graph.proofs.CycleLemmas.{IsChosenFrom-trace}
use Rattle.xf_graph.proofs.OrderLemmas.{none_left}
use Rattle.xf_graph.proofs.cycle.chosen_cycle.Goals as goal

pub returns-in-Some : goal.returns-in-Some
returns-in-Some c =
    let g = c.args.graph.now in
    let t = c.loop-target.target in
    let m = mark_of c.in-Some.marks in
    let limit = c.in-Some.limit in
    let found : IsMeasured c.readers.result.now t m limit × ClosesAt c.readers.result.now t m limit =
    subst (λ o. MatchOption o (IsOnNoCycle c.readers.result.now t) (λ measured. IsMeasured c.readers.result.now t (mark_of measured.0) measured.1 × ClosesAt c.readers.result.now t (mark_of measured.0) measured.1))
    c.in-Some.is c.in_ok-marks.ensures in
    let measured : IsMeasured g t m limit = subst (λ h. IsMeasured h t m limit) c.readers.ensures found.0 in
    IfOk-weaker c.trace.result (λ cycle. IsTrace g m t limit cycle.items) (λ cycle. IsChosen g cycle.items)
    (λ cycle traced. (t, IsChosenFrom-trace g t m limit measured c.loop-target.invariant cycle.items traced)) c.trace.ensures

pub returns : goal.returns
returns c =
    let g = c.args.graph.now in
    let past = c.loop-target-test.false in
    let count = c.size-target-end.ensures.count in
    absurd (none_left g c.size-target-end.ensures.within (λ v less. c.loop-target.invariant v (omega arith)) c.requires)
