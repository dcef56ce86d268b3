use Rattle.std.proofs.Common.{◌≤◌, ◌<◌, ◌-◌, ◌^◌, ◌∙◌, ap, length, min, arith, take_all}
use Rattle.xf_binds.specs.Asked.{asked_by_all, asking}
use Rattle.xf_binds.proofs.Counts.{sum-more, asking-length}
use Rattle.xf_binds.proofs.table.asked_among.Goals as goal

pub loop-at-preserved : goal.loop-at-preserved
loop-at-preserved c =
    let ks = asking c.args.models.now c.args.model c.args.web.now in
    let within : c.loop-at.at < length ks = omega (arith, c.loop-at-test.true, asking-length c.args.models.now c.args.model c.args.web.now) in
    c.saturating_add-sum.ensures ∙ sum-more ks c.loop-at.at c.loop-at.sum c.asked_at.result within c.loop-at.invariant c.asked_at.ensures

pub returns : goal.returns
returns c =
    let ks = asking c.args.models.now c.args.model c.args.web.now in
    let all : length ks ≤ c.loop-at.at = omega (arith, c.loop-at-test.false, asking-length c.args.models.now c.args.model c.args.web.now) in
    c.loop-at.invariant ∙ ap (λ l. min (asked_by_all l) (2 ^ 64 - 1)) (take_all c.loop-at.at ks all)
