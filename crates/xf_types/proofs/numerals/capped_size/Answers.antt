use Rattle.std.proofs.Common.{◌∙◌, arith}
use Rattle.xf_types.proofs.SizeLemmas.{Step, one_digit}
use Rattle.xf_types.proofs.numerals.capped_size.Goals as goal

pub loop-c-preserved : goal.loop-c-preserved
loop-c-preserved c =
    let size = c.loop-c.size in
    let step : Step c.args.digits.now c.loop-c.c-index size c.min-size.result =
    one_digit c.args.digits.now c.loop-c.c-index size c.min-size.result c.from.result c.loop-c-test.true c.loop-c.invariant.digits
    (c.from.ensures ∙ c.saturating_sub.ensures) c.min-size.ensures in
    record {
      capped = omega arith;
      digits = step.rest;
      value = step.value ∙ c.loop-c.invariant.value;
    }
