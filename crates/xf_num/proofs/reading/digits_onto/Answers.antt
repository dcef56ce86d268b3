use Rattle.std.proofs.Common.{sym, ◌∙◌, ap, arith, length, min, get_or, drop, ◌+◌}
use Rattle.xf_num.specs.Written.{leading_digits}
use Rattle.std.specs.Str.Parse.{digits_value_after}
use Rattle.xf_num.specs.Number.{size_limit}
use Rattle.xf_num.proofs.TextLemmas.{digit_at}
use Rattle.xf_num.proofs.DigitLemmas.{step_after}
use Rattle.xf_num.proofs.reading.digits_onto.Goals as goal

pub loop-count-preserved : goal.loop-count-preserved
loop-count-preserved c =
    let is = sym c.if-is_digit.ensures in
    let first = digit_at c.args.text.now c.loop-count.count c.loop-count-test.true is in
    let longer = ap length first in
    let on = ap (λ digits. min (digits_value_after 10 c.loop-count.size digits) size_limit) first in
    record {
      within = omega arith;
      capped = omega arith;
      value = step_after c.loop-count.size (get_or c.args.text.now c.loop-count.count 0) c.from.result c.min-size.result (leading_digits (drop (c.loop-count.count + 1) c.args.text.now)) is c.min-size.ensures c.from.ensures ∙ sym on ∙ c.loop-count.invariant.value;
      counted = omega (arith, longer);
    }
