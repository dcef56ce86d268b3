use Rattle.std.proofs.Common.{◌∙◌, ap, pos, ◌*◌, ◌-◌, length}
use Rattle.xf_num.specs.Number.{scale, in_range}
use Rattle.xf_num.proofs.DigitLemmas.{few_decimals, many_decimals}
use Rattle.xf_num.proofs.reading.with_decimals.Goals as goal

pub returns-then-digits-most : goal.returns-then-digits-most
returns-then-digits-most c =
    let many = c.count-most.ensures.value in
    c.scaled.ensures
    ∙ ap (λ d. in_range (pos (c.digits_onto-size.result.0 * scale (d - length c.args.digits.now)))) many
    ∙ few_decimals c.args.decimals c.args.whole c.digits_onto-size.result.0 c.args.digits.now (rw many at c.if-digits-most.true) c.requires.digits c.digits_onto-size.ensures.size

pub returns : goal.returns
returns c =
    let many = c.count-most.ensures.value in
    c.scaled-2.ensures
    ∙ many_decimals c.args.decimals c.args.whole c.digits_onto-size-2.result.0 c.args.digits.now (rw many at c.if-digits-most.false) c.requires.digits (rw many at c.digits_onto-size-2.ensures.size)
