use Rattle.std.proofs.Common.{◌∙◌}
use Rattle.xf_num.proofs.DigitLemmas.{whole_and_rest}
use Rattle.xf_num.proofs.reading.without_sign.Goals as goal

pub returns : goal.returns
returns c =
    c.with_rest.ensures
    ∙ whole_and_rest c.args.decimals c.digits_onto-whole.result.0 c.digits_onto-whole.result.1 c.args.text.now c.digits_onto-whole.ensures.size c.digits_onto-whole.ensures.count
