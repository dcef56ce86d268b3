use Rattle.std.proofs.Common.{◌∙◌, ap, take}
use Rattle.xf_dates.proofs.DecimalLemmas.{take-leading_digits}
use Rattle.xf_dates.proofs.decimals.leading_digits.Goals as goal

pub returns : goal.returns
returns c =
    c.cut.ensures.front
    ∙ ap (λ n. take n c.args.text.now) c.digits_onto-count.ensures.count
    ∙ take-leading_digits c.args.text.now
