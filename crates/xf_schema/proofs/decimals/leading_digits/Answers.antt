use Rattle.std.proofs.Common.{take, ap, ◌∙◌}
use Rattle.xf_schema.proofs.DecimalLaws.{leading-taken}
use Rattle.xf_schema.proofs.decimals.leading_digits.Goals as goal

pub returns : goal.returns
returns c = ap (λ n. take n c.args.text.now) c.digits_onto-count.ensures.count ∙ leading-taken c.args.text.now
