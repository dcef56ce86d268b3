use Rattle.std.proofs.Common.{◌∙◌}
use Rattle.xf_schema.proofs.DecimalLaws.{few-digits}
use Rattle.xf_schema.proofs.counts.value_of.Goals as goal

pub returns : goal.returns
returns c = c.digits_onto-value.ensures.size ∙ few-digits c.args.digits.now c.requires.digits c.requires.short
