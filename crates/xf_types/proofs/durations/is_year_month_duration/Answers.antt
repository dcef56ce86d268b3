use Rattle.std.proofs.Common.{◌∙◌, sym}
use Rattle.xf_types.proofs.DurationLemmas.{year_month_passed}
use Rattle.xf_types.proofs.durations.is_year_month_duration.Goals as goal

pub returns : goal.returns
returns c = c.is_passed.ensures ∙ sym (year_month_passed c.args.text.now)
