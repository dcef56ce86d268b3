use Rattle.std.proofs.Common.{◌∙◌, sym}
use Rattle.xf_types.proofs.DurationLemmas.{day_time_passed}
use Rattle.xf_types.proofs.durations.is_day_time_duration.Goals as goal

pub returns : goal.returns
returns c = c.is_passed.ensures ∙ sym (day_time_passed c.args.text.now)
