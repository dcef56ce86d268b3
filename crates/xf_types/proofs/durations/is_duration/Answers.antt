use Rattle.std.proofs.Common.{◌∙◌, sym}
use Rattle.xf_types.proofs.DurationLemmas.{duration_passed}
use Rattle.xf_types.proofs.durations.is_duration.Goals as goal

pub returns : goal.returns
returns c = c.is_passed.ensures ∙ sym (duration_passed c.args.text.now)
