use Rattle.std.proofs.Common.{◌∙◌, ap}
use Rattle.xf_types.specs.Behind.{past_first}
use Rattle.xf_dates.proofs.TotalLemmas.{duration_is, no_duration}
use Rattle.xf_dates.proofs.durations.duration_in.Goals as goal

pub returns : goal.returns
returns c =
    duration_is c.args.decimals c.args.text.now c.past_first-parts.result.now c.begins_with-minus.result c.months.result c.seconds.result
    c.if-not-is_duration.ensures
    c.begins_with-minus.ensures
    (c.past_first-parts.ensures ∙ ap past_first c.past_minus.ensures)
    c.months.ensures
    c.seconds.ensures

pub returns-then-not-is_duration : goal.returns-then-not-is_duration
returns-then-not-is_duration c = no_duration c.args.decimals c.args.text.now c.if-not-is_duration.ensures
