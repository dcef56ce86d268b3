use Rattle.std.proofs.Common.{◌∙◌, ap}
use Rattle.xf_types.specs.Times.{is_date_alone}
use Rattle.xf_dates.specs.Days.{ahead}
use Rattle.xf_dates.proofs.TextLemmas.{date_of_date_time, sum_in_bits, sum_is_small, second_is}
use Rattle.xf_dates.proofs.days.second_at.Goals as goal

pub day_at-day-requires : goal.day_at-day-requires
day_at-day-requires c = ap is_date_alone c.cut.ensures.front ∙ date_of_date_time c.args.text.now c.requires

pub returns-clause-value : goal.returns-clause-value
returns-clause-value c =
    sum_in_bits c.day_at-day.result c.clock_at-clock.result c.ahead.result c.day_at-day.ensures.range c.clock_at-clock.ensures.size c.ahead.ensures.size
    ∙ second_is c.args.text.now c.cut.result.0.now c.cut-2.result.1.now c.cut-3.result.1.now c.day_at-day.result c.clock_at-clock.result c.ahead.result
    c.cut.ensures.front
    c.cut-2.ensures.rest
    c.cut-3.ensures.rest
    c.day_at-day.ensures.value
    c.clock_at-clock.ensures.value
    (c.ahead.ensures.value ∙ ap ahead c.past_decimals-zone.ensures)

pub returns-clause-size : goal.returns-clause-size
returns-clause-size c =
    let same = sum_in_bits c.day_at-day.result c.clock_at-clock.result c.ahead.result c.day_at-day.ensures.range c.clock_at-clock.ensures.size c.ahead.ensures.size in
    rw same (sum_is_small c.day_at-day.result c.clock_at-clock.result c.ahead.result c.day_at-day.ensures.range c.clock_at-clock.ensures.size c.ahead.ensures.size)
