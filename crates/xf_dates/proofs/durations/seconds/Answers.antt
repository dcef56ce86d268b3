use Rattle.std.proofs.Common.{◌+◌, ◌*◌, ◌∙◌, ap, arith, codes}
use Rattle.std.specs.Str.Parse.{digits_value}
use Rattle.xf_num.specs.Written.{leading_digits, after_digits, units_of}
use Rattle.xf_types.specs.Behind.{past_first, past_part, past_parts}
use Rattle.xf_dates.specs.Decimals.{decimals_at}
use Rattle.xf_dates.specs.Durations.{part_value}
use Rattle.xf_dates.proofs.TotalLemmas.{capped, seconds_are}
use Rattle.xf_dates.proofs.durations.seconds.Goals as goal

pub returns : goal.returns
returns c =
    let time = c.past_first-time.ensures ∙ ap past_first c.past_parts-2.ensures in
    let last = c.past_parts-last.ensures ∙ ap (past_parts (codes "HM")) time in
    c.with_sign.ensures
    ∙ seconds_are c.args.decimals c.args.minus c.args.parts.now c.part_value-days.result c.part_value-hours.result c.part_value-minutes.result c.digits_onto-whole.result.0
    (86400 * c.from.result + 3600 * c.from-2.result + 60 * c.from-3.result + c.from-4.result) c.decimal_units-units.result
    (c.part_value-days.ensures ∙ ap (λ t. capped (part_value 68 t)) c.past_parts.ensures)
    (c.part_value-hours.ensures ∙ ap (λ t. capped (part_value 72 t)) time)
    (c.part_value-minutes.ensures ∙ ap (λ t. capped (part_value 77 t)) (c.past_part.ensures ∙ ap (past_part 72) time))
    (c.digits_onto-whole.ensures.size ∙ ap (λ t. capped (digits_value 10 (leading_digits t))) last)
    (omega (arith, c.from.ensures, c.from-2.ensures, c.from-3.ensures, c.from-4.ensures))
    (c.decimal_units-units.ensures.value ∙ ap (units_of c.args.decimals 0) (c.decimals_at.ensures.value ∙ ap decimals_at (c.after_digits.ensures ∙ ap after_digits last)))
