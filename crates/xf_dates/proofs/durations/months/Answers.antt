use Rattle.std.proofs.Common.{◌+◌, ◌*◌, ◌∙◌, ap, arith}
use Rattle.xf_dates.specs.Durations.{part_value}
use Rattle.xf_dates.proofs.TotalLemmas.{capped, months_are}
use Rattle.xf_dates.proofs.durations.months.Goals as goal

pub returns : goal.returns
returns c =
    c.with_sign.ensures
    ∙ months_are c.args.decimals c.args.minus c.args.parts.now c.part_value-years.result c.part_value-months.result (12 * c.from.result + c.from-2.result)
    c.part_value-years.ensures
    (c.part_value-months.ensures ∙ ap (λ t. capped (part_value 77 t)) c.past_part.ensures)
    (omega (arith, c.from.ensures, c.from-2.ensures))
