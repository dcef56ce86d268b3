use Rattle.std.proofs.Common.{◌∙◌, ap, FitsSigned, w64, to_z-of_z, rules}
use Rattle.xf_num.specs.Written.{units_of}
use Rattle.xf_dates.proofs.TextLemmas.{seconds_are, no_seconds}
use Rattle.xf_dates.proofs.instants.seconds_in.Goals as goal

pub returns : goal.returns
returns c =
    let second : FitsSigned w64 c.second_at.result = search rules in
    (simp to_z-of_z at c.number_of.ensures)
    ∙ seconds_are c.args.decimals c.args.text.now c.cut.result.1.now c.second_at.result c.decimal_units-units.result
    c.if-not-is_date_time.ensures
    c.second_at.ensures.value
    c.cut.ensures.rest
    (c.decimal_units-units.ensures.value ∙ ap (units_of c.args.decimals 0) c.decimals_at.ensures.value)

pub returns-then-not-is_date_time : goal.returns-then-not-is_date_time
returns-then-not-is_date_time c = c.nan.ensures ∙ no_seconds c.args.decimals c.args.text.now c.if-not-is_date_time.ensures
