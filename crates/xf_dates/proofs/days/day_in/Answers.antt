use Rattle.std.proofs.Common.{◌∙◌, ap, sym, pos, FitsSigned, w64, to_z-of_z, rules}
use Rattle.std.specs.Int.{int_div_euclid}
use Rattle.xf_types.specs.Times.{is_date_alone}
use Rattle.xf_dates.proofs.TextLemmas.{date_of_date, date_is, day_is, no_day}
use Rattle.xf_dates.proofs.days.day_in.Goals as goal

pub day_at-requires : goal.day_at-requires
day_at-requires c = ap is_date_alone c.cut.ensures.front ∙ date_of_date c.args.text.now (sym c.if-is_date.ensures)

pub returns-then-is_date_time : goal.returns-then-is_date_time
returns-then-is_date_time c =
    let second : FitsSigned w64 c.second_at.result = search rules in
    let day : FitsSigned w64 c.div_euclid.result = search rules in
    day_is c.args.text.now _ c.if-is_date.ensures c.if-is_date_time.ensures
    (to_z-of_z day ∙ (simp to_z-of_z at c.div_euclid.ensures) ∙ ap (λ s. int_div_euclid s (pos 86400)) c.second_at.ensures.value)

pub returns-then-is_date : goal.returns-then-is_date
returns-then-is_date c =
    let day : FitsSigned w64 c.day_at.result = search rules in
    date_is c.args.text.now c.cut.result.0.now _ c.if-is_date.ensures c.cut.ensures.front (to_z-of_z day ∙ c.day_at.ensures.value)

pub returns : goal.returns
returns c = no_day c.args.text.now c.if-is_date.ensures c.if-is_date_time.ensures
