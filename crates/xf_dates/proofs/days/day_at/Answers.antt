use Rattle.std.proofs.Common.{◌≡◌, ◌∙◌, ap, arith, pos, to_z, of_z, w16, w64}
use Rattle.std.proofs.lemmas.Int.{to_z_pos}
use Rattle.jiff_core.proofs.SignedLemmas.{signed_arith}
use Rattle.xf_types.specs.Times.{year_of}
use Rattle.xf_dates.proofs.TextLemmas.{good_date, calendar_date, number_of_date}
use Rattle.xf_dates.proofs.days.day_at.Goals as goal
use Rattle.xf_dates.proofs.days.day_at.Goals.{After-two_digits-2}

year_is : (c : After-two_digits-2) → to_z w16 c.year_of.result ≡ pos (year_of c.args.date.now)
year_is c =
    let good = good_date c.args.date.now c.requires in
    to_z_pos w16 c.year_of.result (omega (arith, good.year_most, c.year_of.ensures)) ∙ ap pos c.year_of.ensures

pub invariant_of-date : goal.invariant_of-date
invariant_of-date c =
    let is = calendar_date c.args.date.now (to_z w16 c.year_of.result) c.two_digits.result c.two_digits-2.result (good_date c.args.date.now c.requires) (year_is c) c.two_digits.ensures c.two_digits-2.ensures in
    record { year_in = is.0; month_in = is.1; day_in = is.2 }

pub returns-clause-value : goal.returns-clause-value
returns-clause-value c =
    let number : to_z w64 (of_z w64 c.from.result) ≡ c.to_unix_epoch_day.result = omega (arith, signed_arith) in
    number
    ∙ c.to_unix_epoch_day.ensures.value
    ∙ number_of_date c.args.date.now (to_z w16 c.year_of.result) c.two_digits.result c.two_digits-2.result (year_is (goal.at.returns-clause-value c).After-two_digits-2) c.two_digits.ensures c.two_digits-2.ensures
