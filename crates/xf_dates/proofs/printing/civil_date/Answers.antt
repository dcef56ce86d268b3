use Rattle.std.proofs.Common.{◌≡◌, ◌∙◌, arith, pos, ◌≤ℤ◌, ◌<ℤ◌, true, false, to_z-of_z}
use Rattle.jiff_core.proofs.SignedLemmas.{signed_arith}
use Rattle.jiff_core.proofs.DateLemmas.{civil}
use Rattle.xf_dates.proofs.DayLemmas.{civil_date-of, civil_date-early, civil_date-none}
use Rattle.xf_dates.proofs.printing.civil_date.Goals as goal

pub returns-then-date-lt-FIRST_YEAR : goal.returns-then-date-lt-FIRST_YEAR
returns-then-date-lt-FIRST_YEAR c =
    let date = c.in-Ok.date in
    let early : date.year <ℤ pos 1 = omega (arith, signed_arith) in
    civil_date-early date.year date.month date.day c.args.day (civil date) early (c.in-Ok.ensures.value ∙ to_z-of_z c.ranges.day)

pub returns-else-date-lt-FIRST_YEAR : goal.returns-else-date-lt-FIRST_YEAR
returns-else-date-lt-FIRST_YEAR c =
    let date = c.in-Ok.date in
    let late : pos 1 ≤ℤ date.year = omega (arith, signed_arith) in
    civil_date-of date.year date.month date.day c.args.day (civil date) late (c.in-Ok.ensures.value ∙ to_z-of_z c.ranges.day)

pub returns-in-Err : goal.returns-in-Err
returns-in-Err c =
    let same = to_z-of_z c.ranges.day in
    civil_date-none c.args.day (λ is. let no : false ≡ true = c.in-Err.ensures.succeeds.1 (rw same is) in cc)
