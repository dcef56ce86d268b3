-- What the shapes of dates and dateTimes say of their numbers.
use Rattle.std.proofs.Common.{◌≡◌, ℕ, ◌-◌, ◌<◌, ◌≤◌, Bool, true, false, ◌&&◌, nat_le, List, [], ◌∷◌, take, drop, refl, ◌∙◌, ap, arith, codes, if◌then◌else◌, ℤ, pos, ◌+ℤ◌, ◌-ℤ◌, ◌*ℤ◌, ◌^◌, unsigned_abs, to_z, of_z, w64, Some, None}
use Rattle.std.specs.Int.{int_div_euclid}
use Rattle.std.proofs.lemmas.Bool.Decides.{nat_tests}
use Rattle.jiff_core.specs.Calendar.{IsCivilDate, IsEpochDay, days_from_civil, days_in_month}
use Rattle.jiff_core.proofs.SignedLemmas.{signed_arith, one_part}
use Rattle.xf_num.specs.Written.{is_digit}
use Rattle.xf_types.specs.Shapes.{fits, two_digits}
use Rattle.xf_types.specs.Times.{is_month, is_day, year_of, is_date_alone, is_date, is_date_time, may_be_zone, is_time}
use Rattle.xf_num.specs.Number.{scale, in_range}
use Rattle.xf_num.specs.Written.{units_of}
use Rattle.xf_dates.specs.Decimals.{decimals_at, past_decimals}
use Rattle.xf_dates.specs.Days.{day_at, clock_at, ahead, second_at, day_in}
use Rattle.xf_dates.specs.Instants.{seconds_in}

pub and_left : (a b : Bool) → (a && b) ≡ true → a ≡ true
and_left true b h = refl
and_left false b h = h

pub and_right : (a b : Bool) → (a && b) ≡ true → b ≡ true
and_right true b h = h
and_right false b h = absurd (cc)

digit_bound : (c : ℕ) → is_digit c ≡ true → c - 48 ≤ 9
digit_bound c h = grind (arith, nat_tests)

at_least : (a b : ℕ) → nat_le a b ≡ true → a ≤ b
at_least a b h = grind (arith, nat_tests)

-- the four digits of a year
pub year_bound : (text : List ℕ) → fits (codes "0000-00-00") text ≡ true → year_of text ≤ 9999
year_bound [] h = absurd (cc)
year_bound (a ∷ []) h = let no = and_right (is_digit a) false h in absurd (cc)
year_bound (a ∷ b ∷ []) h = let no = and_right (is_digit b) false (and_right (is_digit a) _ h) in absurd (cc)
year_bound (a ∷ b ∷ c ∷ []) h =
    let no = and_right (is_digit c) false (and_right (is_digit b) _ (and_right (is_digit a) _ h)) in absurd (cc)
year_bound (a ∷ b ∷ c ∷ d ∷ text) h =
    let after_a = and_right (is_digit a) _ h in
    let after_b = and_right (is_digit b) _ after_a in
    let after_c = and_right (is_digit c) _ after_b in
    omega (arith, digit_bound a (and_left _ _ h), digit_bound b (and_left _ _ after_a), digit_bound c (and_left _ _ after_b), digit_bound d (and_left _ _ after_c))

-- a date that stands alone is one of the calendar
pub record IsGoodDate (text : List ℕ) : Type 0 where
  pub year_least : 1 ≤ year_of text
  pub year_most : year_of text ≤ 9999
  pub month_least : 1 ≤ two_digits text 5
  pub month_most : two_digits text 5 ≤ 12
  pub day_least : 1 ≤ two_digits text 8
  pub day_most : two_digits text 8 ≤ days_in_month (pos (year_of text)) (two_digits text 5)

pub good_date : (text : List ℕ) → is_date_alone text ≡ true → IsGoodDate text
good_date text h =
    let shape_and_year = and_left _ _ h in
    let day = and_right (fits (codes "0000-00-00") text && nat_le 1 (year_of text)) (is_day (year_of text) (two_digits text 5) (two_digits text 8)) h in
    let month_and_least = and_left (is_month (two_digits text 5) && nat_le 1 (two_digits text 8)) (nat_le (two_digits text 8) (days_in_month (pos (year_of text)) (two_digits text 5))) day in
    let month = and_left (is_month (two_digits text 5)) (nat_le 1 (two_digits text 8)) month_and_least in
    record {
      year_least = at_least _ _ (and_right (fits (codes "0000-00-00") text) _ shape_and_year);
      year_most = year_bound text (and_left _ _ shape_and_year);
      month_least = at_least _ _ (and_left (nat_le 1 (two_digits text 5)) _ month);
      month_most = at_least _ _ (and_right (nat_le 1 (two_digits text 5)) _ month);
      day_least = at_least _ _ (and_right (is_month (two_digits text 5)) _ month_and_least);
      day_most = at_least _ _ (and_right (is_month (two_digits text 5) && nat_le 1 (two_digits text 8)) _ day);
    }

pub date_of_date : (text : List ℕ) → is_date text ≡ true → is_date_alone (take 10 text) ≡ true
date_of_date text h = and_left (is_date_alone (take 10 text)) (may_be_zone (drop 10 text)) h

pub date_of_date_time : (text : List ℕ) → is_date_time text ≡ true → is_date_alone (take 10 text) ≡ true
date_of_date_time text h = and_left (is_date_alone (take 10 text)) _ (and_left _ (is_time (drop 11 text)) h)

pub calendar_date : (text : List ℕ) (year : ℤ) (month day : ℕ) → IsGoodDate text → year ≡ pos (year_of text) → month ≡ two_digits text 5 → day ≡ two_digits text 8 → IsCivilDate year month day
calendar_date text year month day good y m d =
    rw (y, m, d) ((omega (arith, signed_arith, good.year_least), omega (arith, signed_arith, good.year_most)), (good.month_least, good.month_most), (good.day_least, good.day_most))

pub number_of_date : (text : List ℕ) (year : ℤ) (month day : ℕ) → year ≡ pos (year_of text) → month ≡ two_digits text 5 → day ≡ two_digits text 8 → days_from_civil year month day ≡ day_at text
number_of_date text year month day y m d = rw (y, m, d) refl

-- ---- what the code puts together is what the definitions say

-- a sum of small numbers is itself in 64 bits
pub sum_in_bits : (day clock offset : ℤ) → IsEpochDay day → unsigned_abs clock < 2 ^ 45 → unsigned_abs offset < 2 ^ 45 → to_z w64 (of_z w64 (to_z w64 (of_z w64 (to_z w64 (of_z w64 (to_z w64 (of_z w64 day) *ℤ pos 86400)) +ℤ to_z w64 (of_z w64 clock))) -ℤ to_z w64 (of_z w64 offset))) ≡ day *ℤ pos 86400 +ℤ clock -ℤ offset
sum_in_bits day clock offset a b c = omega (arith, signed_arith)

pub sum_is_small : (day clock offset : ℤ) → IsEpochDay day → unsigned_abs clock < 2 ^ 45 → unsigned_abs offset < 2 ^ 45 → unsigned_abs (day *ℤ pos 86400 +ℤ clock -ℤ offset) < 2 ^ 50
sum_is_small day clock offset a b c = omega (arith, signed_arith, one_part (day *ℤ pos 86400 +ℤ clock -ℤ offset))

pub second_is : (text date time rest : List ℕ) (day clock offset : ℤ) → date ≡ take 10 text → time ≡ drop 11 text → rest ≡ drop 19 text → day ≡ day_at date → clock ≡ pos (clock_at time) → offset ≡ ahead (past_decimals rest) → day *ℤ pos 86400 +ℤ clock -ℤ offset ≡ second_at text
second_is text date time rest day clock offset a b c d e f =
    ap (λ x. x *ℤ pos 86400 +ℤ clock -ℤ offset) (d ∙ ap day_at a)
    ∙ ap (λ x. day_at (take 10 text) *ℤ pos 86400 +ℤ x -ℤ offset) (e ∙ ap (λ t. pos (clock_at t)) b)
    ∙ ap (λ x. day_at (take 10 text) *ℤ pos 86400 +ℤ pos (clock_at (drop 11 text)) -ℤ x) (f ∙ ap (λ t. ahead (past_decimals t)) c)

pub day_is : (text : List ℕ) (number : ℤ) → false ≡ is_date text → true ≡ is_date_time text → number ≡ int_div_euclid (second_at text) (pos 86400) → Some number ≡ day_in text
unfolding day_in
day_is text number is_not is e =
    let last = Some (int_div_euclid (second_at text) (pos 86400)) in
    ap Some e
    ∙ ap (λ b. if b then last else None) is
    ∙ ap (λ b. if b then Some (day_at (take 10 text)) else (if is_date_time text then last else None)) is_not

pub date_is : (text date : List ℕ) (number : ℤ) → true ≡ is_date text → date ≡ take 10 text → number ≡ day_at date → Some number ≡ day_in text
unfolding day_in
date_is text date number is d e =
    ap Some (e ∙ ap day_at d)
    ∙ ap (λ b. if b then Some (day_at (take 10 text)) else (if is_date_time text then Some (int_div_euclid (second_at text) (pos 86400)) else None)) is

pub no_day : (text : List ℕ) → false ≡ is_date text → false ≡ is_date_time text → None ≡ day_in text
unfolding day_in
no_day text is_not neither =
    let last = Some (int_div_euclid (second_at text) (pos 86400)) in
    ap (λ b. if b then last else None) neither
    ∙ ap (λ b. if b then Some (day_at (take 10 text)) else (if is_date_time text then last else None)) is_not

pub seconds_are : (d : ℕ) (text rest : List ℕ) (second : ℤ) (decimals : ℕ) → true ≡ is_date_time text → second ≡ second_at text → rest ≡ drop 19 text → decimals ≡ units_of d 0 (decimals_at rest) → in_range (second *ℤ pos (scale d) +ℤ pos decimals) ≡ seconds_in d text
unfolding seconds_in
seconds_are d text rest second decimals is a b c =
    ap (λ x. in_range (x *ℤ pos (scale d) +ℤ pos decimals)) a
    ∙ ap (λ x. in_range (second_at text *ℤ pos (scale d) +ℤ pos x)) (c ∙ ap (λ t. units_of d 0 (decimals_at t)) b)
    ∙ ap (λ b. if b then in_range (second_at text *ℤ pos (scale d) +ℤ pos (units_of d 0 (decimals_at (drop 19 text)))) else None) is

pub no_seconds : (d : ℕ) (text : List ℕ) → false ≡ is_date_time text → None ≡ seconds_in d text
unfolding seconds_in
no_seconds d text is_not =
    ap (λ b. if b then in_range (second_at text *ℤ pos (scale d) +ℤ pos (units_of d 0 (decimals_at (drop 19 text)))) else None) is_not
