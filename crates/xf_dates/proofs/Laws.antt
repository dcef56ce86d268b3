-- Laws of the definitions: a date that is written is read as its day again, and a moment as its second.
use Rattle.std.proofs.Common.{◌≡◌, ℕ, ◌+◌, ◌/◌, ◌%◌, ◌<◌, ◌≤◌, Bool, true, ◌&&◌, ◌||◌, nat_le, List, [], ◌∷◌, ◌++◌, refl, sym, ◌∙◌, ap, arith, codes, ℤ, pos, ◌+ℤ◌, ◌*ℤ◌, ◌-ℤ◌, unsigned_abs, zero, suc, Some}
use Rattle.std.specs.Int.{int_div_euclid, int_rem_euclid}
use Rattle.std.proofs.lemmas.Bool.Decides.{nat_tests}
use Rattle.jiff_core.specs.Calendar.{IsCivilDate, days_from_civil, days_in_month}
use Rattle.jiff_core.proofs.SignedLemmas.{signed_arith}
use Rattle.jiff_core.proofs.CalendarLemmas.{days_in_month_bounds}
use Rattle.xf_num.specs.Number.{scale, in_range}
use Rattle.xf_num.specs.Written.{is_digit, units_of}
use Rattle.xf_types.specs.Shapes.{fits, two_digits}
use Rattle.xf_types.specs.Times.{is_day, is_month, year_of, is_clock, is_midnight, is_clock_text, is_date_alone, is_date, is_date_time, is_time}
use Rattle.xf_dates.specs.Days.{day_at, clock_at, second_at, day_in}
use Rattle.xf_dates.specs.Instants.{seconds_in}
use Rattle.xf_dates.specs.Printed.{date_text, clock_text, civil_date, text_of_date, text_of_moment, day_text, second_text}
use Rattle.xf_dates.proofs.TextLemmas.{date_is, seconds_are}
use Rattle.xf_dates.proofs.DayLemmas.{civil_date-of}

both_true : (a b : Bool) → a ≡ true → b ≡ true → (a && b) ≡ true
both_true a b h k = rw (h, k) refl

le_true : (a b : ℕ) → a ≤ b → nat_le a b ≡ true
le_true a b h = grind (arith, nat_tests)

digit : (n : ℕ) → n < 10 → is_digit (48 + n) ≡ true
digit n h = grind (arith, nat_tests)

-- the numbers of a date of the years 0001 to 9999
record IsWritten (year month day : ℕ) : Type 0 where
  year_least : 1 ≤ year
  year_most : year ≤ 9999
  month_least : 1 ≤ month
  month_most : month ≤ 12
  day_least : 1 ≤ day
  day_last : day ≤ days_in_month (pos year) month
  day_most : day ≤ 31

written : (year month day : ℕ) → IsCivilDate (pos year) month day → 1 ≤ year → IsWritten year month day
written year month day h least =
    let most : year ≤ 9999 = omega (arith, signed_arith, h.0.1) in
    let last = days_in_month_bounds (pos year) month in
    record {
      year_least = least;
      year_most = most;
      month_least = h.1.0;
      month_most = h.1.1;
      day_least = h.2.0;
      day_last = h.2.1;
      day_most = omega (arith, h.2.1, last.0);
    }

-- ---- the numbers that a written date has

year_read : (year month day : ℕ) → year ≤ 9999 → year_of (date_text (pos year, month, day)) ≡ year
year_read year month day h = omega arith

month_read : (year month day : ℕ) → month ≤ 12 → two_digits (date_text (pos year, month, day)) 5 ≡ month
month_read year month day h = omega arith

day_read : (year month day : ℕ) → day ≤ 31 → two_digits (date_text (pos year, month, day)) 8 ≡ day
day_read year month day h = omega arith

shape_read : (year month day : ℕ) → year ≤ 9999 → month ≤ 12 → day ≤ 31 → fits (codes "0000-00-00") (date_text (pos year, month, day)) ≡ true
shape_read year month day y m d =
    both_true _ _ (digit (year / 100 / 10) (omega arith)) (both_true _ _ (digit (year / 100 % 10) (omega arith))
    (both_true _ _ (digit (year % 100 / 10) (omega arith)) (both_true _ _ (digit (year % 100 % 10) (omega arith))
    (both_true _ _ (digit (month / 10) (omega arith)) (both_true _ _ (digit (month % 10) (omega arith))
    (both_true _ _ (digit (day / 10) (omega arith)) (both_true _ _ (digit (day % 10) (omega arith)) refl)))))))

day_exists : (year month day : ℕ) → IsWritten year month day → is_day year month day ≡ true
day_exists year month day h =
    both_true (is_month month && nat_le 1 day) (nat_le day (days_in_month (pos year) month))
    (both_true (is_month month) (nat_le 1 day) (both_true (nat_le 1 month) (nat_le month 12) (le_true _ _ h.month_least) (le_true _ _ h.month_most)) (le_true _ _ h.day_least))
    (le_true _ _ h.day_last)

date_read : (year month day : ℕ) → IsWritten year month day → is_date_alone (date_text (pos year, month, day)) ≡ true
date_read year month day h =
    let text = date_text (pos year, month, day) in
    both_true (fits (codes "0000-00-00") text && nat_le 1 (year_of text)) (is_day (year_of text) (two_digits text 5) (two_digits text 8))
    (both_true (fits (codes "0000-00-00") text) (nat_le 1 (year_of text)) (shape_read year month day h.year_most h.month_most h.day_most)
    (ap (nat_le 1) (year_read year month day h.year_most) ∙ le_true _ _ h.year_least))
    (ap (λ y. is_day y (two_digits text 5) (two_digits text 8)) (year_read year month day h.year_most)
    ∙ ap (λ m. is_day year m (two_digits text 8)) (month_read year month day h.month_most)
    ∙ ap (λ d. is_day year month d) (day_read year month day h.day_most)
    ∙ day_exists year month day h)

number_read : (year month day : ℕ) → IsWritten year month day → day_at (date_text (pos year, month, day)) ≡ days_from_civil (pos year) month day
number_read year month day h =
    let text = date_text (pos year, month, day) in
    ap (λ y. days_from_civil (pos y) (two_digits text 5) (two_digits text 8)) (year_read year month day h.year_most)
    ∙ ap (λ m. days_from_civil (pos year) m (two_digits text 8)) (month_read year month day h.month_most)
    ∙ ap (λ d. days_from_civil (pos year) month d) (day_read year month day h.day_most)

-- a written date is read as its day number
pub day_in-date_text : (year month day : ℕ) → IsCivilDate (pos year) month day → 1 ≤ year → day_in (date_text (pos year, month, day)) ≡ Some (days_from_civil (pos year) month day)
day_in-date_text year month day civil least =
    let h = written year month day civil least in
    let text = date_text (pos year, month, day) in
    let is : true ≡ is_date text = sym (both_true (is_date_alone text) true (date_read year month day h) refl) in
    sym (date_is text text (days_from_civil (pos year) month day) is refl (sym (number_read year month day h)))

-- ---- the numbers that a written time has

clock_read : (second : ℕ) → second < 86400 → clock_at (clock_text second) ≡ second
clock_read second h = omega arith

time_shape : (second : ℕ) → second < 86400 → fits (codes "00:00:00") (clock_text second) ≡ true
time_shape second h =
    both_true _ _ (digit (second / 3600 / 10) (omega arith)) (both_true _ _ (digit (second / 3600 % 10) (omega arith))
    (both_true _ _ (digit (second / 60 % 60 / 10) (omega arith)) (both_true _ _ (digit (second / 60 % 60 % 10) (omega arith))
    (both_true _ _ (digit (second % 60 / 10) (omega arith)) (both_true _ _ (digit (second % 60 % 10) (omega arith)) refl)))))

time_exists : (second : ℕ) → second < 86400 → is_clock_text (clock_text second) ≡ true
time_exists second h =
    let text = clock_text second in
    let hour : two_digits text 0 ≡ second / 3600 = omega arith in
    let minute : two_digits text 3 ≡ second / 60 % 60 = omega arith in
    let last : two_digits text 6 ≡ second % 60 = omega arith in
    let late : nat_le (two_digits text 0) 23 ≡ true = ap (λ n. nat_le n 23) hour ∙ le_true _ _ (omega arith) in
    let clock : is_clock (two_digits text 0) (two_digits text 3) (two_digits text 6) ≡ true =
    both_true (nat_le (two_digits text 0) 23 && nat_le (two_digits text 3) 59) (nat_le (two_digits text 6) 59)
    (both_true (nat_le (two_digits text 0) 23) (nat_le (two_digits text 3) 59) late (ap (λ n. nat_le n 59) minute ∙ le_true _ _ (omega arith)))
    (ap (λ n. nat_le n 59) last ∙ le_true _ _ (omega arith)) in
    both_true (fits (codes "00:00:00") text) _ (time_shape second h)
    (ap (λ b. b || is_midnight (two_digits text 0) (two_digits text 3) (two_digits text 6)) clock)

-- the text of a date and of a second of its day
abbrev pub moment : ℕ → ℕ → ℕ → ℕ → List ℕ
moment year month day second = text_of_moment (Some (pos year, month, day)) second

moment_read : (year month day second : ℕ) → IsWritten year month day → second < 86400 → is_date_time (moment year month day second) ≡ true
moment_read year month day second h lt =
    both_true (is_date_alone (date_text (pos year, month, day)) && true) (is_time (clock_text second ++ 90 ∷ []))
    (both_true (is_date_alone (date_text (pos year, month, day))) true (date_read year month day h) refl)
    (both_true (is_clock_text (clock_text second)) true (time_exists second lt) refl)

less_nothing : (z : ℤ) → z -ℤ pos 0 ≡ z
less_nothing z = omega (arith, signed_arith)

second_read : (year month day second : ℕ) → IsWritten year month day → second < 86400 → second_at (moment year month day second) ≡ days_from_civil (pos year) month day *ℤ pos 86400 +ℤ pos second
second_read year month day second h lt =
    less_nothing (day_at (date_text (pos year, month, day)) *ℤ pos 86400 +ℤ pos (clock_at (clock_text second)))
    ∙ ap (λ n. n *ℤ pos 86400 +ℤ pos (clock_at (clock_text second))) (number_read year month day h)
    ∙ ap (λ n. days_from_civil (pos year) month day *ℤ pos 86400 +ℤ pos n) (clock_read second lt)

no_units : (d : ℕ) → units_of d 0 [] ≡ 0
no_units zero = omega arith
no_units (suc d) = omega arith

add_nothing : (z : ℤ) (n : ℕ) → n ≡ 0 → z +ℤ pos n ≡ z
add_nothing z n e = omega (arith, signed_arith)

-- a written moment is read as its second
pub seconds_in-moment : (d year month day second : ℕ) → IsCivilDate (pos year) month day → 1 ≤ year → second < 86400 → seconds_in d (moment year month day second) ≡ in_range ((days_from_civil (pos year) month day *ℤ pos 86400 +ℤ pos second) *ℤ pos (scale d))
seconds_in-moment d year month day second civil least lt =
    let h = written year month day civil least in
    let text = moment year month day second in
    let number = days_from_civil (pos year) month day *ℤ pos 86400 +ℤ pos second in
    sym (seconds_are d text (90 ∷ []) (second_at text) (units_of d 0 []) (sym (moment_read year month day second h lt)) refl refl refl)
    ∙ ap in_range (add_nothing (second_at text *ℤ pos (scale d)) (units_of d 0 []) (no_units d))
    ∙ ap (λ n. in_range (n *ℤ pos (scale d))) (second_read year month day second h lt)

-- ---- and what is read is written

pub day_text-number : (year month day : ℕ) → IsCivilDate (pos year) month day → 1 ≤ year → day_text (Some (days_from_civil (pos year) month day)) ≡ date_text (pos year, month, day)
day_text-number year month day civil least =
    ap text_of_date (sym (civil_date-of (pos year) month day (days_from_civil (pos year) month day) civil (omega (arith, signed_arith)) refl))

parts_of_second : (days z : ℤ) (second : ℕ) → second < 86400 → z ≡ days *ℤ pos 86400 +ℤ pos second → (int_div_euclid z (pos 86400) ≡ days) × (unsigned_abs (int_rem_euclid z (pos 86400)) ≡ second)
parts_of_second days z second h e = (omega (arith, signed_arith), omega (arith, signed_arith))

pub second_text-number : (year month day second : ℕ) → IsCivilDate (pos year) month day → 1 ≤ year → second < 86400 → second_text (Some (days_from_civil (pos year) month day *ℤ pos 86400 +ℤ pos second)) ≡ moment year month day second
second_text-number year month day second civil least lt =
    let days = days_from_civil (pos year) month day in
    let z = days *ℤ pos 86400 +ℤ pos second in
    let parts = parts_of_second days z second lt refl in
    ap (λ n. text_of_moment (civil_date n) (unsigned_abs (int_rem_euclid z (pos 86400)))) parts.0
    ∙ ap (λ n. text_of_moment (civil_date days) n) parts.1
    ∙ ap (λ date. text_of_moment date second) (sym (civil_date-of (pos year) month day days civil (omega (arith, signed_arith)) refl))
