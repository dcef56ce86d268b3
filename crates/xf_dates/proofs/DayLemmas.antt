-- The date of a day number is the date that has it.
use Rattle.std.proofs.Common.{◌≡◌, ℕ, zero, suc, ◌+◌, ◌-◌, ◌<◌, ◌≤◌, inl, inr, Bool, true, false, refl, sym, ◌∙◌, ap, arith, if◌then◌else◌, ℤ, pos, negsuc, ◌-ℤ◌, ◌<ℤ◌, ◌≤ℤ◌, unsigned_abs, int_lt, int_le, rules, Option, Some, None}
use Rattle.std.proofs.lemmas.Bool.{cases_lt}
use Rattle.std.proofs.lemmas.Int.{ints, by_lt_z}
use Rattle.jiff_core.specs.Calendar.{days_from_civil, day_count, days_of_years, days_of_months, IsCivilDate, IsEpochDay}
use Rattle.jiff_core.proofs.SignedLemmas.{signed_arith}
use Rattle.jiff_core.proofs.CalendarLemmas.{days_from_civil-day_count, day_count-lt_year, day_count-lt_month, day_count-day_of_year, day_of_year-january}
use Rattle.jiff_core.proofs.DateLemmas.{days_from_civil-day}
use Rattle.xf_dates.specs.Printed.{last_year, last_month, date_in_year, date_in_month, civil_date}

le_true : (a b : ℤ) → a ≤ℤ b → int_le a b ≡ true
le_true a b h = grind (arith, ints)

le_false : (a b : ℤ) → b <ℤ a → int_le a b ≡ false
le_false a b h = grind (arith, ints)

lt_true : (a b : ℤ) → a <ℤ b → int_lt a b ≡ true
lt_true a b h = grind (arith, ints)

lt_false : (a b : ℤ) → b ≤ℤ a → int_lt a b ≡ false
lt_false a b h = grind (arith, ints)

-- ---- the order of the days

year_begun : (y m d : ℕ) → 1 ≤ d → days_from_civil (pos y) 1 1 ≤ℤ days_from_civil (pos y) m d
year_begun y m d h =
    omega (arith, signed_arith, days_from_civil-day_count, day_count-day_of_year (pos y) m d h, day_count-day_of_year (pos y) 1 1 (omega arith), day_of_year-january (pos y) 1 1 refl)

year_to_come : (y m d later : ℕ) → IsCivilDate (pos y) m d → y < later → days_from_civil (pos y) m d <ℤ days_from_civil (pos later) 1 1
year_to_come y m d later h lt =
    omega (arith, signed_arith, days_from_civil-day_count, day_count-lt_year (pos y) m d (pos later) 1 1 h (omega arith) (omega (arith, signed_arith)))

month_begun : (y m d : ℕ) → 1 ≤ d → days_from_civil (pos y) m 1 ≤ℤ days_from_civil (pos y) m d
month_begun y m d h = omega (arith, signed_arith, days_from_civil-day (pos y) m 1 d (omega arith) h)

month_to_come : (y m d later : ℕ) → IsCivilDate (pos y) m d → m < later → days_from_civil (pos y) m d <ℤ days_from_civil (pos y) later 1
month_to_come y m d later h lt =
    omega (arith, signed_arith, days_from_civil-day_count, day_count-lt_month (pos y) m d later 1 h (omega arith) lt)

-- ---- the last that has begun

pub last_year-is : (n y m d : ℕ) → IsCivilDate (pos y) m d → y ≤ n → last_year n (days_from_civil (pos y) m d) ≡ y
unfolding last_year
last_year-is zero y m d h le = omega arith
last_year-is (suc n) y m d h le = elim (cases_lt y (suc n)) as (λ _. (if int_le (days_from_civil (pos (suc n)) 1 1) (days_from_civil (pos y) m d) then suc n else last_year n (days_from_civil (pos y) m d)) ≡ y) [
  | inl lt ↦ rw (le_false _ _ (year_to_come y m d (suc n) h lt)) (last_year-is n y m d h (omega arith))
  | inr ge ↦
      let e : suc n ≡ y = omega arith in
      ap (λ b. if b then suc n else last_year n (days_from_civil (pos y) m d)) (ap (λ k. int_le (days_from_civil (pos k) 1 1) (days_from_civil (pos y) m d)) e ∙ le_true _ _ (year_begun y m d h.2.0))
      ∙ e
]

pub last_month-is : (n y m d : ℕ) → IsCivilDate (pos y) m d → m ≤ n → last_month y n (days_from_civil (pos y) m d) ≡ m
unfolding last_month
last_month-is zero y m d h le = omega arith
last_month-is (suc n) y m d h le = elim (cases_lt m (suc n)) as (λ _. (if int_le (days_from_civil (pos y) (suc n) 1) (days_from_civil (pos y) m d) then suc n else last_month y n (days_from_civil (pos y) m d)) ≡ m) [
  | inl lt ↦ rw (le_false _ _ (month_to_come y m d (suc n) h lt)) (last_month-is n y m d h (omega arith))
  | inr ge ↦
      let e : suc n ≡ m = omega arith in
      ap (λ b. if b then suc n else last_month y n (days_from_civil (pos y) m d)) (ap (λ k. int_le (days_from_civil (pos y) k 1) (days_from_civil (pos y) m d)) e ∙ le_true _ _ (month_begun y m d h.2.0))
      ∙ e
]

place_in_month : (y m d : ℕ) → 1 ≤ d → unsigned_abs (days_from_civil (pos y) m d -ℤ days_from_civil (pos y) m 1) + 1 ≡ d
place_in_month y m d h =
    let e : days_from_civil (pos y) m d -ℤ days_from_civil (pos y) m 1 ≡ pos (d - 1) = omega (arith, signed_arith, days_from_civil-day (pos y) m 1 d (omega arith) h) in
    rw e (omega arith)

date_in_year-is : (y m d : ℕ) → IsCivilDate (pos y) m d → date_in_year y (days_from_civil (pos y) m d) ≡ (pos y, m, d)
date_in_year-is y m d h =
    ap (λ month. date_in_month y month (days_from_civil (pos y) m d)) (last_month-is 12 y m d h h.1.1)
    ∙ ap (λ place. (pos y, m, place)) (place_in_month y m d h.2.0)

-- ---- the ends of the years

first_day : days_from_civil (pos 1) 1 1 ≡ negsuc 719161
unfolding days_from_civil day_count days_of_years days_of_months
first_day = refl

day_after_last : days_from_civil (pos 10000) 1 1 ≡ pos 2932897
unfolding days_from_civil day_count days_of_years days_of_months
day_after_last = refl

first_date : IsCivilDate (pos 1) 1 1
first_date = search rules

not_before : (y m d : ℕ) → IsCivilDate (pos y) m d → 1 ≤ y → days_from_civil (pos 1) 1 1 ≤ℤ days_from_civil (pos y) m d
not_before y m d h le = elim (cases_lt 1 y) as (λ _. days_from_civil (pos 1) 1 1 ≤ℤ days_from_civil (pos y) m d) [
  | inl lt ↦ omega (arith, signed_arith, year_to_come 1 1 1 y first_date lt, year_begun y m d h.2.0)
  | inr ge ↦ let e : y ≡ 1 = omega arith in rw e (year_begun 1 m d h.2.0)
]

-- ---- the date of a day

civil_date-is : (y m d : ℕ) → IsCivilDate (pos y) m d → 1 ≤ y → civil_date (days_from_civil (pos y) m d) ≡ Some (pos y, m, d)
unfolding civil_date
civil_date-is y m d h le =
    let day = days_from_civil (pos y) m d in
    let year_most : y ≤ 9999 = omega (arith, signed_arith, h.0.1) in
    ap (λ b. if b then None else (if int_le (days_from_civil (pos 10000) 1 1) day then None else Some (date_in_year (last_year 9999 day) day))) (lt_false _ _ (not_before y m d h le))
    ∙ ap (λ b. if b then None else Some (date_in_year (last_year 9999 day) day)) (le_false _ _ (year_to_come y m d 10000 h (omega arith)))
    ∙ ap (λ year. Some (date_in_year year day)) (last_year-is 9999 y m d h year_most)
    ∙ ap Some (date_in_year-is y m d h)

-- a date from the year 1 on is the date of its day number
pub civil_date-of : (year : ℤ) (m d : ℕ) (day : ℤ) → IsCivilDate year m d → pos 1 ≤ℤ year → days_from_civil year m d ≡ day → Some (year, m, d) ≡ civil_date day
civil_date-of (pos y) m d day h le e = sym (ap civil_date (sym e) ∙ civil_date-is y m d h (omega (arith, signed_arith)))
civil_date-of (negsuc y) m d day h le e = absurd (omega (arith, signed_arith))

before : (day : ℤ) → day <ℤ days_from_civil (pos 1) 1 1 → None ≡ civil_date day
unfolding civil_date
before day h = sym (ap (λ b. if b then None else (if int_le (days_from_civil (pos 10000) 1 1) day then None else Some (date_in_year (last_year 9999 day) day))) (lt_true _ _ h))

abbrev NoDate : Option (ℤ × ℕ × ℕ)
NoDate = None

after : (day : ℤ) → days_from_civil (pos 10000) 1 1 ≤ℤ day → None ≡ civil_date day
unfolding civil_date
after day h =
    sym (ap (λ b. if int_lt day (days_from_civil (pos 1) 1 1) then None else (if b then None else Some (date_in_year (last_year 9999 day) day))) (le_true _ _ h)
    ∙ either (int_lt day (days_from_civil (pos 1) 1 1)))
  where
    either : (b : Bool) → (if b then None else None) ≡ NoDate
    either true = refl
    either false = refl

-- a date before the year 1 has no text
pub civil_date-early : (year : ℤ) (m d : ℕ) (day : ℤ) → IsCivilDate year m d → year <ℤ pos 1 → days_from_civil year m d ≡ day → None ≡ civil_date day
civil_date-early year m d day h lt e =
    before day (omega (arith, signed_arith, days_from_civil-day_count, day_count-lt_year year m d (pos 1) 1 1 h (omega arith) lt))

-- and neither has a day that no date of the calendar has
pub civil_date-none : (day : ℤ) → ¬ (IsEpochDay day) → None ≡ civil_date day
civil_date-none day h =
    by_lt_z day (days_from_civil (pos 1) 1 1) (λ lt. before day lt)
    (λ ge. by_lt_z day (days_from_civil (pos 10000) 1 1)
    (λ lt. absurd (h (omega (arith, signed_arith, first_day), omega (arith, signed_arith, day_after_last))))
    (λ le. after day le))
