-- Powers and the numbers of days and durations (XForms 1.1, sections 7.7 and 7.9), over numbers of d decimals.
use Rattle.std.specs.Prelude.{ℕ, zero, suc, ◌/◌, ◌%◌, ◌==◌, nat_le, ◌&&◌, ℤ, pos, negsuc, neg_ℤ, ◌*ℤ◌, Option, Some, None, if◌then◌else◌}
use Rattle.std.specs.declared.cmp.Ordering.{Ordering}
use Rattle.std.specs.declared.cmp.Ordering.TheVariants.{Less, Equal, Greater}
use Rattle.xf_num.specs.Number.{scale, in_range, product}
use Rattle.xf_def_values.specs.Conversions.{whole}

-- 1 multiplied by a number so many times
abbrev pub multiplied : ℕ → Option ℤ → ℕ → Option ℤ
multiplied d x zero = whole d 1
multiplied d x (suc count) = product d (multiplied d x count) x

-- so many units as an exponent: whole, and from 0 to 64
abbrev pub exponent_in : ℕ → ℤ → Option ℕ
exponent_in d (negsuc k) = None
exponent_in d (pos k) = if (k % scale d == 0) && nat_le (k / scale d) 64 then Some (k / scale d) else None

abbrev pub exponent_of : ℕ → Option ℤ → Option ℕ
exponent_of d None = None
exponent_of d (Some k) = exponent_in d k

abbrev pub power_by : ℕ → Option ℤ → Option ℕ → Option ℤ
power_by d x None = None
power_by d x (Some count) = multiplied d x count

abbrev pub power : ℕ → Option ℤ → Option ℤ → Option ℤ
power d x n = power_by d x (exponent_of d n)

-- `compare`: the order as a number
abbrev pub order_number : ℕ → Ordering → Option ℤ
order_number d Less = in_range (neg_ℤ (pos (scale d)))
order_number d Equal = whole d 0
order_number d Greater = whole d 1

-- so many days as a number, NaN where there is none
abbrev pub day_number : ℕ → Option ℤ → Option ℤ
day_number d None = None
day_number d (Some day) = in_range (day *ℤ pos (scale d))

-- the months of a duration, and its seconds; NaN where there is none
abbrev pub months_in : Option (Option ℤ × Option ℤ) → Option ℤ
months_in None = None
months_in (Some both) = both.0

abbrev pub seconds_in : Option (Option ℤ × Option ℤ) → Option ℤ
seconds_in None = None
seconds_in (Some both) = both.1
