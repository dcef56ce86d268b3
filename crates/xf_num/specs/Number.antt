-- Numbers of d decimals and their arithmetic (XPath 1.0, sections 3.5 and 4.4, over decimals in place of floats). None is NaN, and Some k
-- is the whole count k of units of the last decimal.
use Rattle.std.specs.Prelude.{ℕ, ◌/◌, ◌^◌, ◌<◌, nat_lt, ◌==◌, if◌then◌else◌, ℤ, pos, ◌+ℤ◌, ◌-ℤ◌, ◌*ℤ◌, neg_ℤ, unsigned_abs, int_div, int_rem, Option, Some, None}
use Rattle.std.specs.Int.{int_div_euclid}
use Rattle.std.specs.Ordering.{int_cmp}
use Rattle.std.specs.declared.cmp.Ordering.{Ordering}

-- so many units are too many, for every d
abbrev pub size_limit : ℕ
size_limit = 10 ^ 18

-- the units in one
unfoldable pub scale : ℕ → ℕ
scale d = 10 ^ d

-- so many units, or NaN out of range
abbrev pub in_range : ℤ → Option ℤ
in_range k = if nat_lt (unsigned_abs k) size_limit then Some k else None

-- the size of a number that is not NaN is below the limit
abbrev pub IsNumber : Option ℤ → Type 0
IsNumber (Some k) = unsigned_abs k < size_limit
IsNumber None = Unit {0}

-- what is made of the counts of two numbers, NaN where one of them is NaN
abbrev pub of_both : (ℤ → ℤ → Option ℤ) → Option ℤ → Option ℤ → Option ℤ
of_both made (Some j) (Some k) = made j k
of_both made (Some j) None = None
of_both made None other = None

-- what is made of the count of a number, NaN of NaN
abbrev pub of_one : (ℤ → Option ℤ) → Option ℤ → Option ℤ
of_one made (Some k) = made k
of_one made None = None

abbrev pub sum : Option ℤ → Option ℤ → Option ℤ
sum = of_both (λ j k. in_range (j +ℤ k))

abbrev pub difference : Option ℤ → Option ℤ → Option ℤ
difference = of_both (λ j k. in_range (j -ℤ k))

-- cut toward zero at the last decimal
abbrev pub product : ℕ → Option ℤ → Option ℤ → Option ℤ
product d = of_both (λ j k. in_range (int_div (j *ℤ k) (pos (scale d))))

-- cut toward zero at the last decimal, NaN for a divisor of zero
abbrev pub quotient : ℕ → Option ℤ → Option ℤ → Option ℤ
quotient d = of_both (λ j k. if unsigned_abs k == 0 then None else in_range (int_div (j *ℤ pos (scale d)) k))

-- `mod`: what is left of the dividend, with its sign, NaN for a divisor of zero
abbrev pub remainder : Option ℤ → Option ℤ → Option ℤ
remainder = of_both (λ j k. if unsigned_abs k == 0 then None else in_range (int_rem j k))

-- the units of the greatest whole number that is at most k units
abbrev pub lower_whole : ℕ → ℤ → ℤ
lower_whole d k = int_div_euclid k (pos (scale d)) *ℤ pos (scale d)

-- the greatest whole number that is not above
abbrev pub floor_of : ℕ → Option ℤ → Option ℤ
floor_of d = of_one (λ k. in_range (lower_whole d k))

-- the least whole number that is not below
abbrev pub ceiling_of : ℕ → Option ℤ → Option ℤ
ceiling_of d = of_one (λ k. in_range (neg_ℤ (lower_whole d (neg_ℤ k))))

-- the nearest whole number, of two the greater: the greatest that is not above the number and a half
abbrev pub rounded : ℕ → Option ℤ → Option ℤ
rounded d = of_one (λ k. in_range (lower_whole d (k +ℤ pos (scale d / 2))))

-- how two numbers stand, None where one of them is NaN
abbrev pub order_of : Option ℤ → Option ℤ → Option Ordering
order_of (Some j) (Some k) = Some (int_cmp j k)
order_of (Some j) None = None
order_of None other = None
