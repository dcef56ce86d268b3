-- The conversions of plain values (XPath 1.0, sections 4.2 to 4.4). A number is that of d decimals.
use Rattle.std.specs.Prelude.{ℕ, ◌*◌, nat_lt, Bool, true, false, not, List, ℤ, pos, unsigned_abs, Option, Some, None, codes}
use Rattle.xf_num.specs.Number.{scale, in_range}
use Rattle.xf_num.specs.Written.{is_empty, read_at, printed}
use Rattle.xf_def_values.specs.declared.plain.Plain.{Plain}
use Rattle.xf_def_values.specs.declared.plain.Plain.TheVariants.{Text, Number, Truth}

-- a number: a count of units of the last decimal, or None for NaN
abbrev pub Decimal : Type 0
Decimal = Option ℤ

-- a whole number
abbrev pub whole : ℕ → ℕ → Decimal
whole d n = in_range (pos (n * scale d))

-- as a truth (section 4.3)

-- a number is true where it is neither zero nor NaN
abbrev pub is_not_zero : Decimal → Bool
is_not_zero None = false
is_not_zero (Some k) = nat_lt 0 (unsigned_abs k)

abbrev pub truth_in : Plain → Bool
truth_in (Text text) = not (is_empty text)
truth_in (Number k) = is_not_zero k
truth_in (Truth b) = b

-- as a number (section 4.4)

abbrev pub number_of_truth : ℕ → Bool → Decimal
number_of_truth d true = whole d 1
number_of_truth d false = whole d 0

abbrev pub number_in : ℕ → Plain → Decimal
number_in d (Text text) = read_at d text
number_in d (Number k) = k
number_in d (Truth b) = number_of_truth d b

-- as a text (section 4.2)

abbrev pub text_of_truth : Bool → List ℕ
text_of_truth true = codes "true"
text_of_truth false = codes "false"

abbrev pub text_in : ℕ → Plain → List ℕ
text_in d (Text text) = text
text_in d (Number k) = printed d k
text_in d (Truth b) = text_of_truth b
