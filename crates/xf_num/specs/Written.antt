-- How numbers of d decimals are read from text and printed (XPath 1.0, sections 4.2 and 4.4).
use Rattle.std.specs.Prelude.{ℕ, zero, suc, ◌+◌, ◌-◌, ◌*◌, ◌/◌, ◌%◌, Bool, true, false, ◌&&◌, ◌||◌, not, ◌==◌, nat_le, if◌then◌else◌, List, [], ◌∷◌, ◌++◌, take, length, ℤ, pos, negsuc, neg_ℤ, unsigned_abs, Option, Some, None, codes, decimal}
use Rattle.std.specs.Str.Parse.{digits_value, digits_value_after}
use Rattle.xf_num.specs.Number.{scale, in_range, of_one}

-- white space (XML 1.0, section 2.3)
abbrev pub is_space : ℕ → Bool
is_space c = (c == 32) || (c == 9) || (c == 10) || (c == 13)

abbrev pub is_digit : ℕ → Bool
is_digit c = nat_le 48 c && nat_le c 57

abbrev pub is_empty : List ℕ → Bool
is_empty [] = true
is_empty (c ∷ text) = false

-- the text without the white space that it begins with, and without that which it ends with
abbrev pub without_leading : List ℕ → List ℕ
without_leading [] = []
without_leading (c ∷ text) = if is_space c then without_leading text else c ∷ text

abbrev pub without_trailing : List ℕ → List ℕ
without_trailing [] = []
without_trailing (c ∷ text) = if is_space c && is_empty (without_trailing text) then [] else c ∷ without_trailing text

-- the text without white space at its ends
abbrev pub trimmed : List ℕ → List ℕ
trimmed text = without_trailing (without_leading text)

-- the digits that a text begins with, and what follows them
abbrev pub leading_digits : List ℕ → List ℕ
leading_digits [] = []
leading_digits (c ∷ text) = if is_digit c then c ∷ leading_digits text else []

abbrev pub after_digits : List ℕ → List ℕ
after_digits [] = []
after_digits (c ∷ text) = if is_digit c then after_digits text else c ∷ text

-- the units that are written by the number before the point and the digits after it: of these the first d count, and each
-- decimal that is not written counts as zero
abbrev pub units_of : ℕ → ℕ → List ℕ → ℕ
units_of d whole decimals = digits_value_after 10 whole (take d decimals) * scale (d - length decimals)

-- what follows the digits before a point, which wrote that number, if any stood there: nothing, or a point and digits;
-- one digit at least in all
abbrev pub from_parts : ℕ → ℕ → Bool → List ℕ → Option ℤ
from_parts d whole has_whole [] = if has_whole then in_range (pos (units_of d whole [])) else None
from_parts d whole has_whole (c ∷ decimals) =
    if (c == 46) && is_empty (after_digits decimals) && (has_whole || not (is_empty decimals))
    then in_range (pos (units_of d whole decimals))
    else None

abbrev pub without_sign_at : ℕ → List ℕ → Option ℤ
without_sign_at d text =
    let whole = leading_digits text in from_parts d (digits_value 10 whole) (not (is_empty whole)) (after_digits text)

-- the number with the other sign; zero has none
abbrev pub negated : Option ℤ → Option ℤ
negated = of_one (λ k. Some (neg_ℤ k))

-- an optional minus, and digits with an optional point
abbrev pub with_sign_at : ℕ → List ℕ → Option ℤ
with_sign_at d [] = None
with_sign_at d (c ∷ text) =
    if c == 45 then negated (without_sign_at d text) else without_sign_at d (c ∷ text)

-- the number that a text is read as: NaN where it is no number or out of range
abbrev pub read_at : ℕ → List ℕ → Option ℤ
read_at d text = with_sign_at d (trimmed text)

-- the decimals of so many units below one, without trailing zeros
abbrev pub decimals_of : ℕ → ℕ → List ℕ
decimals_of zero units = []
decimals_of (suc d) units = if units == 0 then [] else (48 + units / scale d) ∷ decimals_of d (units % scale d)

-- a point before decimals, and nothing where there are none
abbrev pub after_point : List ℕ → List ℕ
after_point [] = []
after_point (c ∷ decimals) = 46 ∷ c ∷ decimals

abbrev pub size_text : ℕ → ℕ → List ℕ
size_text d units = decimal (units / scale d) ++ after_point (decimals_of d (units % scale d))

-- the sign before a size, which zero has not
abbrev pub sign_of : ℤ → List ℕ
sign_of (pos k) = []
sign_of (negsuc k) = 45 ∷ []

-- the text that a number is printed as
abbrev pub printed : ℕ → Option ℤ → List ℕ
printed d None = codes "NaN"
printed d (Some k) = sign_of k ++ size_text d (unsigned_abs k)
