-- Decimals as they are written, whatever their size (XML Schema part 2, section 3.2.3): sign, whole digits and fraction digits.
use Rattle.std.specs.Prelude.{ℕ, ◌+◌, Bool, true, false, ◌&&◌, ◌||◌, not, ◌==◌, nat_lt, List, [], ◌∷◌, length, bytes_eq, Option, Some, None, if◌then◌else◌}
use Rattle.xf_num.specs.Written.{is_empty, leading_digits, after_digits, trimmed}
use Rattle.xf_types.specs.Behind.{past_first}
pub use Rattle.xf_types.specs.Numerals.{has_minus, without_sign}
use Rattle.xf_types.specs.Numerals.{is_decimal}

-- without the zeros at the front
abbrev pub without_first_zeros : List ℕ → List ℕ
without_first_zeros [] = []
without_first_zeros (c ∷ digits) = if c == 48 then without_first_zeros digits else c ∷ digits

-- without the zeros at the end
abbrev pub without_last_zeros : List ℕ → List ℕ
without_last_zeros [] = []
without_last_zeros (c ∷ digits) = if (c == 48) && is_empty (without_last_zeros digits) then [] else c ∷ without_last_zeros digits

-- a decimal by its digits, of which no needless one is left; a zero has no sign
pub record Decimal : Type 0 where
  pub minus : Bool
  pub whole : List ℕ
  pub fraction : List ℕ

abbrev pub signed : Bool → List ℕ → List ℕ → Decimal
signed minus whole fraction = record { minus = minus && not (is_empty whole && is_empty fraction); whole = whole; fraction = fraction }

-- what an optional sign, and digits with an optional point, write
abbrev pub digits_of : List ℕ → Decimal
digits_of text =
    let digits = without_sign text in
    signed (has_minus text) (without_first_zeros (leading_digits digits)) (without_last_zeros (past_first (after_digits digits)))

abbrev pub is_decimal_text : List ℕ → Bool
is_decimal_text text = is_decimal (trimmed text)

-- a text as a decimal, if it is one without the white space at its ends
abbrev pub decimal_of : List ℕ → Option Decimal
decimal_of text = if is_decimal_text text then Some (digits_of (trimmed text)) else None

-- ---- order

-- the first digits that differ decide; what has no more digits is less
abbrev pub is_before : List ℕ → List ℕ → Bool
is_before [] [] = false
is_before [] (b ∷ second) = true
is_before (a ∷ first) [] = false
is_before (a ∷ first) (b ∷ second) = nat_lt a b || ((a == b) && is_before first second)

-- whole digits: more of them, or the same number and greater ones
abbrev pub is_smaller_whole : List ℕ → List ℕ → Bool
is_smaller_whole first second = nat_lt (length first) (length second) || ((length first == length second) && is_before first second)

-- without their signs
abbrev pub is_smaller : Decimal → Decimal → Bool
is_smaller x y = is_smaller_whole x.whole y.whole || (bytes_eq x.whole y.whole && is_before x.fraction y.fraction)

abbrev pub is_less_by : Bool → Bool → Decimal → Decimal → Bool
is_less_by true true x y = is_smaller y x
is_less_by true false x y = true
is_less_by false true x y = false
is_less_by false false x y = is_smaller x y

abbrev pub is_less : Decimal → Decimal → Bool
is_less x y = is_less_by x.minus y.minus x y

abbrev pub is_same_sign : Bool → Bool → Bool
is_same_sign true other = other
is_same_sign false other = not other

abbrev pub is_same : Decimal → Decimal → Bool
is_same x y = is_same_sign x.minus y.minus && bytes_eq x.whole y.whole && bytes_eq x.fraction y.fraction

-- ---- how many digits

abbrev pub total_digits : Decimal → ℕ
total_digits x = length x.whole + length x.fraction
