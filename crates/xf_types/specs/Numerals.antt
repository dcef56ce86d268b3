-- Decimals and integers (XML Schema part 2, sections 3.2.3 and 3.3.13 to 3.3.25).
use Rattle.std.specs.Prelude.{ℕ, ◌^◌, nat_lt, unsigned_abs, Bool, true, false, ◌&&◌, ◌||◌, not, ◌==◌, if◌then◌else◌, List, [], ◌∷◌, ℤ, pos, neg_ℤ, int_le, Option, Some, None}
use Rattle.std.specs.Str.Parse.{digits_value}
use Rattle.xf_num.specs.Written.{is_empty, after_digits}
use Rattle.xf_types.specs.Shapes.{starts_with_digit}

abbrev pub has_minus : List ℕ → Bool
has_minus [] = false
has_minus (c ∷ text) = c == 45

abbrev pub without_sign : List ℕ → List ℕ
without_sign [] = []
without_sign (c ∷ text) = if (c == 43) || (c == 45) then text else c ∷ text

-- what follows the first digits of a decimal, if any stood there: nothing, or a point and digits; one digit at least in all
abbrev pub is_decimal_rest : Bool → List ℕ → Bool
is_decimal_rest has_whole [] = has_whole
is_decimal_rest has_whole (c ∷ decimals) = (c == 46) && is_empty (after_digits decimals) && (has_whole || not (is_empty decimals))

-- an optional sign, and digits with an optional point
abbrev pub is_decimal : List ℕ → Bool
is_decimal text = let digits = without_sign text in is_decimal_rest (starts_with_digit digits) (after_digits digits)

-- an optional sign, and digits
abbrev pub is_integer : List ℕ → Bool
is_integer text = let digits = without_sign text in not (is_empty digits) && is_empty (after_digits digits)

abbrev pub signed_size : Bool → ℕ → ℤ
signed_size minus size = if minus then neg_ℤ (pos size) else pos size

-- the number that an integer writes
abbrev pub value_of : List ℕ → ℤ
value_of text = signed_size (has_minus text) (digits_value 10 (without_sign text))

abbrev pub is_at_least : Option ℤ → ℤ → Bool
is_at_least None value = true
is_at_least (Some least) value = int_le least value

abbrev pub is_at_most : Option ℤ → ℤ → Bool
is_at_most None value = true
is_at_most (Some most) value = int_le value most

-- an integer from one bound to another
abbrev pub is_between : Option ℤ → Option ℤ → List ℕ → Bool
is_between least most text = is_integer text && is_at_least least (value_of text) && is_at_most most (value_of text)

-- a bound, if there is one, has a size below 2^64
abbrev pub is_small : Option ℤ → Bool
is_small None = true
is_small (Some bound) = nat_lt (unsigned_abs bound) (2 ^ 64)
