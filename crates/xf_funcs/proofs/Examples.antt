-- Worked values of the definitions.
use Rattle.std.proofs.Common.{◌≡◌, true, false, [], ◌∷◌, Some, None, pos, negsuc, refl, codes, filter_map}
use Rattle.std.specs.Char.{encode_utf8}
use Rattle.std.specs.Str.{chars}
use Rattle.xf_num.specs.Number.{scale}
use Rattle.xf_table.specs.Contents.{function_entries}
use Rattle.xf_def_values.specs.declared.plain.Plain.TheVariants.{Text, Number, Truth}
use Rattle.xf_dates.specs.Days.{day_in}
use Rattle.xf_dates.specs.Durations.{months_units, duration_in}
use Rattle.xf_funcs.specs.Called.{called}
use Rattle.xf_funcs.specs.Served.{is_served}
use Rattle.xf_funcs.specs.Numbers.{power}
use Rattle.xf_funcs.specs.Searching.{around, is_true_text}
use Rattle.xf_types.specs.Spaces.{words, joined}
use Rattle.xf_funcs.specs.Substring.{substring_of, substring_from}
use Rattle.xf_funcs.specs.Translate.{image}

-- `translate("bar", "abc", "ABC")` is `BAr`, and `translate("--aaa--", "abc-", "ABC")` is `AAA`
letters_replaced : filter_map (image (codes "abc") (codes "ABC")) (codes "bar") ≡ codes "BAr"
letters_replaced = refl

letters_left_out : filter_map (image (codes "abc-") (codes "ABC")) (codes "--aaa--") ≡ codes "AAA"
letters_left_out = refl

first_place_counts : filter_map (image (codes "aa") (codes "xy")) (codes "aab") ≡ codes "xxb"
first_place_counts = refl

-- the second `a` of `aab` begins `ab`
second_place : around (codes "ab") (codes "aab") ≡ Some (codes "a", [])
second_place = refl

no_place : around (codes "d") (codes "abc") ≡ None
no_place = refl

empty_part : around [] (codes "abc") ≡ Some ([], codes "abc")
empty_part = refl

words_joined : joined (words (codes "  a  b ")) ≡ codes "a b"
words_joined = refl

no_words : joined (words (codes "   ")) ≡ []
no_words = refl

-- `substring("12345", 1.5, 2.6)` is `234`, and with an end that is NaN nothing
two_to_four : substring_of 6 (codes "12345") (Some (pos 1500000)) (Some (pos 2600000)) ≡ codes "234"
unfolding chars scale encode_utf8
two_to_four = refl

no_end : substring_of 6 (codes "12345") (Some (pos 1000000)) None ≡ []
unfolding chars scale encode_utf8
no_end = refl

from_before_the_first : substring_from 6 (codes "12345") (Some (negsuc 41999999)) ≡ codes "12345"
unfolding chars scale encode_utf8
from_before_the_first = refl

-- `power(2, 10)` is 1024, and -0.5 three times is -0.125
thousand : power 6 (Some (pos 2000000)) (Some (pos 10000000)) ≡ Some (pos 1024000000)
unfolding scale
thousand = refl

-- the same without decimals
whole_thousand : power 0 (Some (pos 2)) (Some (pos 10)) ≡ Some (pos 1024)
unfolding scale
whole_thousand = refl

eighth : power 6 (Some (negsuc 499999)) (Some (pos 3000000)) ≡ Some (negsuc 124999)
unfolding scale
eighth = refl

no_power : power 6 (Some (pos 2000000)) (Some (negsuc 999999)) ≡ None
unfolding scale
no_power = refl

truth_told : is_true_text (codes "TRUE") ≡ true
truth_told = refl

truth_with_a_space : is_true_text (codes " true") ≡ false
truth_with_a_space = refl

-- calls, by the functions' places in their table: `concat`, `string-length`, `starts-with`, `compare`
concat_called : called (Some 4194304) 6 6 (Text (codes "a") ∷ Truth true ∷ []) ≡ Some (Text (codes "atrue"))
unfolding function_entries
concat_called = refl

string_length_called : called (Some 4194304) 6 38 (Text (codes "abc") ∷ []) ≡ Some (Number (Some (pos 3000000)))
unfolding function_entries chars scale
string_length_called = refl

-- U+1F600 is one character of four bytes
one_character : called (Some 4194304) 6 38 (Text (240 ∷ 159 ∷ 152 ∷ 128 ∷ []) ∷ []) ≡ Some (Number (Some (pos 1000000)))
unfolding function_entries chars scale
one_character = refl

starts_with_called : called (Some 4194304) 6 36 (Text (codes "abc") ∷ Text (codes "b") ∷ []) ≡ Some (Truth false)
unfolding function_entries chars
starts_with_called = refl

compare_called : called (Some 4194304) 6 5 (Text (codes "a") ∷ Text (codes "b") ∷ []) ≡ Some (Number (Some (negsuc 999999)))
unfolding function_entries chars scale
compare_called = refl

-- -1 with nine decimals
compare_in_billionths : called None 9 5 (Text (codes "a") ∷ Text (codes "b") ∷ []) ≡ Some (Number (Some (negsuc 999999999)))
unfolding function_entries chars scale
compare_in_billionths = refl

-- a string of at most 3 bytes
string_too_long : called (Some 3) 6 6 (Text (codes "ab") ∷ Text (codes "cd") ∷ []) ≡ None
unfolding function_entries
string_too_long = refl

string_without_a_limit : called None 6 6 (Text (codes "ab") ∷ Text (codes "cd") ∷ []) ≡ Some (Text (codes "abcd"))
unfolding function_entries
string_without_a_limit = refl

-- `round` over numbers of two decimals
rounded_hundredths : called None 2 32 (Text (codes "1.5") ∷ []) ≡ Some (Number (Some (pos 200)))
unfolding function_entries scale
rounded_hundredths = refl

-- `days-from-date("2100-02-29")`, `months("P1Y2M")`, `seconds("x")`
no_day_called : called None 6 11 (Text (codes "2100-02-29") ∷ []) ≡ Some (Number None)
unfolding function_entries day_in
no_day_called = refl

months_called : called None 6 23 (Text (codes "P1Y2M") ∷ []) ≡ Some (Number (Some (pos 14000000)))
unfolding function_entries scale duration_in months_units
months_called = refl

no_duration_called : called None 6 33 (Text (codes "x") ∷ []) ≡ Some (Number None)
unfolding function_entries duration_in
no_duration_called = refl

-- `substring` takes two arguments or three, `string-length` is given the context node where none is written, `count` takes nodes
served : is_served 39 2 ∷ is_served 39 3 ∷ is_served 39 4 ∷ is_served 38 1 ∷ is_served 38 0 ∷ is_served 8 1 ∷ [] ≡ true ∷ true ∷ false ∷ true ∷ false ∷ false ∷ []
unfolding function_entries
served = refl
