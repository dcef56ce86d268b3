-- The shapes of texts whose places are fixed, and the numbers in them.
use Rattle.std.specs.Prelude.{ℕ, ◌+◌, ◌-◌, ◌*◌, Bool, true, false, ◌&&◌, ◌||◌, ◌==◌, nat_le, if◌then◌else◌, List, [], ◌∷◌, slice_index}
use Rattle.xf_num.specs.Written.{is_digit, is_space}

-- a place of a shape: a digit where the shape has 0, and elsewhere the byte itself
abbrev pub fits_place : ℕ → ℕ → Bool
fits_place place c = if place == 48 then is_digit c else (c == place)

-- a text has a shape, place by place
abbrev pub fits : List ℕ → List ℕ → Bool
fits [] [] = true
fits [] (c ∷ text) = false
fits (place ∷ shape) [] = false
fits (place ∷ shape) (c ∷ text) = fits_place place c && fits shape text

-- the number that the two digits at a place write
abbrev pub two_digits : List ℕ → ℕ → ℕ
two_digits text at = 10 * (slice_index text at - 48) + (slice_index text (at + 1) - 48)

abbrev pub starts_with_digit : List ℕ → Bool
starts_with_digit [] = false
starts_with_digit (c ∷ text) = is_digit c

-- hexadecimal digits, two for each octet (XML Schema part 2, section 3.2.15)
abbrev pub is_hex_digit : ℕ → Bool
is_hex_digit c = is_digit c || (nat_le 65 c && nat_le c 70) || (nat_le 97 c && nat_le c 102)

abbrev pub is_hex : List ℕ → Bool
is_hex [] = true
is_hex (a ∷ []) = false
is_hex (a ∷ b ∷ text) = is_hex_digit a && is_hex_digit b && is_hex text

abbrev pub has_space : List ℕ → Bool
has_space [] = false
has_space (c ∷ text) = is_space c || has_space text
