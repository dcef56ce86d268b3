-- `substring` (XPath 1.0, section 4.2): the characters at some places, which are counted from 1.
use Rattle.std.specs.Prelude.{ℕ, suc, ◌+◌, ◌-◌, ◌*◌, ◌/◌, Bool, false, ◌&&◌, not, List, [], ◌∷◌, ℤ, pos, negsuc, Option, Some, None, option_map, if◌then◌else◌, chars, encode_utf8_all}
use Rattle.std.specs.Ordering.{is_lt}
use Rattle.std.specs.declared.cmp.Ordering.{Ordering}
use Rattle.xf_num.specs.Number.{scale, sum, rounded, order_of}

-- whether an order was found, and is that of a number below another
abbrev pub is_below : Option Ordering → Bool
is_below None = false
is_below (Some order) = is_lt order

abbrev pub is_not_below : Option Ordering → Bool
is_not_below None = false
is_not_below (Some order) = not (is_lt order)

-- the place as a number
abbrev pub place : ℕ → ℕ → Option ℤ
place d n = Some (pos (n * scale d))

-- a place is not below a number; it is below a number; NaN compares with nothing
abbrev pub is_from : ℕ → Option ℤ → ℕ → Bool
is_from d start n = is_not_below (order_of (place d n) start)

abbrev pub is_before : ℕ → Option ℤ → ℕ → Bool
is_before d end n = is_below (order_of (place d n) end)

-- of the characters from a place on, those at the places that pass a test
abbrev pub at_places : (ℕ → Bool) → ℕ → List ℕ → List ℕ
at_places passes n [] = []
at_places passes n (c ∷ text) = if passes n then c ∷ at_places passes (suc n) text else at_places passes (suc n) text

-- the least place that is not below so many units
abbrev pub place_of : ℕ → ℤ → ℕ
place_of d (negsuc k) = 0
place_of d (pos k) = (k + (scale d - 1)) / scale d

-- the least place that is not below a number
abbrev pub least_place : ℕ → Option ℤ → Option ℕ
least_place d = option_map (place_of d)

-- `substring` with two arguments
abbrev pub substring_from : ℕ → List ℕ → Option ℤ → List ℕ
substring_from d text start = encode_utf8_all (at_places (is_from d (rounded d start)) 1 (chars text))

-- `substring` with three arguments: the places below the rounded start and the rounded length together
abbrev pub substring_of : ℕ → List ℕ → Option ℤ → Option ℤ → List ℕ
substring_of d text start count =
    let first = rounded d start in
    let end = sum first (rounded d count) in
    encode_utf8_all (at_places (λ n. is_from d first n && is_before d end n) 1 (chars text))
