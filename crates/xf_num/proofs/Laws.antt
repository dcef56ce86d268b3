-- Laws of the definitions, for every number of decimals: what is printed reads back as the number, results are cut toward
-- zero, and the order is total but for NaN.
use Rattle.std.proofs.Common.{◌≡◌, ℕ, zero, suc, ◌+◌, ◌-◌, ◌*◌, ◌/◌, ◌%◌, ◌^◌, ◌<◌, ◌≤◌, ◌<ℤ◌, ◌≤ℤ◌, ◌+ℤ◌, Bool, true, false, ◌&&◌, not, ◌==◌, List, [], ◌∷◌, ◌++◌, length, refl, sym, ◌∙◌, ap, if◌then◌else◌, arith, ℤ, pos, negsuc, neg_ℤ, unsigned_abs, int_div, Option, Some, None, decimal}
use Rattle.std.proofs.lemmas.Bool.Decides.{nat_tests}
use Rattle.std.proofs.lemmas.Fmt.{decimal_is_IsNumeral}
use Rattle.std.proofs.lemmas.List.{take_all}
use Rattle.std.specs.Char.{digit_value}
use Rattle.std.specs.Str.Parse.{digits_value, digits_value_after, AllDigits}
use Rattle.xf_num.specs.Number.{scale, in_range, size_limit, IsNumber, lower_whole, order_of}
use Rattle.std.specs.Ordering.{int_cmp, MatchOrdering}
use Rattle.std.proofs.lemmas.Int.{ints}
use Rattle.std.proofs.Math.Nat.{div-le_self, zero-div}
use Rattle.std.specs.Cmp.{int_ranks}
use Rattle.xf_num.specs.Written.{is_space, is_digit, is_empty, decimals_of, after_point, size_text, printed, read_at, with_sign_at, without_sign_at, from_parts, units_of, leading_digits, after_digits, without_leading, without_trailing, negated}
use Rattle.xf_num.proofs.DigitLemmas.{scale_suc, scale_zero, scale_positive, one_decimal}

-- ---- no white space is printed

abbrev has_no_space : List ℕ → Bool
has_no_space [] = true
has_no_space (c ∷ text) = not (is_space c) && has_no_space text

and_left : (a b : Bool) → (a && b) ≡ true → a ≡ true
and_left true b h = refl
and_left false b h = h

and_right : (a b : Bool) → (a && b) ≡ true → b ≡ true
and_right true b h = h
and_right false b h = absurd (cc)

not_true : (b : Bool) → not b ≡ true → b ≡ false
not_true true h = sym h
not_true false h = refl

without_leading-same : (text : List ℕ) → has_no_space text ≡ true → without_leading text ≡ text
without_leading-same [] h = refl
without_leading-same (c ∷ text) h = ap (λ b. if b then without_leading text else c ∷ text) (not_true (is_space c) (and_left _ _ h))

without_trailing-same : (text : List ℕ) → has_no_space text ≡ true → without_trailing text ≡ text
without_trailing-same [] h = refl
without_trailing-same (c ∷ text) h =
    ap (λ b. if b && is_empty (without_trailing text) then [] else c ∷ without_trailing text) (not_true (is_space c) (and_left _ _ h))
    ∙ ap (λ rest. c ∷ rest) (without_trailing-same text (and_right _ _ h))

has_no_space-append : (a b : List ℕ) → has_no_space a ≡ true → has_no_space b ≡ true → has_no_space (a ++ b) ≡ true
has_no_space-append [] b h k = k
has_no_space-append (c ∷ a) b h k =
    ap (λ x. x && has_no_space (a ++ b)) (and_left _ _ h) ∙ has_no_space-append a b (and_right _ _ h) k

-- ---- digits

abbrev all_digits : List ℕ → Bool
all_digits [] = true
all_digits (c ∷ text) = is_digit c && all_digits text

digit_no_space : (c : ℕ) → is_digit c ≡ true → not (is_space c) ≡ true
digit_no_space c h = grind (arith, nat_tests)

all_digits-has_no_space : (text : List ℕ) → all_digits text ≡ true → has_no_space text ≡ true
all_digits-has_no_space [] h = refl
all_digits-has_no_space (c ∷ text) h =
    ap (λ x. x && has_no_space text) (digit_no_space c (and_left _ _ h)) ∙ all_digits-has_no_space text (and_right _ _ h)

digit_from_value : (c : ℕ) → digit_value c < 10 → is_digit c ≡ true
digit_from_value c h = grind (arith, nat_tests)

all_digits-from : (text : List ℕ) → AllDigits 10 text → all_digits text ≡ true
all_digits-from [] h = refl
all_digits-from (c ∷ text) h = ap (λ x. x && all_digits text) (digit_from_value c h.0) ∙ all_digits-from text h.1

leading_digits-append : (digits rest : List ℕ) → all_digits digits ≡ true → leading_digits rest ≡ [] → leading_digits (digits ++ rest) ≡ digits
leading_digits-append [] rest h k = k
leading_digits-append (c ∷ digits) rest h k =
    ap (λ b. if b then c ∷ leading_digits (digits ++ rest) else []) (and_left _ _ h)
    ∙ ap (λ x. c ∷ x) (leading_digits-append digits rest (and_right _ _ h) k)

after_digits-append : (digits rest : List ℕ) → all_digits digits ≡ true → after_digits rest ≡ rest → after_digits (digits ++ rest) ≡ rest
after_digits-append [] rest h k = k
after_digits-append (c ∷ digits) rest h k =
    ap (λ b. if b then after_digits (digits ++ rest) else c ∷ (digits ++ rest)) (and_left _ _ h)
    ∙ after_digits-append digits rest (and_right _ _ h) k

after_digits-all : (digits : List ℕ) → all_digits digits ≡ true → is_empty (after_digits digits) ≡ true
after_digits-all [] h = refl
after_digits-all (c ∷ digits) h =
    ap (λ b. is_empty (if b then after_digits digits else c ∷ digits)) (and_left _ _ h) ∙ after_digits-all digits (and_right _ _ h)

-- ---- the decimals of a fraction

split : (n s : ℕ) → 1 ≤ s → n ≡ n / s * s + n % s
split n s h = omega arith

carried : (whole q r n s t : ℕ) → t ≡ s * 10 → n ≡ q * s + r → (whole * 10 + q) * s + r ≡ whole * t + n
carried whole q r n s t e h = rw (e, h) (omega arith)

digit_of : (n : ℕ) → n < 10 → is_digit (48 + n) ≡ true
digit_of n h = grind (arith, nat_tests)

value_of : (n : ℕ) → n < 10 → digit_value (48 + n) ≡ n
value_of n h = grind (arith, nat_tests)

all_digits-decimals_of : (d units : ℕ) → units < scale d → all_digits (decimals_of d units) ≡ true
all_digits-decimals_of zero units below = refl
all_digits-decimals_of (suc d) zero below = refl
all_digits-decimals_of (suc d) (suc n) below =
    let one = one_decimal (suc d) (suc n) (omega arith) below in
    let same : suc d - 1 ≡ d = omega arith in
    ap all_digits (one.first)
    ∙ ap (λ e. is_digit (48 + suc n / scale e) && all_digits (decimals_of e (suc n % scale e))) same
    ∙ ap (λ b. b && all_digits (decimals_of d (suc n % scale d))) (digit_of (suc n / scale d) (rw same at one.digit))
    ∙ all_digits-decimals_of d (suc n % scale d) (rw same at one.below)

length-decimals_of : (d units : ℕ) → units < scale d → length (decimals_of d units) ≤ d
length-decimals_of zero units below = omega arith
length-decimals_of (suc d) zero below = omega arith
length-decimals_of (suc d) (suc n) below =
    let one = one_decimal (suc d) (suc n) (omega arith) below in
    let same : suc d - 1 ≡ d = omega arith in
    let e : decimals_of (suc d) (suc n) ≡ (48 + suc n / scale d) ∷ decimals_of d (suc n % scale d) = rw same at one.first in
    let h = length-decimals_of d (suc n % scale d) (rw same at one.below) in
    rw e (omega (arith, h))

-- so many wholes and the decimals of the rest are the units
units-decimals_of : (d whole units : ℕ) → units < scale d → digits_value_after 10 whole (decimals_of d units) * scale (d - length (decimals_of d units)) ≡ whole * scale d + units
units-decimals_of zero whole units below = omega (arith, scale_zero)
units-decimals_of (suc d) whole zero below = let same : suc d - 0 ≡ suc d = omega arith in rw same (omega arith)
units-decimals_of (suc d) whole (suc n) below =
    let one = one_decimal (suc d) (suc n) (omega arith) below in
    let same : suc d - 1 ≡ d = omega arith in
    let e : decimals_of (suc d) (suc n) ≡ (48 + suc n / scale d) ∷ decimals_of d (suc n % scale d) = rw same at one.first in
    let q = suc n / scale d in
    let rest = decimals_of d (suc n % scale d) in
    let small : q < 10 = rw same at one.digit in
    let fewer : suc d - suc (length rest) ≡ d - length rest = omega arith in
    let h = units-decimals_of d (whole * 10 + q) (suc n % scale d) (rw same at one.below) in
    ap (λ ds. digits_value_after 10 whole ds * scale (suc d - length ds)) e
    ∙ ap (λ m. digits_value_after 10 (whole * 10 + digit_value (48 + q)) rest * scale m) fewer
    ∙ ap (λ v. digits_value_after 10 (whole * 10 + v) rest * scale (d - length rest)) (value_of q small)
    ∙ h
    ∙ carried whole q (suc n % scale d) (suc n) (scale d) (scale (suc d)) (scale_suc d) (split (suc n) (scale d) (scale_positive d))

-- ---- what is printed reads back

after_point-leading : (ds : List ℕ) → leading_digits (after_point ds) ≡ []
after_point-leading [] = refl
after_point-leading (c ∷ ds) = refl

after_point-after : (ds : List ℕ) → after_digits (after_point ds) ≡ after_point ds
after_point-after [] = refl
after_point-after (c ∷ ds) = refl

after_point-has_no_space : (ds : List ℕ) → has_no_space ds ≡ true → has_no_space (after_point ds) ≡ true
after_point-has_no_space [] h = refl
after_point-has_no_space (c ∷ ds) h = h

some_digit : (ds : List ℕ) → 0 < length ds → not (is_empty ds) ≡ true
some_digit [] h = absurd (omega arith)
some_digit (c ∷ ds) h = refl

-- the digits after the point are taken whole
from_parts-decimals : (d whole : ℕ) (ds : List ℕ) → all_digits ds ≡ true → length ds ≤ d → from_parts d whole true (after_point ds) ≡ in_range (pos (digits_value_after 10 whole ds * scale (d - length ds)))
from_parts-decimals zero whole [] h k = refl
from_parts-decimals (suc d) whole [] h k = refl
from_parts-decimals d whole (c ∷ ds) h k =
    ap (λ b. if b && true then in_range (pos (units_of d whole (c ∷ ds))) else None) (after_digits-all (c ∷ ds) h)
    ∙ ap (λ xs. in_range (pos (digits_value_after 10 whole xs * scale (d - length (c ∷ ds))))) (take_all d (c ∷ ds) k)

in_range-small : (n : ℕ) → n < size_limit → in_range (pos n) ≡ Some (pos n)
in_range-small n h = grind (arith, nat_tests)

grown_quotient : (n s : ℕ) → 1 ≤ s → n / s ≤ n
grown_quotient n zero h = absurd (omega arith)
grown_quotient n (suc s) h = div-le_self n (suc s)

mod_below : (n s : ℕ) → 1 ≤ s → n % s < s
mod_below n s h = omega arith

no_minus : (c : ℕ) → is_digit c ≡ true → (c == 45) ≡ false
no_minus c h = grind (arith, nat_tests)

divided_small : (n s : ℕ) → 1 ≤ s → n < size_limit → n / s < 2 ^ 64
divided_small n s h k = let m = grown_quotient n s h in omega arith

without_sign_at-size_text : (d units : ℕ) → units < size_limit → without_sign_at d (size_text d units) ≡ Some (pos units)
without_sign_at-size_text d units small =
    let s = scale d in
    let positive = scale_positive d in
    let whole = decimal (units / s) in
    let numeral = decimal_is_IsNumeral (units / s) (divided_small units s positive small) in
    let ds = decimals_of d (units % s) in
    let below : units % s < s = mod_below units s positive in
    let digits = all_digits-from whole numeral.0.1 in
    ap (λ w. from_parts d (digits_value 10 w) (not (is_empty w)) (after_digits (whole ++ after_point ds))) (leading_digits-append whole (after_point ds) digits (after_point-leading ds))
    ∙ ap (λ rest. from_parts d (digits_value 10 whole) (not (is_empty whole)) rest) (after_digits-append whole (after_point ds) digits (after_point-after ds))
    ∙ ap (λ v. from_parts d v (not (is_empty whole)) (after_point ds)) numeral.1
    ∙ ap (λ b. from_parts d (units / s) b (after_point ds)) (some_digit whole numeral.0.0)
    ∙ from_parts-decimals d (units / s) ds (all_digits-decimals_of d (units % s) below) (length-decimals_of d (units % s) below)
    ∙ ap (λ n. in_range (pos n)) (units-decimals_of d (units / s) (units % s) below ∙ sym (split units s positive))
    ∙ in_range-small units small

size_text-has_no_space : (d units : ℕ) → units < size_limit → has_no_space (size_text d units) ≡ true
size_text-has_no_space d units small =
    let s = scale d in
    let positive = scale_positive d in
    let numeral = decimal_is_IsNumeral (units / s) (divided_small units s positive small) in
    has_no_space-append (decimal (units / s)) (after_point (decimals_of d (units % s)))
    (all_digits-has_no_space (decimal (units / s)) (all_digits-from (decimal (units / s)) numeral.0.1))
    (after_point-has_no_space (decimals_of d (units % s))
    (all_digits-has_no_space (decimals_of d (units % s)) (all_digits-decimals_of d (units % s) (mod_below units s positive))))

-- a text that begins with a digit has no sign
with_sign_at-digits : (d : ℕ) (digits rest : List ℕ) → all_digits digits ≡ true → 0 < length digits → with_sign_at d (digits ++ rest) ≡ without_sign_at d (digits ++ rest)
with_sign_at-digits d [] rest h some = absurd (omega arith)
with_sign_at-digits d (c ∷ digits) rest h some =
    ap (λ b. if b then negated (without_sign_at d (digits ++ rest)) else without_sign_at d (c ∷ (digits ++ rest))) (no_minus c (and_left _ _ h))

trimmed_same : (text : List ℕ) → has_no_space text ≡ true → without_trailing (without_leading text) ≡ text
trimmed_same text h = ap without_trailing (without_leading-same text h) ∙ without_trailing-same text h

pub read_at-printed : (d : ℕ) (number : Option ℤ) → IsNumber number → read_at d (printed d number) ≡ number
read_at-printed d None h = refl
read_at-printed d (Some (pos units)) small =
    let s = scale d in
    let positive = scale_positive d in
    let numeral = decimal_is_IsNumeral (units / s) (divided_small units s positive small) in
    ap (with_sign_at d) (trimmed_same (size_text d units) (size_text-has_no_space d units small))
    ∙ with_sign_at-digits d (decimal (units / s)) (after_point (decimals_of d (units % s))) (all_digits-from (decimal (units / s)) numeral.0.1) numeral.0.0
    ∙ without_sign_at-size_text d units small
read_at-printed d (Some (negsuc n)) small =
    ap (with_sign_at d) (trimmed_same (45 ∷ size_text d (suc n)) (size_text-has_no_space d (suc n) small))
    ∙ ap negated (without_sign_at-size_text d (suc n) small)

-- ---- cut toward zero

abs_neg : (n : ℕ) → unsigned_abs (neg_ℤ (pos n)) ≡ n
abs_neg zero = refl
abs_neg (suc n) = refl

zero_divided : (s : ℕ) → pos (0 / s) ≡ neg_ℤ (pos (0 / s))
zero_divided s = rw zero-div refl

-- the size of a cut quotient is that of the sizes, cut, and it has no sign of its own
pub unsigned_abs-int_div : (j : ℤ) (s : ℕ) → unsigned_abs (int_div j (pos s)) ≡ unsigned_abs j / s
unsigned_abs-int_div (pos n) s = refl
unsigned_abs-int_div (negsuc n) s = abs_neg (suc n / s)

pub int_div-neg_ℤ : (n s : ℕ) → int_div (neg_ℤ (pos n)) (pos s) ≡ neg_ℤ (int_div (pos n) (pos s))
int_div-neg_ℤ zero s = zero_divided s
int_div-neg_ℤ (suc n) s = refl

-- ---- whole numbers

below_at : (n m r s : ℕ) → n ≡ m + r → r < s → (pos m ≤ℤ pos n) × (pos n <ℤ pos (m + s))
below_at n m r s e h = (omega (arith, ints), omega (arith, ints))

below_negative_at : (n m r s : ℕ) → n ≡ m + r → r < s → (neg_ℤ (pos (m + s)) ≤ℤ negsuc n) × (negsuc n <ℤ (neg_ℤ (pos (m + s)) +ℤ pos s))
below_negative_at n m r s e h = (omega (arith, ints), omega (arith, ints))

-- the whole number below is at most the number, which is less than one above it
pub lower_whole-bounds : (d : ℕ) (k : ℤ) → (lower_whole d k ≤ℤ k) × (k <ℤ (lower_whole d k +ℤ pos (scale d)))
lower_whole-bounds d (pos n) =
    let s = scale d in
    below_at n (n / s * s) (n % s) s (split n s (scale_positive d)) (mod_below n s (scale_positive d))
lower_whole-bounds d (negsuc n) =
    let s = scale d in
    let same : n / s * s + s ≡ suc (n / s) * s = omega arith in
    rw same at (below_negative_at n (n / s * s) (n % s) s (split n s (scale_positive d)) (mod_below n s (scale_positive d)))

-- ---- order

pub order_of-numbers : (j k : ℤ) → MatchOrdering (int_cmp j k) (j <ℤ k) (j ≡ k) (k <ℤ j)
order_of-numbers j k = int_ranks j k

pub order_of-NaN : (number : Option ℤ) → (order_of number None ≡ None) × (order_of None number ≡ None)
order_of-NaN (Some k) = (refl, refl)
order_of-NaN None = (refl, refl)
