-- Numbers from digits with a cap, and digits from numbers.
use Rattle.std.proofs.Common.{◌≡◌, ℕ, zero, suc, ◌+◌, ◌-◌, ◌*◌, ◌/◌, ◌%◌, ◌<◌, ◌≤◌, min, Bool, true, false, ◌&&◌, ◌||◌, not, ◌==◌, List, [], ◌∷◌, ◌++◌, length, take, drop, length-drop, refl, sym, ◌∙◌, ap, if◌then◌else◌, arith, append_assoc, inl, inr, pos, None}
use Rattle.std.proofs.Math.Nat.{pow-suc, div-lt_iff_lt-mul, mul-le-mul_left}
use Rattle.std.proofs.lemmas.Bool.{cases_lt}
use Rattle.std.proofs.lemmas.Bool.Decides.{nat_tests}
use Rattle.std.specs.Char.{digit_value}
use Rattle.std.specs.Str.Parse.{digits_value, digits_value_after}
use Rattle.xf_num.specs.Number.{scale, in_range, size_limit}
use Rattle.xf_num.specs.Written.{is_digit, decimals_of, after_point, units_of, from_parts, without_sign_at, is_empty, after_digits, leading_digits}
use Rattle.std.proofs.lemmas.List.{take_all}
use Rattle.xf_num.proofs.TextLemmas.{leading_digits-all, after_digits-take, after_digits-drop, is_empty-length}

capped_digit : (most n v : ℕ) → min (min n most * 10 + v) most ≡ min (n * 10 + v) most
capped_digit most n v = omega arith

-- a cap that was put on the number before the digits does not show below the cap
pub cap_after : (most n : ℕ) (digits : List ℕ) → min (digits_value_after 10 (min n most) digits) most ≡ min (digits_value_after 10 n digits) most
cap_after most n [] = omega arith
cap_after most n (c ∷ digits) =
    sym (cap_after most (min n most * 10 + digit_value c) digits)
    ∙ ap (λ m. min (digits_value_after 10 m digits) most) (capped_digit most n (digit_value c))
    ∙ cap_after most (n * 10 + digit_value c) digits

pub digit_value-is_digit : (c : ℕ) → is_digit c ≡ true → digit_value c ≡ c - 48
digit_value-is_digit c h = grind (arith, nat_tests)

pub scale_suc : (d : ℕ) → scale (suc d) ≡ scale d * 10
unfolding scale
scale_suc d = pow-suc 10 d

pub scale_zero : scale 0 ≡ 1
unfolding scale
scale_zero = refl

pub scale_positive : (d : ℕ) → 1 ≤ scale d
scale_positive zero = omega (arith, scale_zero)
scale_positive (suc d) = omega (arith, scale_suc d, scale_positive d)

out_of_range : (n : ℕ) → size_limit ≤ n → in_range (pos n) ≡ None
out_of_range n h = grind (arith, nat_tests)

grown : (v s : ℕ) → 1 ≤ s → v ≤ v * s
grown v zero h = absurd (omega arith)
grown v (suc s) h = omega (arith, mul-le-mul_left v h)

-- a size that stands for all that are out of range
pub capped_range : (v s : ℕ) → 1 ≤ s → in_range (pos (min v size_limit * s)) ≡ in_range (pos (v * s))
capped_range v s h = elim (cases_lt v size_limit) as (λ _. in_range (pos (min v size_limit * s)) ≡ in_range (pos (v * s))) [
  | inr a ↦ out_of_range (min v size_limit * s) (omega (arith, grown (min v size_limit) s h))
      ∙ sym (out_of_range (v * s) (omega (arith, grown v s h)))
  | inl b ↦ ap (λ m. in_range (pos (m * s))) (let e : min v size_limit ≡ v = omega arith in e)
]

pub capped_units : (d v : ℕ) (digits : List ℕ) → in_range (pos (units_of d (min v size_limit) digits)) ≡ in_range (pos (units_of d v digits))
capped_units d v digits =
    let s = scale (d - length digits) in
    let xs = take d digits in
    let h = scale_positive (d - length digits) in
    sym (capped_range (digits_value_after 10 (min v size_limit) xs) s h)
    ∙ ap (λ m. in_range (pos (m * s))) (cap_after size_limit v xs)
    ∙ capped_range (digits_value_after 10 v xs) s h

pub capped_parts : (d v : ℕ) (has_whole : Bool) (rest : List ℕ) → from_parts d (min v size_limit) has_whole rest ≡ from_parts d v has_whole rest
capped_parts d v has_whole [] = ap (λ r. if has_whole then r else None) (capped_units d v [])
capped_parts d v has_whole (c ∷ rest) =
    ap (λ r. if (c == 46) && is_empty (after_digits rest) && (has_whole || not (is_empty rest)) then r else None) (capped_units d v rest)

-- one digit more, under the cap
pub step_after : (size c digit next : ℕ) (digits : List ℕ) → is_digit c ≡ true → next ≡ min (size * 10 + digit) size_limit → digit ≡ c - 48 → min (digits_value_after 10 next digits) size_limit ≡ min (digits_value_after 10 size (c ∷ digits)) size_limit
step_after size c digit next digits h n e =
    ap (λ m. min (digits_value_after 10 m digits) size_limit) (n ∙ ap (λ v. min (size * 10 + v) size_limit) (e ∙ sym (digit_value-is_digit c h)))
    ∙ cap_after size_limit (size * 10 + digit_value c) digits

-- the digits after the point, fewer than the decimals or as many and more
pub few_decimals : (d whole size : ℕ) (digits : List ℕ) → length digits < d → is_empty (after_digits digits) ≡ true → size ≡ min (digits_value_after 10 whole (leading_digits digits)) size_limit → in_range (pos (size * scale (d - length digits))) ≡ in_range (pos (units_of d whole digits))
few_decimals d whole size digits h all e =
    let s = scale (d - length digits) in
    ap (λ m. in_range (pos (m * s))) (e ∙ ap (λ xs. min (digits_value_after 10 whole xs) size_limit) (leading_digits-all digits all ∙ sym (take_all d digits (omega arith))))
    ∙ capped_range (digits_value_after 10 whole (take d digits)) s (scale_positive (d - length digits))

pub many_decimals : (d whole size : ℕ) (digits : List ℕ) → d ≤ length digits → is_empty (after_digits digits) ≡ true → size ≡ min (digits_value_after 10 whole (leading_digits (take d digits))) size_limit → in_range (pos (size * scale 0)) ≡ in_range (pos (units_of d whole digits))
many_decimals d whole size digits h all e =
    let none : 0 ≡ d - length digits = omega arith in
    ap (λ m. in_range (pos (size * scale m))) none
    ∙ ap (λ m. in_range (pos (m * scale (d - length digits)))) (e ∙ ap (λ xs. min (digits_value_after 10 whole xs) size_limit) (leading_digits-all (take d digits) (after_digits-take digits d all)))
    ∙ capped_range (digits_value_after 10 whole (take d digits)) (scale (d - length digits)) (scale_positive (d - length digits))

-- the digits before the point, with what follows them
pub whole_and_rest : (d size count : ℕ) (text : List ℕ) → size ≡ min (digits_value 10 (leading_digits text)) size_limit → count ≡ length (leading_digits text) → from_parts d size (not (count == 0)) (take (length text - count) (drop count text)) ≡ without_sign_at d text
whole_and_rest d size count text e n =
    let whole = leading_digits text in
    let has : not (count == 0) ≡ not (is_empty whole) = ap (λ m. not (m == 0)) n ∙ sym (ap not (is_empty-length whole)) in
    let rest : take (length text - count) (drop count text) ≡ after_digits text =
    take_all (length text - count) (drop count text) (omega (arith, length-drop count text))
    ∙ ap (λ m. drop m text) n ∙ sym (after_digits-drop text) in
    ap (λ m. from_parts d m (not (count == 0)) (take (length text - count) (drop count text))) e
    ∙ ap (λ b. from_parts d (min (digits_value 10 whole) size_limit) b (take (length text - count) (drop count text))) has
    ∙ ap (λ xs. from_parts d (min (digits_value 10 whole) size_limit) (not (is_empty whole)) xs) rest
    ∙ capped_parts d (digits_value 10 whole) (not (is_empty whole)) (after_digits text)

not_zero : (n : ℕ) → 0 < n → (n == 0) ≡ false
not_zero n h = grind (arith, nat_tests)

div_below : (n s k : ℕ) → n < s * k → n / s < k
div_below n zero k h = absurd (omega (arith, h))
div_below n (suc s) k h = (div-lt_iff_lt-mul {k = suc s} (omega arith)).1 (omega (arith, h))

mod_below : (n s : ℕ) → 1 ≤ s → n % s < s
mod_below n s h = omega arith

-- the decimals of a fraction that is not zero: a point before them, and one at a time
pub point_before : (d units : ℕ) → 0 < units → units < scale d → after_point (decimals_of d units) ≡ 46 ∷ decimals_of d units
point_before zero units h below = absurd (omega (arith, scale_zero))
point_before (suc d) units h below =
    let some : (units == 0) ≡ false = not_zero units h in
    ap (λ b. after_point (if b then [] else (48 + units / scale d) ∷ decimals_of d (units % scale d))) some
    ∙ sym (ap (λ b. 46 ∷ (if b then [] else (48 + units / scale d) ∷ decimals_of d (units % scale d))) some)

pub record Decimal (left units : ℕ) : Type 0 where
  pub some : 1 ≤ left
  pub digit : units / scale (left - 1) < 10
  pub below : units % scale (left - 1) < scale (left - 1)
  pub first : decimals_of left units ≡ (48 + units / scale (left - 1)) ∷ decimals_of (left - 1) (units % scale (left - 1))

pub one_decimal : (left units : ℕ) → 0 < units → units < scale left → Decimal left units
one_decimal zero units h below = absurd (omega (arith, scale_zero))
one_decimal (suc d) units h below =
    let same : suc d - 1 ≡ d = omega arith in
    record {
      some = omega arith;
      digit = rw same (div_below units (scale d) 10 (omega (arith, scale_suc d)));
      below = rw same (mod_below units (scale d) (scale_positive d));
      first = rw (same, not_zero units h) refl;
    }

pub next_decimal : (left units unit c : ℕ) → 0 < units → units < scale left → unit ≡ scale (left - 1) → c ≡ 48 + units / unit → decimals_of left units ≡ c ∷ decimals_of (left - 1) (units % unit)
next_decimal left units unit c h below u e =
    (one_decimal left units h below).first
    ∙ ap (λ s. (48 + units / s) ∷ decimals_of (left - 1) (units % s)) (sym u)
    ∙ ap (λ d. d ∷ decimals_of (left - 1) (units % unit)) (sym e)

-- a byte more at the end of what is written is one less to be written
pub pushed : (old new char rest whole : List ℕ) (c : ℕ) → new ≡ old ++ char → char ≡ c ∷ [] → whole ≡ c ∷ rest → new ++ rest ≡ old ++ whole
pushed old new char rest whole c a b e =
    ap (λ t. t ++ rest) (a ∙ ap (λ t. old ++ t) b) ∙ append_assoc old (c ∷ []) rest ∙ ap (λ t. old ++ t) (sym e)
