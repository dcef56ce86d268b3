-- Digits at the beginning of a text, and how large decimals are.
use Rattle.std.proofs.Common.{◌≡◌, ℕ, zero, suc, ◌+◌, ◌-◌, ◌*◌, ◌<◌, ◌≤◌, Bool, true, false, List, [], ◌∷◌, length, take, refl, ◌∙◌, ap, if◌then◌else◌, arith, pos, Option, Some, ℤ, lit≤}
use Rattle.std.proofs.Math.Nat.{mul-le-mul_right}
use Rattle.std.proofs.lemmas.Bool.Decides.{nat_tests}
use Rattle.std.specs.Char.{digit_value}
use Rattle.xf_num.specs.Number.{scale, in_range, size_limit}
use Rattle.xf_num.specs.Written.{is_digit, is_empty, leading_digits, after_digits, units_of}
use Rattle.xf_num.proofs.DigitLemmas.{scale_suc, scale_zero, scale_positive, digit_value-is_digit}

pub take-leading_digits : (text : List ℕ) → take (length (leading_digits text)) text ≡ leading_digits text
take-leading_digits [] = refl
take-leading_digits (c ∷ text) =
    elim (is_digit c) as (λ b. take (length (if b then c ∷ leading_digits text else [])) (c ∷ text) ≡ (if b then c ∷ leading_digits text else []))
    [ true ↦ ap (λ rest. c ∷ rest) (take-leading_digits text) | false ↦ refl ]

after_leading : (c : ℕ) (text : List ℕ) (b : Bool) → is_digit c ≡ b → is_empty (after_digits (leading_digits text)) ≡ true → is_empty (after_digits (if b then c ∷ leading_digits text else [])) ≡ true
after_leading c text true e h = ap (λ b. is_empty (if b then after_digits (leading_digits text) else c ∷ leading_digits text)) e ∙ h
after_leading c text false e h = refl

pub after_digits-leading_digits : (text : List ℕ) → is_empty (after_digits (leading_digits text)) ≡ true
after_digits-leading_digits [] = refl
after_digits-leading_digits (c ∷ text) = after_leading c text (is_digit c) refl (after_digits-leading_digits text)

-- ---- the size of decimals

first_digit : (c : ℕ) (text : List ℕ) → is_empty (after_digits (c ∷ text)) ≡ true → is_digit c ≡ true
first_digit c text = elim (is_digit c) as (λ b. is_empty (if b then after_digits text else c ∷ text) ≡ true → b ≡ true)
    [ true ↦ (λ h. refl) | false ↦ (λ h. h) ]

after_first : (c : ℕ) (text : List ℕ) → is_empty (after_digits (c ∷ text)) ≡ true → is_empty (after_digits text) ≡ true
after_first c text = elim (is_digit c) as (λ b. is_empty (if b then after_digits text else c ∷ text) ≡ true → is_empty (after_digits text) ≡ true)
    [ true ↦ (λ h. h) | false ↦ (λ h. absurd (cc)) ]

small_digit : (c : ℕ) → is_digit c ≡ true → digit_value c ≤ 9
small_digit c h = let e = digit_value-is_digit c h in grind (arith, nat_tests, e)

below_next : (x m n s t : ℕ) → x < suc m * s → m + 1 ≤ suc n * 10 → t ≡ s * 10 → x < suc n * t
below_next x m n s t h k e = rw e (omega (arith, h, mul-le-mul_right s k))

-- decimals after a whole number are less than one
pub units_of-below : (d n : ℕ) (digits : List ℕ) → is_empty (after_digits digits) ≡ true → units_of d n digits < suc n * scale d
units_of-below zero n digits h = let one : 0 - length digits ≡ 0 = omega arith in rw one (omega (arith, scale_zero))
units_of-below (suc d) n [] h = let same : suc d - 0 ≡ suc d = omega arith in rw same (omega (arith, scale_positive (suc d)))
units_of-below (suc d) n (c ∷ digits) h =
    let v = digit_value c in
    let small : v ≤ 9 = small_digit c (first_digit c digits h) in
    let rest = units_of-below d (n * 10 + v) digits (after_first c digits h) in
    let same : suc d - suc (length digits) ≡ d - length digits = omega arith in
    rw same (below_next (units_of d (n * 10 + v) digits) (n * 10 + v) n (scale d) (scale (suc d)) rest (omega (arith, small)) (scale_suc d))

pub scale_most : (d : ℕ) → d ≤ 9 → scale d ≤ 1000000000
unfolding scale
scale_most zero h = lit≤ tt
scale_most (suc zero) h = lit≤ tt
scale_most (suc (suc zero)) h = lit≤ tt
scale_most (suc (suc (suc zero))) h = lit≤ tt
scale_most (suc (suc (suc (suc zero)))) h = lit≤ tt
scale_most (suc (suc (suc (suc (suc zero))))) h = lit≤ tt
scale_most (suc (suc (suc (suc (suc (suc zero)))))) h = lit≤ tt
scale_most (suc (suc (suc (suc (suc (suc (suc zero))))))) h = lit≤ tt
scale_most (suc (suc (suc (suc (suc (suc (suc (suc zero)))))))) h = lit≤ tt
scale_most (suc (suc (suc (suc (suc (suc (suc (suc (suc zero))))))))) h = lit≤ tt
scale_most (suc (suc (suc (suc (suc (suc (suc (suc (suc (suc d)))))))))) h = absurd (omega arith)

-- few decimals are small
pub units_of-small : (d : ℕ) (digits : List ℕ) → d ≤ 9 → is_empty (after_digits digits) ≡ true → units_of d 0 digits < size_limit
units_of-small d digits h all = omega (arith, units_of-below d 0 digits all, scale_most d h)

in_range-small : (n : ℕ) → n < size_limit → in_range (pos n) ≡ Some (pos n)
in_range-small n h = grind (arith, nat_tests)

pub decimals_are_some : (d : ℕ) (digits : List ℕ) (number : Option ℤ) → d ≤ 9 → is_empty (after_digits digits) ≡ true → number ≡ in_range (pos (units_of d 0 digits)) → number ≡ Some (pos (units_of d 0 digits))
decimals_are_some d digits number h all e = e ∙ in_range-small (units_of d 0 digits) (units_of-small d digits h all)
