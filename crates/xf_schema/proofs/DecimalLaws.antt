-- Digits without needless zeros, the order of digits, and small whole numbers.
use Rattle.std.proofs.Common.{◌≡◌, ℕ, zero, suc, ◌+◌, ◌-◌, ◌*◌, ◌^◌, ◌<◌, ◌≤◌, min, Bool, true, false, ◌&&◌, ◌==◌, List, [], ◌∷◌, ◌++◌, length, get_or, take, refl, sym, ◌∙◌, ap, subst, if◌then◌else◌, arith}
use Rattle.std.specs.Prelude.{not}
use Rattle.std.specs.Char.{digit_value}
use Rattle.std.specs.Str.Parse.{digits_value, digits_value_after}
use Rattle.std.proofs.Math.Nat.{pow-suc, mul-le-mul_left}
use Rattle.std.proofs.lemmas.Bool.Decides.{nat_tests}
use Rattle.xf_num.specs.Number.{size_limit}
use Rattle.xf_num.specs.Written.{is_digit, is_empty, after_digits, leading_digits}
use Rattle.xf_num.proofs.TextLemmas.{front_and_last, leading_digits-all}
use Rattle.xf_num.proofs.DigitLemmas.{digit_value-is_digit}
use Rattle.xf_schema.specs.Decimals.{is_before, without_last_zeros}

-- ---- zeros at the end

is_empty-push : (text : List ℕ) (c : ℕ) → is_empty (text ++ c ∷ []) ≡ false
is_empty-push [] c = refl
is_empty-push (x ∷ text) c = refl

and_false : (b : Bool) → (b && false) ≡ false
and_false true = refl
and_false false = refl

pushed-zero : (text : List ℕ) (c : ℕ) → (c == 48) ≡ true → without_last_zeros (text ++ c ∷ []) ≡ without_last_zeros text
pushed-zero [] c h = rw h refl
pushed-zero (x ∷ text) c h = ap (λ rest. if (x == 48) && is_empty rest then [] else x ∷ rest) (pushed-zero text c h)

pushed-other : (text : List ℕ) (c : ℕ) → (c == 48) ≡ false → without_last_zeros (text ++ c ∷ []) ≡ text ++ c ∷ []
pushed-other [] c h = rw h refl
pushed-other (x ∷ text) c h =
    ap (λ rest. if (x == 48) && is_empty rest then [] else x ∷ rest) (pushed-other text c h)
    ∙ rw (is_empty-push text c, and_false (x == 48)) refl

pub last-zero : (text : List ℕ) → 1 ≤ length text → (get_or text (length text - 1) 0 == 48) ≡ true → without_last_zeros (take (length text - 1) text) ≡ without_last_zeros text
last-zero text h d =
    sym (ap without_last_zeros (front_and_last text h) ∙ pushed-zero (take (length text - 1) text) (get_or text (length text - 1) 0) d)

pub last-other : (text : List ℕ) → 1 ≤ length text → (get_or text (length text - 1) 0 == 48) ≡ false → without_last_zeros text ≡ text
last-other text h d =
    ap without_last_zeros (front_and_last text h)
    ∙ pushed-other (take (length text - 1) text) (get_or text (length text - 1) 0) d
    ∙ sym (front_and_last text h)

-- ---- the digits that a text begins with

pub leading-taken : (text : List ℕ) → take (length (leading_digits text)) text ≡ leading_digits text
leading-taken [] = refl
leading-taken (c ∷ text) =
    let rest = leading-taken text in
    elim (is_digit c) as (λ b. take (length (if b then c ∷ leading_digits text else [])) (c ∷ text) ≡ (if b then c ∷ leading_digits text else []))
    [ true ↦ ap (λ l. c ∷ l) rest | false ↦ refl ]

-- ---- order

pub before-nothing : (first second : List ℕ) → length second ≡ 0 → is_before first second ≡ false
before-nothing [] [] h = refl
before-nothing (a ∷ first) [] h = refl
before-nothing first (b ∷ second) h = absurd (omega arith)

pub nothing-left : (first second : List ℕ) (b : Bool) → length first ≡ 0 → b ≡ (length second == 0) → not b ≡ is_before first second
nothing-left [] [] b h k = ap not k
nothing-left [] (c ∷ second) b h k = ap not k ∙ (let more : (length (c ∷ second) == 0) ≡ false = grind (arith, nat_tests) in ap not more)
nothing-left (a ∷ first) second b h k = absurd (omega arith)

-- ---- numbers of few digits

first-digit : (c : ℕ) (text : List ℕ) → is_empty (after_digits (c ∷ text)) ≡ true → is_digit c ≡ true
first-digit c text = elim (is_digit c) as (λ b. is_empty (if b then after_digits text else c ∷ text) ≡ true → b ≡ true)
    [ true ↦ (λ h. refl) | false ↦ (λ h. h) ]

after-first : (c : ℕ) (text : List ℕ) → is_empty (after_digits (c ∷ text)) ≡ true → is_empty (after_digits text) ≡ true
after-first c text = elim (is_digit c) as (λ b. is_empty (if b then after_digits text else c ∷ text) ≡ true → is_empty (after_digits text) ≡ true)
    [ true ↦ (λ h. h) | false ↦ (λ h. absurd (cc)) ]

digit-small : (c : ℕ) → is_digit c ≡ true → digit_value c ≤ 9
digit-small c h =
    let value = digit_value-is_digit c h in
    let most : c - 48 ≤ 9 = grind (arith, nat_tests) in
    omega arith

step-small : (v p n d : ℕ) → d ≤ 9 → v < (n * 10 + d + 1) * p → v < (n + 1) * (p * 10)
step-small v p n d h k =
    let step : n * 10 + d + 1 ≤ (n + 1) * 10 = omega arith in
    omega (arith, k, mul-le-mul_left p step)

value-small : (n : ℕ) (digits : List ℕ) → is_empty (after_digits digits) ≡ true → digits_value_after 10 n digits < (n + 1) * 10 ^ length digits
value-small n [] h = let one : 10 ^ 0 ≡ 1 = refl in omega arith
value-small n (c ∷ digits) h =
    subst (λ q. digits_value_after 10 (n * 10 + digit_value c) digits < (n + 1) * q) (sym (pow-suc 10 (length digits)))
    (step-small (digits_value_after 10 (n * 10 + digit_value c) digits) (10 ^ length digits) n (digit_value c) (digit-small c (first-digit c digits h))
    (value-small (n * 10 + digit_value c) digits (after-first c digits h)))

power-small : (n : ℕ) → n ≤ 5 → 10 ^ n ≤ 100000
power-small zero h = omega arith
power-small (suc zero) h = omega arith
power-small (suc (suc zero)) h = omega arith
power-small (suc (suc (suc zero))) h = omega arith
power-small (suc (suc (suc (suc zero)))) h = omega arith
power-small (suc (suc (suc (suc (suc zero))))) h = omega arith
power-small (suc (suc (suc (suc (suc (suc n)))))) h = absurd (omega arith)

pub few-digits : (digits : List ℕ) → is_empty (after_digits digits) ≡ true → length digits ≤ 5 → min (digits_value_after 10 0 (leading_digits digits)) size_limit ≡ digits_value 10 digits
few-digits digits h k =
    let small = value-small 0 digits h in
    let power = power-small (length digits) k in
    ap (λ ds. min (digits_value_after 10 0 ds) size_limit) (leading_digits-all digits h) ∙ (omega arith)
