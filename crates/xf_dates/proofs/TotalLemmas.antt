-- Totals of capped parts: a part that is capped is out of range by itself.
use Rattle.std.proofs.Common.{◌≡◌, ℕ, zero, suc, ◌+◌, ◌*◌, ◌≤◌, ◌⊎◌, inl, inr, min, Bool, true, false, refl, sym, ◌∙◌, ap, arith, ℤ, Option, Some, None, List, add-zero, codes, if◌then◌else◌}
use Rattle.std.proofs.Math.Nat.{mul-le-mul_left}
use Rattle.std.proofs.lemmas.Bool.{cases_lt}
use Rattle.std.proofs.lemmas.Bool.Decides.{nat_tests}
use Rattle.xf_num.specs.Number.{scale, in_range, size_limit}
use Rattle.xf_num.specs.Written.{leading_digits, units_of}
use Rattle.xf_num.proofs.DigitLemmas.{scale_positive}
use Rattle.std.specs.Str.Parse.{digits_value}
use Rattle.xf_types.specs.Numerals.{signed_size}
use Rattle.xf_types.specs.Behind.{begins_with, past_first, past_minus, past_part, past_parts}
use Rattle.xf_types.specs.Durations.{is_duration}
use Rattle.xf_dates.specs.Durations.{part_value, months_at, time_of, decimals_of_time, months_units, seconds_units, both, duration_in}

abbrev pub capped : ℕ → ℕ
capped n = min n size_limit

out_of_range : (minus : Bool) (n : ℕ) → size_limit ≤ n → in_range (signed_size minus n) ≡ None
out_of_range minus zero h = absurd (omega arith)
out_of_range true (suc n) h = grind (arith, nat_tests)
out_of_range false (suc n) h = grind (arith, nat_tests)

grown : (n s : ℕ) → 1 ≤ s → n ≤ n * s
grown n s h = omega (arith, mul-le-mul_left n h)

-- both are the same, or out of range
abbrev Alike : ℕ → ℕ → Type 0
Alike m n = (m ≡ n) ⊎ ((size_limit ≤ m) × (size_limit ≤ n))

pub alike_in_range : (minus : Bool) (m n s decimals : ℕ) → 1 ≤ s → Alike m n → in_range (signed_size minus (m * s + decimals)) ≡ in_range (signed_size minus (n * s + decimals))
alike_in_range minus m n s decimals h alike = elim alike as (λ _. in_range (signed_size minus (m * s + decimals)) ≡ in_range (signed_size minus (n * s + decimals))) [
  | inl e ↦ ap (λ k. in_range (signed_size minus (k * s + decimals))) e
  | inr large ↦ out_of_range minus (m * s + decimals) (omega (arith, grown m s h, large.0))
      ∙ sym (out_of_range minus (n * s + decimals) (omega (arith, grown n s h, large.1)))
]

pub two_parts : (a b : ℕ) → Alike (12 * min a size_limit + min b size_limit) (12 * a + b)
two_parts a b = elim (cases_lt (12 * min a size_limit + min b size_limit) size_limit) as (λ _. Alike (12 * min a size_limit + min b size_limit) (12 * a + b)) [
  | inl small ↦ inl (omega arith)
  | inr large ↦ inr (large, omega arith)
]

abbrev four : ℕ → ℕ → ℕ → ℕ → ℕ
four a b c e = 86400 * a + 3600 * b + 60 * c + e

pub four_parts : (a b c e : ℕ) → Alike (four (min a size_limit) (min b size_limit) (min c size_limit) (min e size_limit)) (four a b c e)
four_parts a b c e = elim (cases_lt (four (min a size_limit) (min b size_limit) (min c size_limit) (min e size_limit)) size_limit) as (λ _. Alike (four (min a size_limit) (min b size_limit) (min c size_limit) (min e size_limit)) (four a b c e)) [
  | inl small ↦ inl (omega arith)
  | inr large ↦ inr (large, omega arith)
]

-- what the code adds up is what the definitions say
pub months_are : (d : ℕ) (minus : Bool) (parts : List ℕ) (years months whole : ℕ) → years ≡ min (part_value 89 parts) size_limit → months ≡ min (part_value 77 (past_part 89 parts)) size_limit → whole ≡ 12 * years + months → in_range (signed_size minus (whole * scale d + 0)) ≡ in_range (signed_size minus (months_units d parts))
unfolding months_units
months_are d minus parts years months whole y m e =
    ap (λ k. in_range (signed_size minus (k * scale d + 0))) (e ∙ ap (λ k. 12 * k + months) y ∙ ap (λ k. 12 * min (part_value 89 parts) size_limit + k) m)
    ∙ alike_in_range minus _ _ (scale d) 0 (scale_positive d) (two_parts (part_value 89 parts) (part_value 77 (past_part 89 parts)))
    ∙ ap (λ k. in_range (signed_size minus k)) (add-zero (months_at parts * scale d))

pub seconds_are : (d : ℕ) (minus : Bool) (parts : List ℕ) (days hours minutes seconds whole decimals : ℕ)
    → days ≡ min (part_value 68 (past_parts (codes "YM") parts)) size_limit
    → hours ≡ min (part_value 72 (time_of parts)) size_limit
    → minutes ≡ min (part_value 77 (past_part 72 (time_of parts))) size_limit
    → seconds ≡ min (digits_value 10 (leading_digits (past_parts (codes "HM") (time_of parts)))) size_limit
    → whole ≡ 86400 * days + 3600 * hours + 60 * minutes + seconds
    → decimals ≡ units_of d 0 (decimals_of_time (time_of parts))
    → in_range (signed_size minus (whole * scale d + decimals)) ≡ in_range (signed_size minus (seconds_units d parts))
unfolding seconds_units
seconds_are d minus parts days hours minutes seconds whole decimals a b c e w f =
    let day = part_value 68 (past_parts (codes "YM") parts) in
    let hour = part_value 72 (time_of parts) in
    let minute = part_value 77 (past_part 72 (time_of parts)) in
    let second = digits_value 10 (leading_digits (past_parts (codes "HM") (time_of parts))) in
    let added : 86400 * day + 3600 * hour + 60 * minute + second ≡ 86400 * day + (3600 * hour + 60 * minute + second) = omega arith in
    ap (λ k. in_range (signed_size minus (k * scale d + decimals))) (w ∙ total days hours minutes seconds day hour minute second a b c e)
    ∙ ap (λ k. in_range (signed_size minus (four (min day size_limit) (min hour size_limit) (min minute size_limit) (min second size_limit) * scale d + k))) f
    ∙ alike_in_range minus _ _ (scale d) (units_of d 0 (decimals_of_time (time_of parts))) (scale_positive d) (four_parts day hour minute second)
    ∙ ap (λ k. in_range (signed_size minus (k * scale d + units_of d 0 (decimals_of_time (time_of parts))))) added
  where
    total : (days hours minutes seconds day hour minute second : ℕ) → days ≡ min day size_limit → hours ≡ min hour size_limit → minutes ≡ min minute size_limit → seconds ≡ min second size_limit → four days hours minutes seconds ≡ four (min day size_limit) (min hour size_limit) (min minute size_limit) (min second size_limit)
    total days hours minutes seconds day hour minute second a b c e = rw (a, b, c, e) refl

pub duration_is : (d : ℕ) (text parts : List ℕ) (minus : Bool) (months seconds : Option ℤ) → true ≡ is_duration text → minus ≡ begins_with 45 text → parts ≡ past_first (past_minus text) → months ≡ in_range (signed_size minus (months_units d parts)) → seconds ≡ in_range (signed_size minus (seconds_units d parts)) → Some (months, seconds) ≡ duration_in d text
unfolding duration_in
duration_is d text parts minus months seconds is m p a b =
    ap (λ x. Some (x, seconds)) a
    ∙ ap (λ x. Some (in_range (signed_size minus (months_units d parts)), x)) b
    ∙ ap (λ x. Some (both d x parts)) m
    ∙ ap (λ x. Some (both d (begins_with 45 text) x)) p
    ∙ ap (λ x. if x then Some (both d (begins_with 45 text) (past_first (past_minus text))) else None) is

pub no_duration : (d : ℕ) (text : List ℕ) → false ≡ is_duration text → None ≡ duration_in d text
unfolding duration_in
no_duration d text is_not = ap (λ x. if x then Some (both d (begins_with 45 text) (past_first (past_minus text))) else None) is_not
