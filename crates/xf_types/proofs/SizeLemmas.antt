-- A size that is cut at 2^64 stands to the bounds of a type as the size itself.
use Rattle.std.proofs.Common.{◌≡◌, ℕ, zero, suc, ◌+◌, ◌-◌, ◌*◌, ◌^◌, ◌<◌, ◌≤◌, min, Bool, true, false, ◌&&◌, if◌then◌else◌, nat_le, List, ◌∷◌, length, get_or, drop, refl, sym, ◌∙◌, ap, arith, add-one, inl, inr, ℤ, pos, negsuc, neg_ℤ, int_le, unsigned_abs, Option, Some, None}
use Rattle.std.proofs.lemmas.Bool.{cases_lt}
use Rattle.std.proofs.lemmas.Bool.Decides.{nat_tests}
use Rattle.std.proofs.Math.Seq.{drop-cons}
use Rattle.std.specs.Char.{digit_value}
use Rattle.std.specs.Str.Parse.{digits_value, digits_value_after}
use Rattle.xf_num.specs.Written.{is_empty, is_digit, after_digits}
use Rattle.xf_num.proofs.DigitLemmas.{cap_after, digit_value-is_digit}
use Rattle.xf_types.specs.Numerals.{signed_size, is_at_least, is_at_most, is_small, is_integer, is_between, has_minus, without_sign, value_of}

abbrev cap : ℕ
cap = 2 ^ 64

-- one digit more
pub record Step (digits : List ℕ) (i size next : ℕ) : Type 0 where
  pub rest : is_empty (after_digits (drop (i + 1) digits)) ≡ true
  pub value : min (digits_value_after 10 next (drop (i + 1) digits)) cap ≡ min (digits_value_after 10 size (drop i digits)) cap

first_digit : (c : ℕ) (text : List ℕ) → is_empty (after_digits (c ∷ text)) ≡ true → is_digit c ≡ true
first_digit c text = elim (is_digit c) as (λ b. is_empty (if b then after_digits text else c ∷ text) ≡ true → b ≡ true)
    [ true ↦ (λ h. refl) | false ↦ (λ h. h) ]

after_first : (c : ℕ) (text : List ℕ) → is_empty (after_digits (c ∷ text)) ≡ true → is_empty (after_digits text) ≡ true
after_first c text = elim (is_digit c) as (λ b. is_empty (if b then after_digits text else c ∷ text) ≡ true → is_empty (after_digits text) ≡ true)
    [ true ↦ (λ h. h) | false ↦ (λ h. absurd (cc)) ]

pub one_digit : (digits : List ℕ) (i size next digit : ℕ) → i < length digits → is_empty (after_digits (drop i digits)) ≡ true → digit ≡ get_or digits i 0 - 48 → next ≡ min (size * 10 + digit) cap → Step digits i size next
one_digit digits i size next digit l h d n =
    let c = get_or digits i 0 in
    let split : drop i digits ≡ c ∷ drop (i + 1) digits = rw (add-one) (drop-cons digits i 0 l) in
    let all : is_empty (after_digits (c ∷ drop (i + 1) digits)) ≡ true = ap (λ t. is_empty (after_digits t)) (sym split) ∙ h in
    let is = first_digit c (drop (i + 1) digits) all in
    record {
      rest = after_first c (drop (i + 1) digits) all;
      value =
          ap (λ m. min (digits_value_after 10 m (drop (i + 1) digits)) cap) (n ∙ ap (λ v. min (size * 10 + v) cap) (d ∙ sym (digit_value-is_digit c is)))
          ∙ cap_after cap (size * 10 + digit_value c) (drop (i + 1) digits)
          ∙ sym (ap (λ t. min (digits_value_after 10 size t) cap) split);
    }

-- ---- bounds

small : (bound : ℤ) → is_small (Some bound) ≡ true → unsigned_abs bound < cap
small bound h = grind (arith, nat_tests)

is_le : (a b : ℕ) → a ≤ b → nat_le a b ≡ true
is_le a b h = grind (arith, nat_tests)

not_le : (a b : ℕ) → b < a → nat_le a b ≡ false
not_le a b h = grind (arith, nat_tests)

above_large : (bound : ℤ) (n : ℕ) → unsigned_abs bound < cap → cap ≤ n → int_le (pos n) bound ≡ false
above_large (pos a) n h l = not_le n a (omega arith)
above_large (negsuc a) n h l = refl

below_large : (bound : ℤ) (n : ℕ) → unsigned_abs bound < cap → cap ≤ n → int_le bound (pos n) ≡ true
below_large (pos a) n h l = is_le a n (omega arith)
below_large (negsuc a) n h l = refl

above_negative : (bound : ℤ) (n : ℕ) → unsigned_abs bound < cap → cap ≤ n → int_le (neg_ℤ (pos n)) bound ≡ true
above_negative bound zero h l = absurd (omega arith)
above_negative (pos a) (suc n) h l = refl
above_negative (negsuc a) (suc n) h l = is_le a n (omega arith)

below_negative : (bound : ℤ) (n : ℕ) → unsigned_abs bound < cap → cap ≤ n → int_le bound (neg_ℤ (pos n)) ≡ false
below_negative bound zero h l = absurd (omega arith)
below_negative (pos a) (suc n) h l = refl
below_negative (negsuc a) (suc n) h l = not_le n a (omega arith)

at_least_large : (least : Option ℤ) (minus : Bool) (m n : ℕ) → is_small least ≡ true → cap ≤ m → cap ≤ n → is_at_least least (signed_size minus m) ≡ is_at_least least (signed_size minus n)
at_least_large None minus m n h a b = refl
at_least_large (Some bound) true m n h a b = below_negative bound m (small bound h) a ∙ sym (below_negative bound n (small bound h) b)
at_least_large (Some bound) false m n h a b = below_large bound m (small bound h) a ∙ sym (below_large bound n (small bound h) b)

at_most_large : (most : Option ℤ) (minus : Bool) (m n : ℕ) → is_small most ≡ true → cap ≤ m → cap ≤ n → is_at_most most (signed_size minus m) ≡ is_at_most most (signed_size minus n)
at_most_large None minus m n h a b = refl
at_most_large (Some bound) true m n h a b = above_negative bound m (small bound h) a ∙ sym (above_negative bound n (small bound h) b)
at_most_large (Some bound) false m n h a b = above_large bound m (small bound h) a ∙ sym (above_large bound n (small bound h) b)

pub capped_bounds : (least most : Option ℤ) (minus : Bool) (size : ℕ) → is_small least ≡ true → is_small most ≡ true → (is_at_least least (signed_size minus (min size cap)) && is_at_most most (signed_size minus (min size cap))) ≡ (is_at_least least (signed_size minus size) && is_at_most most (signed_size minus size))
capped_bounds least most minus size h k = elim (cases_lt size cap) as (λ _. (is_at_least least (signed_size minus (min size cap)) && is_at_most most (signed_size minus (min size cap))) ≡ (is_at_least least (signed_size minus size) && is_at_most most (signed_size minus size))) [
  | inl a ↦ ap (λ m. is_at_least least (signed_size minus m) && is_at_most most (signed_size minus m)) (let e : min size cap ≡ size = omega arith in e)
  | inr b ↦
      ap (λ x. x && is_at_most most (signed_size minus (min size cap))) (at_least_large least minus (min size cap) size h (omega arith) b)
      ∙ ap (λ x. is_at_least least (signed_size minus size) && x) (at_most_large most minus (min size cap) size k (omega arith) b)
]

pub between_capped : (least most : Option ℤ) (text : List ℕ) (minus : Bool) (size : ℕ) (value : ℤ) (b : Bool) → is_integer text ≡ true → is_small least ≡ true → is_small most ≡ true → minus ≡ has_minus text → size ≡ min (digits_value 10 (without_sign text)) cap → value ≡ signed_size minus size → b ≡ (is_at_least least value && is_at_most most value) → b ≡ is_between least most text
between_capped least most text minus size value b integer h k m s v e =
    e
    ∙ ap (λ z. is_at_least least z && is_at_most most z) (v ∙ ap (λ x. signed_size x size) m ∙ ap (λ x. signed_size (has_minus text) x) s)
    ∙ capped_bounds least most (has_minus text) (digits_value 10 (without_sign text)) h k
    ∙ sym (ap (λ x. x && is_at_least least (value_of text) && is_at_most most (value_of text)) integer)
