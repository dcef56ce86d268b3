-- The characters at some places are a run of them.
use Rattle.std.proofs.Common.{◌≡◌, ℕ, suc, ◌+◌, ◌-◌, ◌*◌, ◌/◌, ◌<◌, ◌≤◌, max, Bool, true, false, ◌&&◌, not, if◌then◌else◌, nat_le, nat_lt, List, [], ◌∷◌, take, drop, ℤ, pos, negsuc, Some, None, refl, sym, ap, ◌∙◌, arith, inl, inr}
use Rattle.std.proofs.lemmas.Bool.{cases_lt}
use Rattle.std.proofs.lemmas.Bool.Decides.{nat_tests}
use Rattle.std.proofs.Math.Nat.{div-lt_iff_lt-mul}
use Rattle.std.specs.declared.option.Option.{Option}
use Rattle.std.specs.Ordering.{is_lt, int_cmp}
use Rattle.std.proofs.Math.Seq.{drop-nil, take-nil}
use Rattle.xf_num.specs.Number.{scale}
use Rattle.xf_num.proofs.DigitLemmas.{scale_positive}
use Rattle.xf_funcs.specs.Substring.{is_from, is_before, at_places, place_of, least_place}

-- ---- a place against a number

above : (m n s : ℕ) → 1 ≤ s → (m + (s - 1)) / s ≤ n → m ≤ n * s
above m n s h le = let less = (div-lt_iff_lt-mul {k = s} (omega arith)).0 (let l : (m + (s - 1)) / s < n + 1 = omega arith in l) in omega (arith, less)

below : (m n s : ℕ) → 1 ≤ s → m ≤ n * s → (m + (s - 1)) / s ≤ n
below m n s h le = let less : (m + (s - 1)) / s < n + 1 = (div-lt_iff_lt-mul {k = s} (omega arith)).1 (omega arith) in omega arith

is_true : (a b : ℕ) → a < b → nat_lt a b ≡ true
is_true a b h = grind (arith, nat_tests)

is_false : (a b : ℕ) → b ≤ a → nat_lt a b ≡ false
is_false a b h = grind (arith, nat_tests)

not_below : (a b : ℕ) → not (nat_lt a b) ≡ nat_le b a
not_below a b = grind (arith, nat_tests)

-- a place is below the units of a number where it is below their least place
scaled : (m n s : ℕ) → 1 ≤ s → nat_lt (n * s) m ≡ nat_lt n ((m + (s - 1)) / s)
scaled m n s h = elim (cases_lt n ((m + (s - 1)) / s)) as (λ _. nat_lt (n * s) m ≡ nat_lt n ((m + (s - 1)) / s)) [
  | inl l ↦ elim (cases_lt (n * s) m) as (λ _. nat_lt (n * s) m ≡ nat_lt n ((m + (s - 1)) / s)) [
    | inl k ↦ is_true (n * s) m k ∙ sym (is_true n ((m + (s - 1)) / s) l)
    | inr k ↦ absurd (omega (arith, below m n s h k))
  ]
  | inr l ↦ is_false (n * s) m (above m n s h l) ∙ sym (is_false n ((m + (s - 1)) / s) l)
]

order_of_pos : (a b : ℕ) → is_lt (int_cmp (pos a) (pos b)) ≡ nat_lt a b
order_of_pos a b = grind (arith, nat_tests)

pub from_place : (d n : ℕ) (k : ℤ) → is_from d (Some k) n ≡ nat_le (place_of d k) n
from_place d n (negsuc k) = grind (arith, nat_tests)
from_place d n (pos m) = ap not (order_of_pos (n * scale d) m ∙ scaled m n (scale d) (scale_positive d)) ∙ not_below n (place_of d (pos m))

pub before_place : (d n : ℕ) (k : ℤ) → is_before d (Some k) n ≡ nat_lt n (place_of d k)
before_place d n (negsuc k) = grind (arith, nat_tests)
before_place d n (pos m) = order_of_pos (n * scale d) m ∙ scaled m n (scale d) (scale_positive d)

-- ---- runs of characters

pub same_places : (p q : ℕ → Bool) → ((n : ℕ) → p n ≡ q n) → (n : ℕ) (text : List ℕ) → at_places p n text ≡ at_places q n text
same_places p q h n [] = refl
same_places p q h n (c ∷ text) =
    let rest = same_places p q h (suc n) text in
    ap (λ t. if p n then c ∷ t else t) rest ∙ ap (λ b. if b then c ∷ at_places q (suc n) text else at_places q (suc n) text) (h n)

pub no_places : (n : ℕ) (text : List ℕ) → at_places (λ _. false) n text ≡ []
no_places n [] = refl
no_places n (c ∷ text) = no_places (suc n) text

pub places_from : (a n : ℕ) (text : List ℕ) → at_places (nat_le a) n text ≡ drop (a - n) text
places_from a n [] = sym (drop-nil (a - n))
places_from a n (c ∷ text) =
    let rest = places_from a (suc n) text in
    elim (cases_lt n a) as (λ _. (if nat_le a n then c ∷ at_places (nat_le a) (suc n) text else at_places (nat_le a) (suc n) text) ≡ drop (a - n) (c ∷ text)) [
      | inl l ↦
          let more : a - n ≡ suc (a - suc n) = omega arith in
          let no : nat_le a n ≡ false = grind (arith, nat_tests) in
          rw (no, more) rest
      | inr l ↦
          let none : a - n ≡ 0 = omega arith in
          let later : a - suc n ≡ 0 = omega arith in
          let yes : nat_le a n ≡ true = grind (arith, nat_tests) in
          rw (yes, none) (ap (λ t. c ∷ t) (rest ∙ ap (λ k. drop k text) later))
    ]

pub places_within : (a b n : ℕ) (text : List ℕ) → at_places (λ m. nat_le a m && nat_lt m b) n text ≡ take (b - max a n) (drop (a - n) text)
places_within a b n [] = sym (ap (take (b - max a n)) (drop-nil (a - n)) ∙ take-nil (b - max a n))
places_within a b n (c ∷ text) =
    let rest = places_within a b (suc n) text in
    elim (cases_lt n a) as (λ _. (if nat_le a n && nat_lt n b then c ∷ at_places (λ m. nat_le a m && nat_lt m b) (suc n) text else at_places (λ m. nat_le a m && nat_lt m b) (suc n) text) ≡ take (b - max a n) (drop (a - n) (c ∷ text))) [
      | inl l ↦
          let more : a - n ≡ suc (a - suc n) = omega arith in
          let no : nat_le a n ≡ false = grind (arith, nat_tests) in
          let same : max a n ≡ max a (suc n) = omega arith in
          rw (no, more, same) rest
      | inr l ↦
          let none : a - n ≡ 0 = omega arith in
          let later : a - suc n ≡ 0 = omega arith in
          let yes : nat_le a n ≡ true = grind (arith, nat_tests) in
          let top : max a n ≡ n = omega arith in
          let next : max a (suc n) ≡ suc n = omega arith in
          let tail = rest ∙ ap (λ k. take (b - max a (suc n)) (drop k text)) later in
          elim (cases_lt n b) as (λ _. (if nat_le a n && nat_lt n b then c ∷ at_places (λ m. nat_le a m && nat_lt m b) (suc n) text else at_places (λ m. nat_le a m && nat_lt m b) (suc n) text) ≡ take (b - max a n) (drop (a - n) (c ∷ text))) [
            | inl k ↦
                let below : nat_lt n b ≡ true = is_true n b k in
                let count : b - n ≡ suc (b - suc n) = omega arith in
                rw (yes, below, none, top, count) (ap (λ t. c ∷ t) (tail ∙ ap (λ k. take (b - k) text) next))
            | inr k ↦
                let past : nat_lt n b ≡ false = is_false n b k in
                let count : b - n ≡ 0 = omega arith in
                let few : b - suc n ≡ 0 = omega arith in
                rw (yes, past, none, top, count) (tail ∙ ap (λ k. take (b - k) text) next ∙ ap (λ k. take k text) few)
          ]
    ]

-- ---- the places from one number on, and before another

and_false : (b : Bool) → (b && false) ≡ false
and_false true = refl
and_false false = refl

pub from_number : (d : ℕ) (text : List ℕ) (start : Option ℤ) (first : ℕ) → Some first ≡ least_place d start → at_places (is_from d start) 1 text ≡ drop (first - 1) text
from_number d text None first h = absurd (cc)
from_number d text (Some k) first h =
    let same : place_of d k ≡ first = cc in
    same_places (is_from d (Some k)) (nat_le (place_of d k)) (λ n. from_place d n k) 1 text ∙ places_from (place_of d k) 1 text ∙ ap (λ a. drop (a - 1) text) same

pub from_nothing : (d : ℕ) (text : List ℕ) (start : Option ℤ) → None ≡ least_place d start → at_places (is_from d start) 1 text ≡ []
from_nothing d text None h = same_places (is_from d None) (λ _. false) (λ n. refl) 1 text ∙ no_places 1 text
from_nothing d text (Some k) h = absurd (cc)

pub within_numbers : (d : ℕ) (text : List ℕ) (start end : Option ℤ) (first last : ℕ) → Some first ≡ least_place d start → Some last ≡ least_place d end → at_places (λ n. is_from d start n && is_before d end n) 1 text ≡ take (last - max first 1) (drop (first - 1) text)
within_numbers d text None end first last h k = absurd (cc)
within_numbers d text (Some j) None first last h k = absurd (cc)
within_numbers d text (Some j) (Some k) first last h e =
    let begins : place_of d j ≡ first = cc in
    let ends : place_of d k ≡ last = cc in
    same_places (λ n. is_from d (Some j) n && is_before d (Some k) n) (λ n. nat_le (place_of d j) n && nat_lt n (place_of d k))
    (λ n. ap (λ b. b && is_before d (Some k) n) (from_place d n j) ∙ ap (λ b. nat_le (place_of d j) n && b) (before_place d n k)) 1 text
    ∙ places_within (place_of d j) (place_of d k) 1 text
    ∙ ap (λ a. take (place_of d k - max a 1) (drop (a - 1) text)) begins ∙ ap (λ b. take (b - max first 1) (drop (first - 1) text)) ends

pub from_no_start : (d : ℕ) (text : List ℕ) (start end : Option ℤ) → None ≡ least_place d start → at_places (λ n. is_from d start n && is_before d end n) 1 text ≡ []
from_no_start d text None end h = same_places (λ n. is_from d None n && is_before d end n) (λ _. false) (λ n. refl) 1 text ∙ no_places 1 text
from_no_start d text (Some k) end h = absurd (cc)

pub before_no_end : (d : ℕ) (text : List ℕ) (start end : Option ℤ) → None ≡ least_place d end → at_places (λ n. is_from d start n && is_before d end n) 1 text ≡ []
before_no_end d text start None h = same_places (λ n. is_from d start n && is_before d None n) (λ _. false) (λ n. and_false (is_from d start n)) 1 text ∙ no_places 1 text
before_no_end d text start (Some k) h = absurd (cc)
