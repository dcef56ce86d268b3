-- White space at the ends of a text, and the digits that it begins with, as loops meet them.
use Rattle.std.proofs.Common.{◌≡◌, ℕ, zero, suc, ◌+◌, ◌-◌, ◌<◌, ◌≤◌, Bool, true, false, ◌&&◌, ◌==◌, List, [], ◌∷◌, ◌++◌, length, get_or, take, drop, refl, sym, ◌∙◌, ap, if◌then◌else◌, arith, add-one}
use Rattle.std.proofs.lemmas.Bool.Decides.{nat_tests}
use Rattle.std.proofs.lemmas.List.{take_more, take_all}
use Rattle.std.proofs.Math.Seq.{drop-cons}
use Rattle.xf_num.specs.Written.{is_space, is_digit, is_empty, without_trailing, leading_digits, after_digits}

-- a text ends in a last byte
is_empty-push : (text : List ℕ) (c : ℕ) → is_empty (text ++ c ∷ []) ≡ false
is_empty-push [] c = refl
is_empty-push (x ∷ text) c = refl

and_false : (b : Bool) → (b && false) ≡ false
and_false true = refl
and_false false = refl

pub trailing_space : (text : List ℕ) (c : ℕ) → is_space c ≡ true → without_trailing (text ++ c ∷ []) ≡ without_trailing text
trailing_space [] c h = rw h refl
trailing_space (x ∷ text) c h = ap (λ rest. if is_space x && is_empty rest then [] else x ∷ rest) (trailing_space text c h)

pub trailing_other : (text : List ℕ) (c : ℕ) → is_space c ≡ false → without_trailing (text ++ c ∷ []) ≡ text ++ c ∷ []
trailing_other [] c h = rw h refl
trailing_other (x ∷ text) c h =
    ap (λ rest. if is_space x && is_empty rest then [] else x ∷ rest) (trailing_other text c h)
    ∙ rw (is_empty-push text c, and_false (is_space x)) refl

-- a text that is not empty is its front and its last byte
pub front_and_last : (text : List ℕ) → 1 ≤ length text → text ≡ take (length text - 1) text ++ get_or text (length text - 1) 0 ∷ []
front_and_last text h =
    sym (take_all (length text - 1 + 1) text (omega arith)) ∙ take_more text (length text - 1) 0 (omega arith)

pub last_space : (text : List ℕ) → 1 ≤ length text → is_space (get_or text (length text - 1) 0) ≡ true → without_trailing (take (length text - 1) text) ≡ without_trailing text
last_space text h d =
    sym (ap without_trailing (front_and_last text h) ∙ trailing_space (take (length text - 1) text) (get_or text (length text - 1) 0) d)

pub last_other : (text : List ℕ) → 1 ≤ length text → is_space (get_or text (length text - 1) 0) ≡ false → without_trailing text ≡ text
last_other text h d =
    ap without_trailing (front_and_last text h)
    ∙ trailing_other (take (length text - 1) text) (get_or text (length text - 1) 0) d
    ∙ sym (front_and_last text h)

-- the digits that a text begins with
pub length-leading_digits : (text : List ℕ) → length (leading_digits text) ≤ length text
length-leading_digits [] = omega arith
length-leading_digits (c ∷ text) =
    let rest = length-leading_digits text in
    elim (is_digit c) as (λ b. length (if b then c ∷ leading_digits text else []) ≤ suc (length text)) [ true ↦ omega (arith, rest) | false ↦ omega arith ]

pub after_digits-drop : (text : List ℕ) → after_digits text ≡ drop (length (leading_digits text)) text
after_digits-drop [] = refl
after_digits-drop (c ∷ text) =
    let rest = after_digits-drop text in
    elim (is_digit c) as (λ b. (if b then after_digits text else c ∷ text) ≡ drop (length (if b then c ∷ leading_digits text else [])) (c ∷ text)) [ true ↦ rest | false ↦ refl ]

suc_not_zero : (n : ℕ) → false ≡ (suc n == 0)
suc_not_zero n = grind (arith, nat_tests)

pub is_empty-length : (text : List ℕ) → is_empty text ≡ (length text == 0)
is_empty-length [] = refl
is_empty-length (c ∷ text) = suc_not_zero (length text)

-- a digit at i is one more of the leading digits
pub digit_at : (text : List ℕ) (i : ℕ) → i < length text → is_digit (get_or text i 0) ≡ true → leading_digits (drop i text) ≡ get_or text i 0 ∷ leading_digits (drop (i + 1) text)
digit_at text i h d = rw (add-one, drop-cons text i 0 h, d) refl

pub no_digit_at : (text : List ℕ) (i : ℕ) → i < length text → is_digit (get_or text i 0) ≡ false → leading_digits (drop i text) ≡ []
no_digit_at text i h d = rw (drop-cons text i 0 h, d) refl

-- where all are digits, the leading digits are all
pub leading_digits-all : (text : List ℕ) → is_empty (after_digits text) ≡ true → leading_digits text ≡ text
leading_digits-all [] = λ h. refl
leading_digits-all (c ∷ text) =
    elim (is_digit c) as (λ b. is_empty (if b then after_digits text else c ∷ text) ≡ true → (if b then c ∷ leading_digits text else []) ≡ c ∷ text)
    [ true ↦ (λ h. ap (λ rest. c ∷ rest) (leading_digits-all text h)) | false ↦ (λ h. absurd (cc)) ]

pub after_digits-take : (text : List ℕ) (n : ℕ) → is_empty (after_digits text) ≡ true → is_empty (after_digits (take n text)) ≡ true
after_digits-take text zero = λ h. refl
after_digits-take [] (suc n) = λ h. refl
after_digits-take (c ∷ text) (suc n) =
    elim (is_digit c) as (λ b. is_empty (if b then after_digits text else c ∷ text) ≡ true → is_empty (if b then after_digits (take n text) else c ∷ take n text) ≡ true)
    [ true ↦ (λ h. after_digits-take text n h) | false ↦ (λ h. h) ]
