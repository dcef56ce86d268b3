-- The parts of a written name, by its characters and by its bytes.
use Rattle.std.proofs.Common.{◌≡◌, ℕ, suc, ◌<◌, List, [], ◌∷◌, ◌++◌, length, get_or, true, cond, eqb, Some, None, option_map, MatchOption, slice_get, Bor, inl, inr, refl, sym, ap, ◌∙◌, arith}
use Rattle.std.specs.declared.option.Option.{Option}
use Rattle.std.specs.Str.{chars, IsUtf8}
use Rattle.std.proofs.lemmas.Str.{chars-encodes}
use Rattle.std.proofs.lemmas.Str.Pattern.{IsSplitOnceResult, split_parts}
use Rattle.std.proofs.lemmas.Bool.{and_parts}
use Rattle.std.proofs.lemmas.Bool.Decides.{eqb_tells}
use Rattle.std.proofs.lemmas.List.{append_cancel_left}
use lib.Utf8.{scalar, scalars, encodes, encode}
use Rattle.xf_name.specs.Part.{at_colon}

-- ---- the first character

by_chars : (cs text rest : List ℕ) (first : ℕ) → scalars cs ≡ true → encodes cs ≡ text → text ≡ encode first ++ rest → Some first ≡ slice_get (chars text) 0 → IsUtf8 rest × (chars text ≡ first ∷ chars rest)
by_chars [] text rest first scalar_all spelled split found =
    let none : chars text ≡ [] = ap chars (sym spelled) ∙ chars-encodes [] refl in
    let never = found ∙ ap (λ l. slice_get l 0) none in
    absurd (cc)
by_chars (d ∷ ds) text rest first scalar_all spelled split found =
    let all : chars text ≡ d ∷ ds = ap chars (sym spelled) ∙ chars-encodes (d ∷ ds) scalar_all in
    let is_first : Some first ≡ Some d = found ∙ ap (λ l. slice_get l 0) all in
    let same : first ≡ d = cc in
    let after : rest ≡ encodes ds = append_cancel_left (encode first) rest (encodes ds) (sym split ∙ sym spelled ∙ ap (λ c. encode c ++ encodes ds) (sym same)) in
    let later = (and_parts (scalar d) (scalars ds) scalar_all).1 in
    ((ds, (later, sym after)), all ∙ ap (λ c. c ∷ ds) (sym same) ∙ ap (λ l. first ∷ l) (sym (ap chars after ∙ chars-encodes ds later)))

-- what is left after the first character
pub first_char : (text rest : List ℕ) (first : ℕ) → IsUtf8 text → text ≡ encode first ++ rest → Some first ≡ slice_get (chars text) 0 → IsUtf8 rest × (chars text ≡ first ∷ chars rest)
first_char text rest first utf8 split found = by_chars utf8.0 text rest first utf8.1.0 utf8.1.1 split found

-- ---- the first colon

not_colon : {A : Type 0} (b : ℕ) (x y : A) → (b ≡ 58 → ⊥) → cond (eqb b 58) x y ≡ y
not_colon b x y other = elim (eqb_tells b 58) [ inl p ↦ absurd (other p.1) | inr p ↦ ap (λ t. cond t x y) p.0 ]

without : (bs : List ℕ) → ((i : ℕ) → i < length bs → get_or bs i 0 ≡ 58 → ⊥) → at_colon bs ≡ None
without [] h = refl
without (b ∷ bs) h =
    not_colon b (Some ([], bs)) (option_map (λ p. (b ∷ p.0, p.1)) (at_colon bs)) (h 0 (omega arith)) ∙ ap (option_map (λ p. (b ∷ p.0, p.1))) (without bs (λ i k. h (suc i) (omega arith)))

around : (before after : List ℕ) → ((i : ℕ) → i < length before → get_or before i 0 ≡ 58 → ⊥) → at_colon (before ++ 58 ∷ after) ≡ Some (before, after)
around [] after h = refl
around (b ∷ bs) after h =
    not_colon b (Some ([], bs ++ 58 ∷ after)) (option_map (λ p. (b ∷ p.0, p.1)) (at_colon (bs ++ 58 ∷ after))) (h 0 (omega arith))
    ∙ ap (option_map (λ p. (b ∷ p.0, p.1))) (around bs after (λ i k. h (suc i) (omega arith)))

split_by : (bs : List ℕ) (r : Option (Bor (List ℕ) × Bor (List ℕ)))
    → MatchOption r ((i : ℕ) → i < length bs → get_or bs i 0 ≡ 58 → ⊥) (λ x. (bs ≡ x.0.now ++ (58 ∷ x.1.now)) × ((i : ℕ) → i < length x.0.now → get_or x.0.now i 0 ≡ 58 → ⊥))
    → option_map (λ p. (p.0.now, p.1.now)) r ≡ at_colon bs
split_by bs None h = sym (without bs h)
split_by bs (Some p) h = sym (ap at_colon h.0 ∙ around p.0.now p.1.now h.1)

-- `split_once` at a colon
pub split_is : (bs : List ℕ) (r : Option (Bor (List ℕ) × Bor (List ℕ))) → IsSplitOnceResult 58 bs r → option_map (λ p. (p.0.now, p.1.now)) r ≡ at_colon bs
split_is bs r h = split_by bs r (split_parts 58 bs r h (omega arith))
