-- Names cut at their colons.
use Rattle.std.proofs.Common.{◌≡◌, ℕ, suc, ◌<◌, Bool, true, false, ◌&&◌, ◌==◌, cond, if◌then◌else◌, List, [], ◌∷◌, length, refl, sym, ◌∙◌, ap, arith, Option, Some, None}
use Rattle.std.specs.Prelude.{option_map, IsUtf8}
use Rattle.std.specs.List.{list_all, slice_split, onto_first}
use Rattle.std.specs.Str.{is_utf8}
use Rattle.std.proofs.lemmas.Str.{IsUtf8-from_is_utf8, is_utf8-from_IsUtf8}
use Rattle.xf_name.specs.Part.{is_part, at_colon}
use Rattle.xf_types.specs.Parts.{is_name_part, is_name}

abbrev parts : List ℕ → List (List ℕ)
parts = slice_split (λ b. b == 58)

-- the parts by the first colon
abbrev parts_from : List ℕ → Option (List ℕ × List ℕ) → List (List ℕ)
parts_from text None = text ∷ []
parts_from text (Some (before, after)) = before ∷ parts after

longer : (b : ℕ) (text : List ℕ) (at : Option (List ℕ × List ℕ)) → onto_first b (parts_from text at) ≡ parts_from (b ∷ text) (option_map (λ p. (b ∷ p.0, p.1)) at)
longer b text None = refl
longer b text (Some (before, after)) = refl

parts_at : (text : List ℕ) → parts text ≡ parts_from text (at_colon text)
parts_at [] = refl
parts_at (b ∷ text) =
    let rest = parts_at text in
    elim (b == 58) as (λ t. cond t ([] ∷ parts text) (onto_first b (parts text)) ≡ parts_from (b ∷ text) (if t then Some ([], text) else option_map (λ p. (b ∷ p.0, p.1)) (at_colon text)))
    [ true ↦ refl | false ↦ ap (onto_first b) rest ∙ longer b text (at_colon text) ]

and_true : (b : Bool) → (b && true) ≡ b
and_true true = refl
and_true false = refl

pub is_name-cut : (text before after : List ℕ) → Some (before, after) ≡ at_colon text → is_name text ≡ (is_name_part before && is_name after)
is_name-cut text before after h = ap (list_all is_name_part) (parts_at text ∙ ap (parts_from text) (sym h))

pub is_name-whole : (text : List ℕ) → None ≡ at_colon text → is_name text ≡ is_name_part text
is_name-whole text h = ap (list_all is_name_part) (parts_at text ∙ ap (parts_from text) (sym h)) ∙ and_true (is_name_part text)

-- what follows a colon is shorter
abbrev IsShorter : Option (List ℕ × List ℕ) → ℕ → Type 0
IsShorter None n = Unit {0}
IsShorter (Some (before, after)) n = length after < n

shorter_on : (b : ℕ) (at : Option (List ℕ × List ℕ)) (n : ℕ) → IsShorter at n → IsShorter (option_map (λ p. (b ∷ p.0, p.1)) at) (suc n)
shorter_on b None n h = tt
shorter_on b (Some (before, after)) n h = omega arith

at_colon-shorter : (text : List ℕ) → IsShorter (at_colon text) (length text)
at_colon-shorter [] = tt
at_colon-shorter (b ∷ text) =
    let rest = at_colon-shorter text in
    elim (b == 58) as (λ t. IsShorter (if t then Some ([], text) else option_map (λ p. (b ∷ p.0, p.1)) (at_colon text)) (suc (length text)))
    [ true ↦ omega arith | false ↦ shorter_on b (at_colon text) (length text) rest ]

pub after_colon-shorter : (text before after : List ℕ) → Some (before, after) ≡ at_colon text → length after < length text
after_colon-shorter text before after h = rw (← h) at (at_colon-shorter text)

-- bytes that are no UTF-8 are no part
utf8_false : (b : Bool) (text : List ℕ) → is_utf8 text ≡ b → (IsUtf8 text → ⊥) → is_utf8 text ≡ false
utf8_false true text e h = absurd (h (IsUtf8-from_is_utf8 text e))
utf8_false false text e h = e

pub no_utf8 : (text : List ℕ) → (IsUtf8 text → ⊥) → false ≡ is_name_part text
no_utf8 text h = sym (ap (λ b. b && is_part text) (utf8_false (is_utf8 text) text refl h))

pub part_of_utf8 : (text part : List ℕ) (b : Bool) → part ≡ text → IsUtf8 text → b ≡ is_part part → b ≡ is_name_part text
part_of_utf8 text part b e h k = k ∙ ap is_part e ∙ sym (ap (λ t. t && is_part text) (is_utf8-from_IsUtf8 text h))
