-- Words written one character after the other.
use Rattle.std.proofs.Common.{◌≡◌, ℕ, ◌≤◌, Bool, true, false, not, if◌then◌else◌, filter, List, [], ◌∷◌, ◌++◌, length, refl, sym, ap, ◌∙◌, append-nil, append_assoc, arith}
use Rattle.std.specs.Prelude.{chars, encode_utf8, encode_utf8_all}
use Rattle.std.proofs.lemmas.Str.{encode_ascii, length-encode, len_utf8_bounds}
use Rattle.std.specs.List.{slice_split, onto_first}
use Rattle.xf_num.specs.Written.{is_space, is_empty}
use Rattle.xf_types.specs.Spaces.{words, joined, normalized}

-- a character takes a byte at least
pub encode-some : (c : ℕ) → 1 ≤ length (encode_utf8 c)
encode-some c = omega (arith, length-encode c, len_utf8_bounds c)

-- what is still to be written of a text, where a word stands already or not, and a space is due or not
abbrev pub onward : Bool → Bool → List ℕ → List ℕ
onward begun due [] = []
onward begun due (c ∷ text) =
    if is_space c then onward begun begun text
    else (if due then 32 ∷ c ∷ onward true false text else c ∷ onward true false text)

abbrev pub some : List ℕ → Bool
some part = not (is_empty part)

abbrev pub parts : List ℕ → List (List ℕ)
parts = slice_split is_space

abbrev pub first_part : List (List ℕ) → List ℕ
first_part [] = []
first_part (part ∷ more) = part

abbrev pub later_parts : List (List ℕ) → List (List ℕ)
later_parts [] = []
later_parts (part ∷ more) = more

-- the words with a space before each
abbrev pub spaced : List (List ℕ) → List ℕ
spaced [] = []
spaced (word ∷ more) = 32 ∷ word ++ spaced more

joined_spaced : (word : List ℕ) (more : List (List ℕ)) → joined (word ∷ more) ≡ word ++ spaced more
joined_spaced word [] = sym (append-nil word)
joined_spaced word (next ∷ more) = ap (λ t. word ++ 32 ∷ t) (joined_spaced next more)

longer_first : (c : ℕ) (all : List (List ℕ)) → first_part (onto_first c all) ≡ c ∷ first_part all
longer_first c [] = refl
longer_first c (part ∷ more) = refl

longer_later : (c : ℕ) (all : List (List ℕ)) → later_parts (onto_first c all) ≡ later_parts all
longer_later c [] = refl
longer_later c (part ∷ more) = refl

longer_words : (c : ℕ) (all : List (List ℕ)) → filter some (onto_first c all) ≡ (c ∷ first_part all) ∷ filter some (later_parts all)
longer_words c [] = refl
longer_words c (part ∷ more) = refl

-- within a word, and between words
pub record Rest (text : List ℕ) : Type 0 where
  pub within : onward true false text ≡ first_part (parts text) ++ spaced (filter some (later_parts (parts text)))
  pub between : onward true true text ≡ spaced (words text)

rest : (text : List ℕ) → Rest text
rest [] = record { within = refl; between = refl }
rest (c ∷ text) =
    let h = rest text in
    let all = parts text in
    record {
      within = elim (is_space c) as (λ b. (if b then onward true true text else c ∷ onward true false text) ≡ first_part (if b then [] ∷ all else onto_first c all) ++ spaced (filter some (later_parts (if b then [] ∷ all else onto_first c all)))) [
        | true ↦ h.between
        | false ↦ ap (λ t. c ∷ t) h.within ∙ sym (ap (λ t. t ++ spaced (filter some (later_parts (onto_first c all)))) (longer_first c all) ∙ ap (λ t. (c ∷ first_part all) ++ spaced (filter some t)) (longer_later c all))
      ];
      between = elim (is_space c) as (λ b. (if b then onward true true text else 32 ∷ c ∷ onward true false text) ≡ spaced (filter some (if b then [] ∷ all else onto_first c all))) [
        | true ↦ h.between
        | false ↦ ap (λ t. 32 ∷ c ∷ t) h.within ∙ sym (ap spaced (longer_words c all))
      ];
    }

-- before the first word
pub all_words : (text : List ℕ) → onward false false text ≡ joined (words text)
all_words [] = refl
all_words (c ∷ text) = elim (is_space c) as (λ b. (if b then onward false false text else c ∷ onward true false text) ≡ joined (filter some (if b then [] ∷ parts text else onto_first c (parts text)))) [
  | true ↦ all_words text
  | false ↦ ap (λ t. c ∷ t) (rest text).within ∙ sym (ap joined (longer_words c (parts text)) ∙ joined_spaced (c ∷ first_part (parts text)) (filter some (later_parts (parts text))))
]

-- ---- one character more

some_byte : (text front more : List ℕ) → 1 ≤ length front → is_empty (text ++ (front ++ more)) ≡ false
some_byte [] [] more h = absurd (omega arith)
some_byte [] (b ∷ front) more h = refl
some_byte (a ∷ text) front more h = refl

-- what is appended for a character, with a space before it where one is due
abbrev appended : Bool → ℕ → List ℕ
appended space_due c = if space_due then 32 ∷ encode_utf8 c else encode_utf8 c

appended_some : (space_due : Bool) (c : ℕ) → 1 ≤ length (appended space_due c)
appended_some true c = omega arith
appended_some false c = encode-some c

-- the bytes of what is still to be written begin with those of the character
next_bytes : (begun space_due : Bool) (c : ℕ) (left : List ℕ) → is_space c ≡ false → encode_utf8_all (onward begun space_due (c ∷ left)) ≡ appended space_due c ++ encode_utf8_all (onward true false left)
next_bytes begun true c left h =
    ap (λ b. encode_utf8_all (if b then onward begun begun left else 32 ∷ c ∷ onward true false left)) h
    ∙ ap (λ t. t ++ (encode_utf8 c ++ encode_utf8_all (onward true false left))) (encode_ascii 32 (omega arith))
next_bytes begun false c left h = ap (λ b. encode_utf8_all (if b then onward begun begun left else c ∷ onward true false left)) h

pub pushed : (made new left whole : List ℕ) (c : ℕ) (begun space_due : Bool) → is_space c ≡ false → new ≡ made ++ appended space_due c → made ++ encode_utf8_all (onward begun space_due (c ∷ left)) ≡ whole → new ++ encode_utf8_all (onward (not (is_empty new)) false left) ≡ whole
pushed made new left whole c begun space_due h e k =
    let more = encode_utf8_all (onward true false left) in
    let some : is_empty new ≡ false =
    ap is_empty (e ∙ ap (λ t. made ++ t) (sym (append-nil (appended space_due c)))) ∙ some_byte made (appended space_due c) [] (appended_some space_due c) in
    ap (λ b. new ++ encode_utf8_all (onward (not b) false left)) some
    ∙ ap (λ t. t ++ more) e ∙ append_assoc made (appended space_due c) more
    ∙ ap (λ t. made ++ t) (sym (next_bytes begun space_due c left h)) ∙ k

pub all_pushed : (made text left : List ℕ) (begun space_due : Bool) → chars left ≡ [] → made ++ encode_utf8_all (onward begun space_due (chars left)) ≡ encode_utf8_all (onward false false (chars text)) → made ≡ normalized text
all_pushed made text left begun space_due none h =
    sym (append-nil made) ∙ ap (λ cs. made ++ encode_utf8_all (onward begun space_due cs)) (sym none) ∙ h ∙ ap encode_utf8_all (all_words (chars text))
