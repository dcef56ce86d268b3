-- `translate` (XPath 1.0, section 4.2): each character is looked for in a second text and replaced by the one at the same place of a third.
use Rattle.std.specs.Prelude.{ℕ, ◌==◌, List, [], ◌∷◌, Option, Some, None, if◌then◌else◌, chars, encode_utf8_all}
use Rattle.std.specs.List.{filter_map}

-- the first character of a text
abbrev pub first : List ℕ → Option ℕ
first [] = None
first (c ∷ text) = Some c

-- a text without its first character
abbrev pub others : List ℕ → List ℕ
others [] = []
others (c ∷ text) = text

-- what stands for a character, by the first place of the second text that has it: the character of the third there, if any;
-- None where the second text lacks it
abbrev pub mapped : List ℕ → List ℕ → ℕ → Option (Option ℕ)
mapped [] to c = None
mapped (f ∷ from) to c = if f == c then Some (first to) else mapped from (others to) c

-- a character that is looked for in vain stays
abbrev pub kept_or : ℕ → Option (Option ℕ) → Option ℕ
kept_or c None = Some c
kept_or c (Some found) = found

abbrev pub image : List ℕ → List ℕ → ℕ → Option ℕ
image from to c = kept_or c (mapped from to c)

abbrev pub translated : List ℕ → List ℕ → List ℕ → List ℕ
translated text from to = encode_utf8_all (filter_map (image (chars from) (chars to)) (chars text))
