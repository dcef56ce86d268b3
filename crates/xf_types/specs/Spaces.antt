-- `normalize-space` (XPath 1.0, section 4.2): the words of a text, one space between two of them.
use Rattle.std.specs.Prelude.{ℕ, not, List, [], ◌∷◌, ◌++◌, filter, chars, encode_utf8_all}
use Rattle.std.specs.List.{slice_split}
use Rattle.xf_num.specs.Written.{is_space, is_empty}

-- the words: the parts between white space that are not empty
abbrev pub words : List ℕ → List (List ℕ)
words text = filter (λ part. not (is_empty part)) (slice_split is_space text)

abbrev pub joined : List (List ℕ) → List ℕ
joined [] = []
joined (word ∷ []) = word
joined (word ∷ next ∷ more) = word ++ 32 ∷ joined (next ∷ more)

abbrev pub normalized : List ℕ → List ℕ
normalized text = encode_utf8_all (joined (words (chars text)))
