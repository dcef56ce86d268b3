-- Parts of texts and their order, by characters (XPath 1.0, section 4.2; XForms 1.1, section 7.7).
use Rattle.std.specs.Prelude.{ℕ, nat_eq, Bool, ◌||◌, List, [], ◌∷◌, length, drop, Option, Some, None, is_some, option_map, if◌then◌else◌, chars, encode_utf8_all, bytes_eq, codes}
use Rattle.std.specs.List.{starts_with}
use Rattle.std.specs.Str.{str_to_ascii_lowercase}
use Rattle.std.specs.Ordering.{nat_cmp}
use Rattle.std.specs.Cmp.Lexicographic.{slice_cmp}
use Rattle.std.specs.declared.cmp.Ordering.{Ordering}
use Rattle.xf_num.specs.Written.{is_empty}

-- `starts-with`
abbrev pub begins_with : List ℕ → List ℕ → Bool
begins_with text front = starts_with nat_eq (chars text) (chars front)

-- of characters: what stands before and after the first place at which the part stands, None where it stands nowhere
abbrev pub around : List ℕ → List ℕ → Option (List ℕ × List ℕ)
around part [] = if is_empty part then Some ([], []) else None
around part (c ∷ text) =
    if starts_with nat_eq (c ∷ text) part then Some ([], drop (length part) (c ∷ text))
    else option_map (λ p. (c ∷ p.0, p.1)) (around part text)

abbrev pub front_of : Option (List ℕ × List ℕ) → List ℕ
front_of None = []
front_of (Some (before, after)) = before

abbrev pub rest_of : Option (List ℕ × List ℕ) → List ℕ
rest_of None = []
rest_of (Some (before, after)) = after

-- `contains`
abbrev pub contains : List ℕ → List ℕ → Bool
contains text part = is_some (around (chars part) (chars text))

-- `substring-before`
abbrev pub before : List ℕ → List ℕ → List ℕ
before text part = encode_utf8_all (front_of (around (chars part) (chars text)))

-- `substring-after`
abbrev pub after : List ℕ → List ℕ → List ℕ
after text part = encode_utf8_all (rest_of (around (chars part) (chars text)))

-- how two texts stand, by the codes of their characters
abbrev pub order_of_texts : List ℕ → List ℕ → Ordering
order_of_texts left right = slice_cmp nat_cmp (chars left) (chars right)

-- `boolean-from-string`
abbrev pub is_true_text : List ℕ → Bool
is_true_text text = bytes_eq (str_to_ascii_lowercase text) (codes "true") || bytes_eq text (codes "1")
