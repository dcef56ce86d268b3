-- String values (XPath 1.0, sections 5.1 to 5.7).
use Rattle.std.specs.Prelude.{ℕ, Bool, true, false, List, [], ◌∷◌, ◌++◌, length, map, filter, find, Option, Some, None, nat_lt, ◌==◌, if◌then◌else◌}
use Rattle.std.specs.List.{flat_map}
use Rattle.xf_def_forest.specs.declared.content.Content.{Content}
use Rattle.xf_def_forest.specs.declared.content.Content.TheVariants.{Text}
use Rattle.xf_def_forest.specs.Forest.{own_text}
use Rattle.xf_def_forest.specs.Visit.{Visit, has}

abbrev pub characters : Content → List ℕ
characters (Text text) = text
characters content = []

abbrev pub text_below : ℕ → Visit → List ℕ
text_below n y = if has n y.above then characters y.content else []

-- the string value of a visited node: the text that it has itself, or the texts below it, joined in document order
abbrev pub value_of : List Visit → Visit → List ℕ
value_of all x = own_text x.content ++ flat_map (text_below x.number) all

abbrev pub value_in : List Visit → Option Visit → List ℕ
value_in all None = []
value_in all (Some x) = value_of all x

abbrev pub string_value : ℕ → List Visit → List ℕ
string_value n all = value_in all (find (λ x. x.number == n) all)

-- the string value, or None where it has more bytes than the most that are wanted
abbrev pub within : ℕ → List ℕ → Option (List ℕ)
within most text = if nat_lt most (length text) then None else Some text

abbrev pub string_value_within : ℕ → ℕ → List Visit → Option (List ℕ)
string_value_within most n all = within most (string_value n all)

-- ---- its pieces

abbrev pub has_character : List ℕ → Bool
has_character [] = false
has_character (c ∷ cs) = true

-- the texts that make a visited node's string value up: those that are not empty, in document order
abbrev pub pieces_of : List Visit → Visit → List (List ℕ)
pieces_of all x = filter has_character (own_text x.content ∷ map (text_below x.number) all)

abbrev pub pieces_in : List Visit → Option Visit → List (List ℕ)
pieces_in all None = []
pieces_in all (Some x) = pieces_of all x

abbrev pub pieces : ℕ → List Visit → List (List ℕ)
pieces n all = pieces_in all (find (λ x. x.number == n) all)

-- a text that is in one piece
abbrev pub whole : List (List ℕ) → Option (List ℕ)
whole [] = Some []
whole (p ∷ []) = Some p
whole (p ∷ q ∷ ps) = None
