-- The parts of a text between white space, of which the words are those that are not empty.
use Rattle.std.specs.Prelude.{ℕ, Bool, ◌&&◌, not, List, [], ◌∷◌, ◌++◌, bytes_eq, if◌then◌else◌}
use Rattle.xf_num.specs.Written.{is_empty, is_space}
use Rattle.xf_def_ui.specs.declared.answers.Item.{Item}
use Rattle.xf_def_ui.specs.Items.{has_value}

-- the parts of what follows, the first of which has begun
abbrev pub parts_after : List ℕ → List ℕ → List (List ℕ)
parts_after part [] = part ∷ []
parts_after part (c ∷ text) = if is_space c then part ∷ parts_after [] text else parts_after (part ++ c ∷ []) text

-- a part is a word that passes a test
abbrev pub is_word : (List ℕ → Bool) → List ℕ → Bool
is_word test part = not (is_empty part) && test part

-- no item has this value
abbrev pub is_other : List Item → List ℕ → Bool
is_other items text = not (has_value items text)
