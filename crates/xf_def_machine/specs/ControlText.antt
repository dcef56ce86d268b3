-- The lines of the copies of controls, with their items; and the text of a whole state.
use Rattle.std.specs.Prelude.{ℕ, suc, Bool, true, false, not, List, [], ◌∷◌, ◌++◌, filter, length, zip, codes, decimal, Option, Some, None, unwrap_or, ◌==◌}
use Rattle.std.specs.List.{flat_map, position_or_len}
use Rattle.xf_def_ui.specs.declared.answers.Item.{Item}
use Rattle.xf_def_ui.specs.Interface.{Sort, one_case, repeated, select}
use Rattle.xf_def_ui.specs.Elements.{element_at, repeats_around}
use Rattle.xf_def_ui.specs.Rows.{rows_of}
use Rattle.xf_def_ui.specs.declared.marks.Marks.{Marks}
use Rattle.xf_def_ui.specs.Copies.{Copy}
use Rattle.xf_def_ui.specs.Items.{is_chosen}
use Rattle.xf_def_machine.specs.Profile.{Profile}
use Rattle.xf_def_machine.specs.State.{State}
use Rattle.xf_def_machine.specs.Surround.{interface, instances_in, quiet}
use Rattle.xf_def_machine.specs.Cycles.{counted_from}
use Rattle.xf_def_machine.specs.NoteLines.{quoted}
use Rattle.xf_def_machine.specs.StateText.{spaced, line_of, marks_text, instance_lines, name_of, repeat_line, switch_line}

-- ---- the rows of a copy, by their numbers

-- the place of a row among the rows, from 1
abbrev pub number_in : List ℕ → ℕ → ℕ
number_in rows n = suc (position_or_len (λ m. m == n) rows)

-- each among the rows of its repeat under the rows before
abbrev pub row_numbers : Profile → State → List ℕ → List ℕ → List ℕ → List ℕ
row_numbers p s chain (r ∷ rs) (n ∷ ns) =
    number_in (unwrap_or (rows_of (interface s) (quiet p s) chain r) []) n ∷ row_numbers p s (chain ++ n ∷ []) rs ns
row_numbers p s chain rs ns = []

-- with commas between
abbrev pub joined : List ℕ → List ℕ
joined [] = []
joined (k ∷ []) = decimal k
joined (k ∷ l ∷ ks) = decimal k ++ codes "," ++ joined (l ∷ ks)

-- the numbers of a copy's rows, in brackets
abbrev pub rows_text : Profile → State → Copy → List ℕ
rows_text p s c = codes "[" ++ joined (row_numbers p s [] (repeats_around (interface s) c.element) c.rows) ++ codes "]"

-- ---- a copy

-- the states of a copy, as marks
abbrev pub marks_of : Copy → Marks
marks_of c = record { relevant = c.enabled; readonly = not c.readwrite; required = c.required; valid = c.valid }

-- the value in quotes, where there is one
abbrev pub value_part : Option (List ℕ) → List ℕ
value_part None = []
value_part (Some text) = spaced (quoted text)

-- the sign of an item: chosen or not
abbrev pub sign_if : Bool → List ℕ
sign_if true = codes " +"
sign_if false = codes " -"

-- without a value none is, not even one whose value is empty
abbrev pub is_chosen_in : Bool → Option (List ℕ) → Item → Bool
is_chosen_in many None i = false
is_chosen_in many (Some text) i = is_chosen many text i

-- the line of an item
abbrev pub item_line : Profile → State → Copy → Bool → Item → List ℕ
item_line p s c many i = line_of (codes "item " ++ name_of s c.element ++ spaced (rows_text p s c) ++ spaced (quoted i.label) ++ spaced (quoted i.value)
    ++ sign_if (is_chosen_in many c.value i))

-- those of a select
abbrev pub item_lines : Profile → State → Copy → Sort → List ℕ
item_lines p s c (select many is_free) = flat_map (item_line p s c many) c.items
item_lines p s c sort = []

-- the line of a copy, and those of its items
abbrev pub copy_lines : Profile → State → Copy → List ℕ
copy_lines p s c =
    line_of (codes "control " ++ name_of s c.element ++ spaced (rows_text p s c) ++ spaced (marks_text (marks_of c)) ++ value_part c.value)
    ++ item_lines p s c (element_at (interface s) c.element).sort

-- repeats and cases have lines of their own
abbrev pub has_line : Sort → Bool
has_line (repeated k start) = false
has_line (one_case is_selected) = false
has_line sort = true

-- ---- the state

-- instances, repeats, switches, controls
abbrev pub state_text : Profile → State → List ℕ
state_text p s =
    flat_map (instance_lines s) (counted_from 0 (length (instances_in s)))
    ++ flat_map (repeat_line p s) (interface s).repeats
    ++ flat_map (switch_line s) (zip (interface s).switches s.cases)
    ++ flat_map (copy_lines p s) (filter (λ c. has_line (element_at (interface s) c.element).sort) s.controls)
    ++ codes "end\n"
