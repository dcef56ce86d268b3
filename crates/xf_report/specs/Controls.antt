-- The lines of repeats, switches and copies of controls, by what they are made of.
use Rattle.std.specs.Prelude.{ℕ, ◌≡◌, Bool, true, false, not, ◌&&◌, List, [], ◌∷◌, ◌++◌, length, codes, decimal, get_or, Option, Some, None, option_map, unwrap_or, bytes_eq, if◌then◌else◌}
use Rattle.std.specs.List.{flat_map}
use Rattle.xf_num.specs.Written.{is_space, is_empty}
use Rattle.xf_def_ui.specs.declared.answers.Item.{Item}
use Rattle.xf_def_ui.specs.Interface.{Interface, Sort, select}
use Rattle.xf_def_ui.specs.Elements.{element_at, repeats_around}
use Rattle.xf_def_ui.specs.Index.{index_of, rows_now}
use Rattle.xf_def_ui.specs.Cases.{cases_of}
use Rattle.xf_def_ui.specs.declared.marks.Marks.{Marks}
use Rattle.xf_def_ui.specs.Copies.{Copy}
use Rattle.xf_def_machine.specs.Profile.{Profile}
use Rattle.xf_def_machine.specs.State.{State}
use Rattle.xf_def_machine.specs.Surround.{interface, quiet}
use Rattle.xf_def_machine.specs.NoteLines.{quoted}
use Rattle.xf_def_machine.specs.StateText.{spaced, line_of, marks_text}
use Rattle.xf_def_machine.specs.ControlText.{joined, row_numbers, marks_of, value_part, sign_if, is_chosen_in}
use Rattle.xf_report.specs.declared.control.ShownCopy.{ShownCopy}
use Rattle.xf_report.specs.Named.{name_in}

-- ---- repeats and switches

abbrev pub repeat_text : Interface → ℕ → ℕ → ℕ → List ℕ
repeat_text f r index rows = line_of (codes "repeat " ++ name_in f r ++ spaced (decimal index) ++ spaced (decimal rows))

-- the index of a repeat in a state, and how many rows it has
pub record IsRepeat (p : Profile) (s : State) (f : Interface) (r index rows : ℕ) : Type 0 where
  pub form : interface s ≡ f
  pub place : (index_of (interface s) s.indexes r).index ≡ index
  pub count : length (unwrap_or (rows_now (interface s) (quiet p s) s.indexes r) []) ≡ rows

abbrev pub switch_text : Interface → ℕ → ℕ → List ℕ
switch_text f switch one = line_of (codes "case " ++ name_in f switch ++ spaced (name_in f one))

-- ---- copies

pub record Seen : Type 0 where
  pub element : ℕ
  pub rows : List ℕ
  pub marks : Marks
  pub value : Option (List ℕ)
  pub items : List Item

abbrev pub seen_copy : ShownCopy → Seen
seen_copy c = record { element = c.element; rows = c.rows.now; marks = c.marks; value = option_map (λ v. v.now) c.value; items = c.items.now }

-- a copy of a state, with the numbers of its rows
pub record IsCopy (p : Profile) (s : State) (f : Interface) (c : Copy) (x : Seen) : Type 0 where
  pub form : interface s ≡ f
  pub element : c.element ≡ x.element
  pub rows : row_numbers p s [] (repeats_around (interface s) c.element) c.rows ≡ x.rows
  pub marks : marks_of c ≡ x.marks
  pub value : c.value ≡ x.value
  pub items : c.items ≡ x.items

abbrev pub behind_comma : ℕ → List ℕ
behind_comma k = codes "," ++ decimal k

abbrev pub rows_in : List ℕ → List ℕ
rows_in rows = spaced (codes "[" ++ joined rows ++ codes "]")

-- a part between white space is this word
abbrev pub is_word : List ℕ → List ℕ → Bool
is_word word part = not (is_empty part) && bytes_eq word part

-- the parts of a text between white space, of which the first has begun with this
abbrev pub parts_after : List ℕ → List ℕ → List (List ℕ)
parts_after part [] = part ∷ []
parts_after part (c ∷ cs) = if is_space c then part ∷ parts_after [] cs else parts_after (part ++ c ∷ []) cs

abbrev pub many_in : Sort → Option Bool
many_in (select many is_free) = Some many
many_in sort = None

-- with the name and the rows of the select
abbrev pub item_text : List ℕ → Bool → Option (List ℕ) → Item → List ℕ
item_text name many value i = line_of (codes "item " ++ name ++ spaced (quoted i.label) ++ spaced (quoted i.value) ++ sign_if (is_chosen_in many value i))

abbrev pub item_texts : List ℕ → Option Bool → Option (List ℕ) → List Item → List ℕ
item_texts name None value items = []
item_texts name (Some many) value items = flat_map (item_text name many value) items

abbrev pub control_line : List ℕ → Marks → Option (List ℕ) → List ℕ
control_line name marks value = line_of (codes "control " ++ name ++ spaced (marks_text marks) ++ value_part value)

abbrev pub copy_text : Interface → Seen → List ℕ
copy_text f x =
    let name = name_in f x.element ++ rows_in x.rows in
    control_line name x.marks x.value ++ item_texts name (many_in (element_at f x.element).sort) x.value x.items
