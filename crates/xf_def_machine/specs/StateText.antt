-- The text of a state: the nodes of each instance, the repeats, the switches, and the copies of controls with their items.
use Rattle.std.specs.Prelude.{ℕ, suc, Bool, true, false, not, List, [], ◌∷◌, ◌++◌, filter, length, take, count_by, codes, decimal, Option, Some, None, unwrap_or, get_or, ◌==◌, if◌then◌else◌}
use Rattle.std.specs.List.{flat_map}
use Rattle.xf_name.specs.Part.{is_part}
use Rattle.xf_def_forest.specs.declared.content.Content.{Content}
use Rattle.xf_def_forest.specs.declared.content.Content.TheVariants.{Root, Text}
use Rattle.xf_def_forest.specs.Visit.{Visit, first_of}
use Rattle.xf_def_forest.specs.Shape.{has_elements}
use Rattle.xf_def_forest.specs.StringValue.{string_value}
use Rattle.xf_def_ui.specs.Elements.{element_at, is_control}
use Rattle.xf_def_ui.specs.Index.{index_of, rows_now}
use Rattle.xf_def_ui.specs.Cases.{cases_of}
use Rattle.xf_def_ui.specs.declared.marks.Marks.{Marks}
use Rattle.xf_def_machine.specs.Profile.{Profile}
use Rattle.xf_def_machine.specs.State.{State}
use Rattle.xf_def_machine.specs.Surround.{interface, instance_holding, all_in, quiet}
use Rattle.xf_def_machine.specs.Properties.{marks_in, path_in, pair_at, pair_text}
use Rattle.xf_def_machine.specs.NoteLines.{quoted}

-- behind a blank
abbrev pub spaced : List ℕ → List ℕ
spaced text = codes " " ++ text

-- with its line feed
abbrev pub line_of : List ℕ → List ℕ
line_of text = text ++ codes "\n"

-- ---- nodes

-- the letter of a mark that holds, else `-`
abbrev pub mark_if : Bool → List ℕ → List ℕ
mark_if true mark = mark
mark_if false mark = codes "-"

-- relevant, not readonly, required, valid
abbrev pub marks_text : Marks → List ℕ
marks_text m = mark_if m.relevant (codes "e") ++ mark_if (not m.readonly) (codes "w") ++ mark_if m.required (codes "r") ++ mark_if m.valid (codes "v")

-- the string value of an attribute, or of an element without element children
abbrev pub own_value : State → ℕ → List ℕ
own_value s n = if has_elements (all_in s) n then [] else spaced (quoted (string_value n (all_in s)))

-- there is a node, and it has element children
abbrev pub has_elements_in : State → Option ℕ → Bool
has_elements_in s None = false
has_elements_in s (Some n) = has_elements (all_in s) n

-- a text has a line beside elements alone
abbrev pub text_line : State → Visit → List ℕ → List ℕ
text_line s x text = if has_elements_in s (first_of x.above) then line_of (path_in s x.number ++ spaced (quoted text)) else []

-- by what the node is: a root has none
abbrev pub node_line_by : State → Visit → Content → List ℕ
node_line_by s x Root = []
node_line_by s x (Text text) = text_line s x text
node_line_by s x content = line_of (path_in s x.number ++ spaced (marks_text (marks_in s x.number)) ++ own_value s x.number)

-- there is an instance, and it is the one at this place
abbrev pub is_place : ℕ → Option ℕ → Bool
is_place place None = false
is_place place (Some other) = place == other

-- those of the nodes of an instance
abbrev pub node_lines : State → ℕ → List ℕ
node_lines s place = flat_map (λ x. node_line_by s x x.content) (filter (λ x. is_place place (instance_holding s x.number)) (all_in s))

-- the line of an instance, and those of its nodes
abbrev pub instance_lines : State → ℕ → List ℕ
instance_lines s place = line_of (codes "instance " ++ pair_text (pair_at s place)) ++ node_lines s place

-- ---- ids

-- an id that is a part of a name is printed as it is, any other as a string, so that none looks like a field
abbrev pub id_text : List ℕ → List ℕ
id_text id = if is_part id then id else quoted id

-- without an id the number among the controls and containers, from 1
abbrev pub control_number : State → ℕ → ℕ
control_number s n = suc (count_by (λ e. is_control e.sort) (take n (interface s).elements))

-- by the id
abbrev pub name_by : State → ℕ → List ℕ → List ℕ
name_by s n [] = codes "#" ++ decimal (control_number s n)
name_by s n (b ∷ bs) = id_text (b ∷ bs)

-- how an element is named
abbrev pub name_of : State → ℕ → List ℕ
name_of s n = name_by s n (element_at (interface s) n).id

-- ---- repeats and switches

-- the index and the number of rows
abbrev pub repeat_line : Profile → State → ℕ → List ℕ
repeat_line p s r = line_of (codes "repeat " ++ name_of s r ++ spaced (decimal (index_of (interface s) s.indexes r).index)
    ++ spaced (decimal (length (unwrap_or (rows_now (interface s) (quiet p s) s.indexes r) []))))

-- the selected case
abbrev pub switch_line : State → ℕ × ℕ → List ℕ
switch_line s (switch, place) =
    line_of (codes "case " ++ name_of s switch ++ spaced (name_of s (get_or (cases_of (interface s) switch) place 0)))
