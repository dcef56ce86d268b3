-- The changes of one part of the state that all others are made of. What is changed in an instance is marked, and flags its model; a detached
-- tree belongs to no model, so that there nothing is marked and nothing flagged.
use Rattle.std.specs.Prelude.{ℕ, zero, suc, ◌+◌, Bool, true, false, not, ◌||◌, List, [], ◌∷◌, ◌++◌, length, Option, Some, None, Result, Ok, Err, nat_lt, bytes_eq, slice_set}
use Rattle.xf_def_forest.specs.declared.content.Content.{Content}
use Rattle.xf_def_forest.specs.declared.fault.TreeFault.{TreeFault}
use Rattle.xf_def_forest.specs.Forest.{Forest, tree_of}
use Rattle.xf_def_forest.specs.Limits.{passed_by_text, unless}
use Rattle.xf_def_forest.specs.StringValue.{string_value}
use Rattle.xf_def_forest.specs.Visit.{children_of, parent_of}
use Rattle.xf_def_forest.specs.Changes.{copied, detached, attached}
use Rattle.xf_def_forest.specs.Texts.{with_text, new_texts}
use Rattle.xf_def_forest.specs.Planted.{with_tree}
use Rattle.xf_def_ui.specs.Index.{Index}
use Rattle.xf_def_machine.specs.declared.limit.LimitWord.{LimitWord}
use Rattle.xf_def_machine.specs.declared.limit.LimitWord.TheVariants.{Made, Notes}
use Rattle.xf_def_machine.specs.declared.note.Note.{Note}
use Rattle.xf_def_machine.specs.Profile.{Profile}
use Rattle.xf_def_machine.specs.State.{Model, State}
use Rattle.xf_def_machine.specs.Refusal.{Refused, limit, budget, words_of, refused, unless_passed, if_over}
use Rattle.xf_def_machine.specs.Flow.{Run}
use Rattle.xf_def_machine.specs.Surround.{all_in, model_holding}
use Rattle.xf_def_machine.specs.NoteLines.{notes_size}

-- ---- turns

-- where a turn is left
abbrev pub spent_from : ℕ → Run
spent_from zero s = refused budget s
spent_from (suc left) s = Ok (record s { turns = left })

-- one turn is spent
abbrev pub spend : Run
spend s = spent_from s.turns s

-- ---- flags and marks of models

-- one element of a list is changed
abbrev pub changed_at : ℕ → (Model → Model) → List Model → List Model
changed_at at change [] = []
changed_at zero change (m ∷ ms) = change m ∷ ms
changed_at (suc at) change (m ∷ ms) = m ∷ changed_at at change ms

-- one model is changed
abbrev pub in_model : (Model → Model) → ℕ → State → State
in_model change model s = record s { models = changed_at model change s.models }

-- a model is changed, where there is one
abbrev pub in_some_model : (Model → Model) → Option ℕ → State → State
in_some_model change None s = s
in_some_model change (Some model) s = in_model change model s

-- all four behaviours are due, all but the rebuild, or the refresh alone
abbrev pub all_due : Model → Model
all_due m = record m { flags = record { rebuild = true; recalculate = true; revalidate = true; refresh = true } }

-- all but the rebuild are due
abbrev pub texts_due : Model → Model
texts_due m = record m { flags = record m.flags { recalculate = true; revalidate = true; refresh = true } }

-- the refresh alone is due
abbrev pub refresh_due : Model → Model
refresh_due m = record m { flags = record m.flags { refresh = true } }

-- a node has another text
abbrev pub with_text_mark : ℕ → Model → Model
with_text_mark n m = record m { texts = m.texts ++ n ∷ [] }

-- a node's list is another one
abbrev pub with_list_mark : ℕ → Model → Model
with_list_mark n m = record m { lists = m.lists ++ n ∷ [] }

-- a node came to the list of this parent, or went
abbrev pub list_changed : Option ℕ → State → State
list_changed None s = s
list_changed (Some parent) s = in_some_model (λ m. all_due (with_list_mark parent m)) (model_holding s parent) s

-- ---- the forest

-- more nodes were made than may be
abbrev pub over_made : Profile → ℕ → List LimitWord
over_made p made = if_over (nat_lt p.made made) Made

-- with other data
abbrev pub with_forest : Forest → State → State
with_forest forest s = record s { forest = forest }

-- a change that makes so many nodes, unless a limit is passed
abbrev pub grown : {X : Type 0} → Profile → ℕ → Result X TreeFault → State → Result (X × State) Refused
grown p count (Err fault) s = refused (limit (words_of fault ++ over_made p (s.made + count))) s
grown p count (Ok x) s = unless_passed s (over_made p (s.made + count)) (x, record s { made = s.made + count })

-- the data that a change left
abbrev pub grown_to : Result (Forest × State) Refused → Result State Refused
grown_to (Err refusal) = Err refusal
grown_to (Ok (forest, s)) = Ok (with_forest forest s)

-- the data that a copy or a planting left, and the top of the tree that came
abbrev pub grown_by : Result ((ℕ × Forest) × State) Refused → Result (ℕ × State) Refused
grown_by (Err refusal) = Err refusal
grown_by (Ok ((top, forest), s)) = Ok (top, with_forest forest s)

-- it has another text, or had several
abbrev pub is_other_text : State → ℕ → List ℕ → Bool
is_other_text s n text = not (bytes_eq (string_value n (all_in s)) text) || nat_lt 1 (length (children_of n (all_in s)))

-- a change, where the text is another one
abbrev pub if_other : Bool → (Model → Model) → Model → Model
if_other true change m = change m
if_other false change m = m

-- the text of an attribute, or the whole content of an element (XForms 1.1, section 10.2): where it is the text that stands, nothing is marked
abbrev pub set_text : Profile → ℕ → List ℕ → Run
set_text p n text s =
    let after = with_text n text s.forest in
    let marked = in_some_model (λ m. texts_due (if_other (is_other_text s n text) (with_text_mark n) m)) (model_holding s n) s in
    grown_to (grown p (length (new_texts n text s.forest)) (unless (passed_by_text p.bounds.limits (length text) after.nodes) after) marked)

-- a copy of a tree comes as a detached one; the number is that of its top
abbrev pub copy : Profile → ℕ → State → Result (ℕ × State) Refused
copy p n s = grown_by (grown p (length (tree_of n s.forest.nodes)) (copied p.bounds.limits n s.forest) s)

-- so does a tree that was made elsewhere
abbrev pub plant : Profile → List (ℕ × Content) → State → Result (ℕ × State) Refused
plant p contents s = grown_by (grown p (length contents) (with_tree p.bounds.limits contents s.forest) s)

-- a detached tree comes below a parent, whose list is another one then
abbrev pub attach : Profile → ℕ → ℕ → ℕ → Run
attach p n parent place s = grown_to (grown p 0 (attached p.bounds.limits n parent place s.forest) (list_changed (Some parent) s))

-- a tree is cut off its parent, whose list is another one then
abbrev pub detach : ℕ → State → State
detach n s = with_forest (detached n s.forest) (list_changed (parent_of n (all_in s)) s)

-- ---- indexes, cases, notes, calls

-- with other indexes
abbrev pub with_indexes : List Index → State → State
with_indexes indexes s = record s { indexes = indexes }

-- another case of a switch is selected
abbrev pub set_case : ℕ → ℕ → State → State
set_case switch place s = record s { cases = slice_set s.cases switch place }

-- a note more, unless the lines of all are too long
abbrev pub add_note : Profile → Note → Run
add_note p note s =
    let notes = s.notes ++ note ∷ [] in unless_passed s (if_over (nat_lt p.notes (notes_size notes)) Notes) (record s { notes = notes })
