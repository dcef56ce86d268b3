-- What changes in a detached tree, and what a text that a submission replaces does to the indexes.
use Rattle.std.proofs.Common.{◌≡◌, ℕ, false, List, [], ◌∷◌, map, Option, Some, None, refl, codes}
use Rattle.std.specs.Fmt.{digits}
use Rattle.std.specs.Prelude.{Result, Ok, Err}
use Rattle.json.specs.Print.{escape_byte}
use Rattle.xf_num.specs.Number.{scale}
use Rattle.xf_name.specs.declared.axis.Axis.TheVariants as axis
use Rattle.xf_def_syntax.specs.declared.expr.Operator.TheVariants as operator
use Rattle.xf_def_forest.specs.declared.content.Content.TheVariants as content
use Rattle.xf_def_forest.specs.Examples.{plain}
use Rattle.xf_def_xpath.specs.Examples.{simple, step, child, up, here, path, two}
use Rattle.xf_def_xpath.specs.Setting.{Meaning}
use Rattle.xf_line.specs.declared.event.Event.TheVariants.{Activate}
use Rattle.xf_def_model.specs.Examples as bind
use Rattle.xf_def_model.specs.Rules.{Rule}
use Rattle.xf_def_ui.specs.Interface as sort
use Rattle.xf_def_machine.specs.declared.note.Note.{Note}
use Rattle.xf_def_machine.specs.declared.note.Note.TheVariants.{Message}
use Rattle.xf_def_machine.specs.Program.{Program, Work}
use Rattle.xf_def_machine.specs.Program as role
use Rattle.xf_def_machine.specs.Refusal.{Refused, binding}
use Rattle.xf_def_machine.specs.Flow.{Run, ◌>>=◌}
use Rattle.xf_def_machine.specs.Primitives.{set_text}
use Rattle.xf_def_machine.specs.State.{State}
use Rattle.xf_def_machine.specs.Submit.{put_text}
use Rattle.xf_def_machine.specs.Update.{reindex}
use Rattle.xf_def_machine.specs.Step.{Outcome}
use Rattle.xf_def_machine.specs.Start.{start}
use Rattle.xf_def_machine.specs.Examples
use Rattle.xf_def_machine.specs.Examples.{Part, Tree, profile, element, bound, named, saying, model, instance, on, inner, index_of, event_of, itself, to, element_at, text_at}
use Rattle.xf_def_machine.specs.ExampleOutcomes.{seen, given_out, why, then}

abbrev notes : Outcome → Option (List Note)
notes = given_out (λ g. g.notes)

-- ---- ["d",["z",["y"]],["sel","1"],["r","1"],["r","1"],["r","2"]]: z is deleted, and what hears of it changes z

abbrev tree : Tree
tree =
    element_at 0 (codes "d") ∷ element_at 1 (codes "z") ∷ element_at 2 (codes "y")
    ∷ element_at 1 (codes "sel") ∷ text_at 2 (codes "1")
    ∷ element_at 1 (codes "r") ∷ text_at 2 (codes "1") ∷ element_at 1 (codes "r") ∷ text_at 2 (codes "1") ∷ element_at 1 (codes "r") ∷ text_at 2 (codes "2") ∷ []

-- r[. = ../sel], which is at its second row at first
abbrev chosen : Meaning
chosen = (path (step axis.Child (simple (codes "r")) (two (path (here false ∷ [])) operator.Equal (path (up false ∷ child (codes "sel") ∷ [])) ∷ []) ∷ [])).meaning

abbrev the_deleted : Meaning
the_deleted = event_of (codes "deleted-nodes")

-- the model does on a delete: sel becomes 2, then this, then a message of index('r'); and it adds a note on an insert
abbrev changing : Part → Program
changing part = Examples.form
    (element None (1 ∷ 9 ∷ 10 ∷ []) sort.host role.other
    ∷ model (2 ∷ 3 ∷ 8 ∷ [])
    ∷ instance
    ∷ on (codes "xforms-delete") 1 (4 ∷ 5 ∷ 6 ∷ []) role.all_in_it
    ∷ saying (codes "2") (bound (to (codes "sel")) (inner 3 (role.set_value None)))
    ∷ part
    ∷ element (Some 3) (7 ∷ []) (sort.action None) (Examples.doing role.message)
    ∷ element (Some 6) [] (sort.inline (Some (index_of (codes "r")))) role.other
    ∷ saying (codes "inserted") (on (codes "xforms-insert") 1 [] role.message)
    ∷ named (codes "r") (bound chosen (element (Some 0) [] (sort.repeated 0 2) role.other))
    ∷ named (codes "x") (element (Some 0) (11 ∷ []) sort.field role.trigger)
    ∷ bound (to (codes "z")) (on (codes "DOMActivate") 10 [] (role.delete (record { context = None; at = None })))
    ∷ []) [] (9 ∷ []) [] tree

abbrev done : Part → Outcome
done part = then (start profile (changing part) []) (Activate (codes "x") [])

-- a copy of the context node comes into it
abbrev insert_into : Meaning → Part
insert_into context = inner 3 (role.insert (record { context = Some context; origin = Some itself; at = None; is_before = false }))

-- a text alone does not bring the indexes up to date: the repeat keeps 2 until the update
nothing_inserted : notes (done (inner 3 role.all_in_it)) ≡ Some (Message (codes "2") ∷ [])
unfolding escape_byte digits scale
nothing_inserted = refl

-- an insert does, and is told
inserted_in_the_instance : notes (done (insert_into (to (codes "r")))) ≡ Some (Message (codes "inserted") ∷ Message (codes "1") ∷ [])
unfolding escape_byte digits scale
inserted_in_the_instance = refl

-- one into the detached tree does so too, and is not told
inserted_in_a_detached_tree : notes (done (insert_into the_deleted)) ≡ Some (Message (codes "1") ∷ [])
unfolding escape_byte digits scale
inserted_in_a_detached_tree = refl

-- a binding exception there is told by the path from the top of the tree
the_path_in_a_detached_tree : why (done (bound the_deleted (inner 3 (role.set_value None)))) ≡ Some (binding (codes "/z"))
unfolding escape_byte digits scale
the_path_in_a_detached_tree = refl

-- ---- a text that a submission replaces: ["d",["sel","1"],["r",{"k":""}],["r",{"k":""}]], where each k takes the text of sel

abbrev keyed : Tree
keyed =
    element_at 0 (codes "d") ∷ element_at 1 (codes "sel") ∷ text_at 2 (codes "1")
    ∷ element_at 1 (codes "r") ∷ (2, content.Attribute (plain (codes "k")) []) ∷ element_at 1 (codes "r") ∷ (2, content.Attribute (plain (codes "k")) []) ∷ []

abbrev each_k : Rule
each_k = bind.calculate (path (up false ∷ up false ∷ child (codes "sel") ∷ [])) (bind.bind (path (child (codes "r") ∷ bind.at (codes "k") ∷ [])))

-- r[@k = ../sel], at its second row
abbrev by_key : Program
by_key = Examples.form
    (element None (1 ∷ 3 ∷ []) sort.host role.other ∷ model (2 ∷ []) ∷ instance
    ∷ bound (path (step axis.Child (simple (codes "r")) (two (path (bind.at (codes "k") ∷ [])) operator.Equal (path (up false ∷ child (codes "sel") ∷ [])) ∷ []) ∷ [])).meaning
    (element (Some 0) [] (sort.repeated 0 2) role.other) ∷ []) (each_k ∷ []) (3 ∷ []) [] keyed

abbrev indexes : Result State Refused → List ℕ
indexes (Err refusal) = []
indexes (Ok s) = map (λ i. i.index) s.indexes

abbrev left_by : Run → Option (List ℕ)
left_by run = seen (λ s. indexes (run s)) (start profile by_key [])

at_first : left_by (λ s. Ok s) ≡ Some (2 ∷ [])
at_first = refl

-- the text is set, all is computed anew, and only then are the indexes brought up to date
after_the_behaviours : left_by (put_text profile (λ e s. Ok s) (codes "2") 1) ≡ Some (2 ∷ [])
after_the_behaviours = refl

-- at once no row would stand
were_it_at_once : left_by (λ s. set_text profile 1 (codes "2") s >>= reindex profile []) ≡ Some (0 ∷ [])
were_it_at_once = refl

-- ---- what is left in the state: the index by then, and nothing of the detached tree

abbrev numbers : State → List ℕ
numbers s = map (λ x. x.number) s.forest.nodes

abbrev indexes_in : State → List ℕ
indexes_in s = map (λ i. i.index) s.indexes

the_tree_is_dropped : seen numbers (done (insert_into the_deleted)) ≡ Some (11 ∷ 0 ∷ 3 ∷ 12 ∷ 5 ∷ 6 ∷ 7 ∷ 8 ∷ 9 ∷ 10 ∷ [])
unfolding escape_byte digits scale
the_tree_is_dropped = refl

the_index_by_then : seen indexes_in (done (insert_into the_deleted)) ≡ Some (1 ∷ [])
unfolding escape_byte digits scale
the_index_by_then = refl

-- a delete there brings the indexes up to date as well, and is not told
deleted_in_a_detached_tree : notes (done (bound (path (child (codes "zz") ∷ [])).meaning (inner 3 (role.delete (record { context = Some the_deleted; at = None }))))) ≡ Some (Message (codes "2") ∷ [])
unfolding escape_byte digits scale
deleted_in_a_detached_tree = refl

abbrev delete_y : Part
delete_y = bound (path (child (codes "y") ∷ [])).meaning (inner 3 (role.delete (record { context = Some the_deleted; at = None })))

what_was_below_it : notes (done delete_y) ≡ Some (Message (codes "1") ∷ [])
unfolding escape_byte digits scale
what_was_below_it = refl

-- the top of a detached tree is deleted no second time
not_again : notes (done (bound the_deleted (inner 3 (role.delete (record { context = None; at = None }))))) ≡ Some (Message (codes "2") ∷ [])
unfolding escape_byte digits scale
not_again = refl
