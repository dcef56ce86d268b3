-- How a form is constructed (XForms 1.1, section 4.2.1), and what a reset puts back (section 4.3.7): the data as construction left them.
use Rattle.std.specs.Prelude.{ℕ, List, [], map, filter, length, Option, Some, None, Result, Ok, Err, ◌==◌}
use Rattle.xf_def_syntax.specs.Ordered.{numbered_from}
use Rattle.xf_def_forest.specs.declared.content.Content.{Content}
use Rattle.xf_def_forest.specs.Forest.{Forest, empty, tree_of}
use Rattle.xf_def_forest.specs.Planted.{with_tree}
use Rattle.xf_def_forest.specs.Changes.{with_root, standing, contents_in}
use Rattle.xf_def_ui.specs.Cases.{first_cases}
use Rattle.xf_def_ui.specs.Started.{started}
use Rattle.xf_def_machine.specs.Program.{Program}
use Rattle.xf_def_machine.specs.Profile.{Profile}
use Rattle.xf_def_machine.specs.State.{State}
use Rattle.xf_def_machine.specs.Refusal.{Refused, or_long}
use Rattle.xf_def_machine.specs.Flow.{Run, ◌>>=◌, where_some, in_turn}
use Rattle.xf_def_machine.specs.Surround.{interface, instances_in, document_at, quiet}
use Rattle.xf_def_machine.specs.Primitives.{grown, with_forest, with_indexes, plant, attach, detach}
use Rattle.xf_def_machine.specs.Cycles.{counted_from}
use Rattle.xf_def_machine.specs.Behave.{no_model, rebuild, recalculate, revalidate}
use Rattle.xf_def_machine.specs.Update.{reindex, shown}

-- ---- construction

-- before anything is planted, with a whole budget
abbrev pub unbuilt : Profile → Program → State
unbuilt p form = record {
  form = form;
  forest = empty;
  indexes = [];
  cases = [];
  models = map (λ m. no_model) form.model_elements;
  controls = [];
  accepted = 0;
  notes = [];
  turns = p.turns;
  made = 0;
  evaluated = 0;
  calls = [];
}

-- with a root over the tree that was planted
abbrev pub rooted : Result ((ℕ × Forest) × State) Refused → Result State Refused
rooted (Err refusal) = Err refusal
rooted (Ok ((top, forest), s)) = Ok (with_forest (with_root top forest).1 s)

-- an instance: its tree under a root of its own
abbrev pub plant_document : Profile → List (ℕ × Content) → Run
plant_document p contents s = rooted (grown p (length contents) (with_tree p.bounds.limits contents s.forest) s)

-- a model is rebuilt, recalculated and revalidated
abbrev pub build_model : Profile → ℕ → Run
build_model p model s = rebuild p model s >>= recalculate p model >>= λ t. Ok (revalidate p model t)

-- the indexes start in document order, and are brought up to date
abbrev pub start_indexes : Profile → Run
start_indexes p s = or_long s (started (interface s) (quiet p s)) >>= λ indexes. reindex p [] (with_indexes indexes s)

-- the first list of the controls, of which nothing is told
abbrev pub first_shown : Profile → Run
first_shown p s = shown p s >>= λ list. Ok (record s { controls = list })

-- every instance, then model by model, then the indexes, then the controls
abbrev pub construct : Profile → Program → Result State Refused
construct p form =
    in_turn (plant_document p) form.documents (unbuilt p form)
    >>= λ s. in_turn (build_model p) (counted_from 0 (length s.models)) s
    >>= λ t. start_indexes p (record t { cases = first_cases (interface t) })
    >>= first_shown p

-- ---- a tree in place of another

-- at its parent and place a tree is planted anew, and the node that stood there is cut off
abbrev pub replace_at : Profile → ℕ → List (ℕ × Content) → ℕ × ℕ → Run
replace_at p n contents (parent, place) s = plant p contents s >>= λ made. attach p made.0 parent place (detach n made.1)

-- a tree in place of a node, where that has a place
abbrev pub replace : Profile → ℕ → List (ℕ × Content) → Run
replace p n contents s = where_some (standing n s.forest.nodes) (replace_at p n contents) s

-- ---- reset

-- the contents of the tree under a node: none where there is no node
abbrev pub contents_under : State → Option ℕ → List (ℕ × Content)
contents_under s None = []
contents_under s (Some n) = contents_in (tree_of n s.forest.nodes)

-- the document element of an instance as construction left it
abbrev pub first_contents : Result State Refused → ℕ → List (ℕ × Content)
first_contents (Err refusal) place = []
first_contents (Ok first) place = contents_under first (document_at first place)

-- the first document element in place of that of now
abbrev pub put_back : Profile → Result State Refused → ℕ → Run
put_back p first place s = where_some (document_at s place) (λ n. replace p n (first_contents first place)) s

-- the instances of a model, by their places
abbrev pub instances_of : State → ℕ → List ℕ
instances_of s model = map (λ i. i.0) (filter (λ i. i.1.model == model) (numbered_from 0 (instances_in s)))

-- the data of the model, as new nodes; then the indexes are brought up to date
abbrev pub reset : Profile → ℕ → Run
reset p model s = in_turn (put_back p (construct p s.form)) (instances_of s model) s >>= reindex p []
