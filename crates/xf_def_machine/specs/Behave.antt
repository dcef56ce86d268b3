-- The behaviours of a model (XForms 1.1, sections 4.3.1 to 4.3.4), each over the whole of its data, and each clearing its own flag.
use Rattle.std.specs.Prelude.{ℕ, suc, ◌+◌, Bool, false, not, ◌&&◌, List, [], ◌∷◌, ◌++◌, map, filter, length, sum_by, Option, Some, None, option_map, Result, Ok, Err, get_or, nat_lt, ◌==◌}
use Rattle.xf_def_forest.specs.declared.content.Node.{Node}
use Rattle.xf_def_forest.specs.Visit.{Visit, visits}
use Rattle.xf_def_forest.specs.Shape.{shape, shape_of}
use Rattle.xf_def_forest.specs.Settle.{reserved, with_settled_text}
use Rattle.xf_def_xpath.specs.declared.value.Value.TheVariants.{Truth}
use Rattle.xf_def_xpath.specs.Conversions.{truth_of}
use Rattle.xf_def_model.specs.Applied.{Entry, Exception, twice, on_parent, applied}
use Rattle.xf_def_model.specs.Entries.{edge_count}
use Rattle.xf_def_model.specs.Circular.{Reader, calculated, dependents, nodes_at}
use Rattle.xf_def_model.specs.Settled.{Contents, Valued, calculates, settled_contents, values_over, passed}
use Rattle.xf_def_model.specs.Pertinent.{Changes, pertinent_count}
use Rattle.xf_def_model.specs.Properties.{is_valid}
use Rattle.xf_def_machine.specs.declared.limit.LimitWord.TheVariants.{Edges}
use Rattle.xf_def_machine.specs.Profile.{Profile}
use Rattle.xf_def_machine.specs.State.{Flags, Model, State}
use Rattle.xf_def_machine.specs.Refusal as refusal
use Rattle.xf_def_machine.specs.Refusal.{Refusal, Refused, circular, word_of, refused, unless_passed, if_over}
use Rattle.xf_def_machine.specs.Flow.{Run, ◌>>=◌}
use Rattle.xf_def_machine.specs.Surround.{bind_scope, all_in, model_holding}
use Rattle.xf_def_machine.specs.Primitives.{in_model, over_made}
use Rattle.xf_def_machine.specs.Properties.{values_of, path_in}
use Rattle.xf_def_machine.specs.Cycles.{reported_cycle}

-- nothing is due
abbrev pub no_flags : Flags
no_flags = record { rebuild = false; recalculate = false; revalidate = false; refresh = false }

-- before anything was computed
abbrev pub no_model : Model
no_model = record { entries = []; asked = 0; stood = []; invalid = []; flags = no_flags; texts = []; lists = [] }

-- what the model with this number keeps
abbrev pub model_at : State → ℕ → Model
model_at s model = get_or s.models model no_model

-- ---- rebuild

-- an exception of binds, told by the path of its node
abbrev pub refusal_of : State → Exception → Refusal
refusal_of s (twice n) = refusal.twice (path_in s n)
refusal_of s (on_parent n) = refusal.on_parent (path_in s n)

-- what all entries read and look at, each model's as its last rebuild gave them
abbrev pub asked_by_all : State → ℕ
asked_by_all s = sum_by (λ m. m.asked) s.models

-- unless all entries together read and look at more than may be
abbrev pub within_edges : Profile → Run
within_edges p after = unless_passed after (if_over (nat_lt p.edges (asked_by_all after)) Edges) after

-- what a model keeps after its rebuild
abbrev pub rebuilt_with : List Entry → ℕ → Model → Model
rebuilt_with entries asked m = record m { entries = entries; asked = asked; flags = record m.flags { rebuild = false } }

-- where a cycle is reported, it is told by the paths of its nodes
abbrev pub unless_cycle : State → List Reader → Option (List ℕ) → Run
unless_cycle before readers None s = Ok s
unless_cycle before readers (Some places) s = refused (circular (map (path_in before) (nodes_at readers places))) s

-- unless the calculates of these entries stand in a cycle
abbrev pub no_cycle : Profile → ℕ → List Entry → Run
no_cycle p model entries s =
    let readers = calculated (bind_scope p s model) (shape_of s.forest.nodes) entries in
    unless_cycle s readers (reported_cycle (dependents (shape_of s.forest.nodes) readers)) s

-- by what the binds set, or their first exception
abbrev pub by_applied : Profile → ℕ → Result (List Entry) Exception → Run
by_applied p model (Err x) s = refused (refusal_of s x) s
by_applied p model (Ok entries) s =
    within_edges p (in_model (rebuilt_with entries (edge_count (bind_scope p s model) (shape_of s.forest.nodes) entries)) model s)
    >>= no_cycle p model entries

-- the binds are applied: first exceptions, then the limit, then cycles
abbrev pub rebuild : Profile → ℕ → Run
rebuild p model s = by_applied p model (applied (bind_scope p s model) s.forest.nodes) s

-- ---- recalculate

-- what changed since the last recalculation of a model
abbrev pub changes_of : Model → Changes
changes_of m = record { texts = m.texts; lists = m.lists; stood = map (λ v. v.entry) m.stood }

-- nodes take these contents: a text that comes in has its content's place among the numbers from this one on, and one that stands stays
abbrev pub with_contents : ℕ → Contents → List Node → List Node
with_contents number [] nodes = nodes
with_contents number ((n, text) ∷ contents) nodes = with_contents (suc number) contents (with_settled_text number n text nodes)

-- of a value its truth is kept; that of a calculate is the text of its node
abbrev pub truly : Valued → Valued
truly v = record v { value = option_map (λ value. Truth (truth_of value)) v.value }

-- what a model keeps after its recalculation
abbrev pub recalculated_with : List Valued → Model → Model
recalculated_with values m = record m { stood = map truly values; texts = []; lists = []; flags = record m.flags { recalculate = false } }

-- the data with settled contents, and the values over them
abbrev pub settled_in : Profile → ℕ → List Entry → Contents → State → State
settled_in p model entries contents s =
    let forest = record (reserved (length contents) s.forest) { nodes = with_contents s.forest.next contents s.forest.nodes } in
    in_model (recalculated_with (values_over p.bounds (bind_scope p s model) entries (visits forest.nodes))) model (record s { forest = forest })

-- so many nodes more are made, and so many evaluations more counted
abbrev pub evaluated_more : ℕ → ℕ → State → State
evaluated_more made count s = record s { made = s.made + made; evaluated = s.evaluated + count }

-- each calculated node takes its settled text; for each a number is reserved and a node counts as made, whether a text comes in or not; what
-- the changes since the last recalculation concern is counted
abbrev pub recalculate : Profile → ℕ → Run
recalculate p model s =
    let m = model_at s model in
    let made = length (calculates m.entries) in
    let count = pertinent_count (bind_scope p s model) (shape (all_in s)) m.entries (changes_of m) in
    unless_passed s (map word_of (passed p.bounds (bind_scope p s model) m.entries (all_in s)) ++ over_made p (s.made + made)) s
    >>= λ t. Ok (evaluated_more made count (settled_in p model m.entries (settled_contents p.bounds (bind_scope p s model) m.entries (all_in s)) t))

-- ---- revalidate

-- there is a model, and it is this one
abbrev pub is_model : ℕ → Option ℕ → Bool
is_model model None = false
is_model model (Some other) = model == other

-- the node stands in an instance of the model, and is not valid
abbrev pub is_invalid : Profile → ℕ → State → Visit → Bool
is_invalid p model s x =
    let m = model_at s model in
    is_model model (model_holding s x.number) && not (is_valid (p.meets s.form.types) (bind_scope p s model) (all_in s) m.entries (values_of m) x.number)

-- what a model keeps after its revalidation
abbrev pub revalidated_with : List ℕ → Model → Model
revalidated_with ns m = record m { invalid = ns; flags = record m.flags { revalidate = false } }

-- the nodes of the model's instances that are not valid
abbrev pub revalidate : Profile → ℕ → State → State
revalidate p model s = in_model (revalidated_with (map (λ x. x.number) (filter (is_invalid p model s) (all_in s)))) model s
