-- A state at rest: nothing is due, nothing is marked, no tree is detached, the limits hold, and all that is kept is what would be made afresh.
-- These are conditions on the state alone, whatever way it was reached.
use Rattle.std.specs.Prelude.{ℕ, suc, ◌≡◌, Bool, true, false, ◌&&◌, List, [], ◌∷◌, map, filter, length, zip, is_none, Option, Some, None, option_and_then, Ok, nat_lt, nat_le, ◌==◌, if◌then◌else◌}
use Rattle.std.specs.List.{list_any, list_all, flat_map}
use Rattle.xf_name.specs.Bindings.{Bindings}
use Rattle.xf_def_forest.specs.declared.bare.Bare.TheVariants as bare
use Rattle.xf_def_forest.specs.declared.bare.BareElement.{BareElement}
use Rattle.xf_def_forest.specs.declared.content.Content.{Content}
use Rattle.xf_def_forest.specs.declared.content.Content.TheVariants.{Root, Attribute}
use Rattle.xf_def_forest.specs.declared.content.Node.{Node}
use Rattle.xf_def_forest.specs.Forest.{is_text, own_text, content_at}
use Rattle.xf_def_forest.specs.Visit.{Visit, is_first}
use Rattle.xf_def_forest.specs.Limits.{passed_by_all, has_long_text, is_too_deep}
use Rattle.xf_def_forest.specs.Changes.{in_instances}
use Rattle.xf_def_forest.specs.Shape.{shape_of, as_texts}
use Rattle.xf_def_forest.specs.Planted.{contents_of_bare, elements_of_bare, bare_fault, first_fault}
use Rattle.xf_def_forest.specs.WellFormed.{HasTrees}
use Rattle.xf_def_model.specs.Applied.{Entry, applied}
use Rattle.xf_def_model.specs.Circular.{graph_over}
use Rattle.xf_def_model.specs.Entries.{edge_count}
use Rattle.xf_def_model.specs.Settled.{calculates, content_by, values_over, passed}
use Rattle.xf_def_model.specs.Pertinent.{AllOf}
use Rattle.xf_def_ui.specs.Cases.{cases_of}
use Rattle.xf_def_ui.specs.Index.{Index, index_of, rows_now, place_in}
use Rattle.xf_def_machine.specs.Profile.{Profile}
use Rattle.xf_def_machine.specs.Program.{Program}
use Rattle.xf_def_machine.specs.State.{State}
use Rattle.xf_def_machine.specs.Data.{Data, data_of}
use Rattle.xf_def_machine.specs.Surround.{interface, instances_in, bind_scope, all_in, quiet}
use Rattle.xf_def_machine.specs.Cycles.{counted_from, reported_cycle}
use Rattle.xf_def_machine.specs.Behave.{model_at, asked_by_all, truly, is_invalid}
use Rattle.xf_def_machine.specs.Update.{is_due, shown}
use Rattle.xf_def_machine.specs.Step.{fresh}

-- ---- the data

-- a text node without any text
abbrev pub is_empty_text : Node → Bool
is_empty_text x = is_text x.content && (length (own_text x.content) == 0)

-- the texts that stand in a node: the one of an attribute, or those of the children of an element
abbrev pub text_below : ℕ → Visit → List (List ℕ)
text_below n x = if is_text x.content && is_first n x.above then own_text x.content ∷ [] else []

-- by what the node is
abbrev pub texts_by : State → ℕ → Option Content → List (List ℕ)
texts_by s n (Some (Attribute name text)) = as_texts text
texts_by s n content = flat_map (text_below n) (all_in s)

-- those of the node with this number
abbrev pub texts_at : State → ℕ → List (List ℕ)
texts_at s n = texts_by s n (content_at n s.forest.nodes)

-- the names of an element and of what is in it are the form's (Namespaces in XML 1.0, sections 3 to 6)
abbrev pub is_well_named : Bindings → BareElement → Bool
is_well_named b e = is_none (first_fault (bare_fault b) (elements_of_bare (bare.Element e)))

-- a root over this element
abbrev pub rooted_contents : Bindings → BareElement → List (ℕ × Content)
rooted_contents b e = (0, Root) ∷ contents_of_bare b (bare.Element e) 0 1

-- each instance is a root over one element, and nothing else stands
abbrev pub HasDocuments : State → Type 0
HasDocuments s =
    (documents : List BareElement) × (length documents ≡ length (instances_in s)) × (list_all (is_well_named s.form.bindings) documents ≡ true)
    × (map (λ x. (x.depth, x.content)) s.forest.nodes ≡ flat_map (rooted_contents s.form.bindings) documents)

-- ---- a model

-- a calculated node has the text of its expression as its whole content
abbrev pub IsSettledAt : Profile → State → ℕ → Entry → Type 0
IsSettledAt p s model e = texts_at s e.node ≡ as_texts (content_by p.bounds (bind_scope p s model) (all_in s) e).1

-- what a model keeps is what would be made of the data by now
pub record RestsModel (p : Profile) (s : State) (model : ℕ) : Type 0 where
  -- the entries are those that the binds set, without an exception and without a cycle
  pub entries : applied (bind_scope p s model) s.forest.nodes ≡ Ok (model_at s model).entries
  pub no_cycle : reported_cycle (graph_over (bind_scope p s model) (shape_of s.forest.nodes) (model_at s model).entries) ≡ None
  pub asked : (model_at s model).asked ≡ edge_count (bind_scope p s model) (shape_of s.forest.nodes) (model_at s model).entries
  -- the data are settled within the limits, and the values are those of now
  pub settled : AllOf (IsSettledAt p s model) (calculates (model_at s model).entries)
  pub within : passed p.bounds (bind_scope p s model) (model_at s model).entries (all_in s) ≡ []
  pub values : (model_at s model).stood ≡ map truly (values_over p.bounds (bind_scope p s model) (model_at s model).entries (all_in s))
  pub invalid : (model_at s model).invalid ≡ map (λ x. x.number) (filter (is_invalid p model s) (all_in s))
  -- nothing is marked
  pub texts : (model_at s model).texts ≡ []
  pub lists : (model_at s model).lists ≡ []

-- ---- indexes and cases

-- there is a place, and it is this one
abbrev pub is_same_place : Option ℕ → ℕ → Bool
is_same_place None k = false
is_same_place (Some place) k = place == k

-- 0 without rows, else the place of its node among them
abbrev pub is_placed : List ℕ → Index → Bool
is_placed [] i = (i.index == 0) && is_none i.node
is_placed (n ∷ ns) i = is_same_place (option_and_then (place_in (n ∷ ns)) i.node) i.index

-- so of the rows, where no string is too long
abbrev pub is_placed_in : Option (List ℕ) → Index → Bool
is_placed_in None i = false
is_placed_in (Some rows) i = is_placed rows i

-- each repeat has an index that is placed
abbrev pub are_placed : Profile → State → Bool
are_placed p s =
    (length s.indexes == length (interface s).repeats)
    && list_all (λ r. is_placed_in (rows_now (interface s) (quiet p s) s.indexes r) (index_of (interface s) s.indexes r)) (interface s).repeats

-- each switch has one of its cases
abbrev pub are_cases : State → Bool
are_cases s = (length s.cases == length (interface s).switches) && list_all (λ q. nat_lt q.1 (length (cases_of (interface s) q.0))) (zip (interface s).switches s.cases)

-- ---- the state

-- all of it
pub record IsAtRest (p : Profile) (s : State) : Type 0 where
  pub trees : HasTrees s.forest
  pub documents : HasDocuments s
  pub is_due : is_due s ≡ false
  -- no tree is detached, and no text is empty
  pub attached : in_instances s.forest.nodes ≡ s.forest.nodes
  pub filled : list_any is_empty_text s.forest.nodes ≡ false
  pub sizes : passed_by_all p.bounds.limits s.forest.nodes ≡ None
  pub texts : has_long_text p.bounds.limits.text s.forest.nodes ≡ false
  -- a root stands above the elements of its tree, and is none
  pub depths : is_too_deep (suc p.bounds.limits.depth) 0 s.forest.nodes ≡ false
  -- every model of the form rests
  pub model_count : length s.models ≡ length s.form.model_elements
  pub models : AllOf (RestsModel p s) (counted_from 0 (length s.models))
  pub edges : nat_le (asked_by_all s) p.edges ≡ true
  pub placed : are_placed p s ≡ true
  pub cases : are_cases s ≡ true
  -- the list of the controls is that of now
  pub controls : shown p s ≡ Ok s.controls
  -- nothing of an event is left
  pub is_fresh : fresh p s ≡ s

-- the data are those of a state at rest of the form: such a state is fixed by them, but for the numbers of nodes
abbrev pub Restores : Profile → Program → Data → Type 0
Restores p form data_given = (s : State) × (s.form ≡ form) × IsAtRest p s × (data_of s ≡ data_given)
