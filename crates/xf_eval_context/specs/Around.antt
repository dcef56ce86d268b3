-- What surrounds the expressions of a form, where the document elements stand in a list beside the instances.
use Rattle.std.specs.Prelude.{ℕ, suc, ◌&&◌, Bool, true, List, [], ◌∷◌, ◌++◌, map, Option, Some, None, option_map, bytes_eq, ◌==◌}
use Rattle.std.specs.List.{list_all}
use denote.Ref.{Bor}
use Rattle.xf_name.specs.Bindings.{Bindings}
use Rattle.xf_def_syntax.specs.declared.form.Instance.{Instance}
use Rattle.xf_def_forest.specs.declared.content.Node.{Node}
use Rattle.xf_def_forest.specs.declared.node.NodeId.{NodeId}
use Rattle.xf_def_forest.specs.Changes.{root_of}
use Rattle.xf_def_forest.specs.Forest.{Forest, has_number}
use Rattle.xf_def_forest.specs.Visit.{visits, first_of, children_of}
use Rattle.xf_def_xpath.specs.declared.value.Value.{Value}
use Rattle.xf_def_xpath.specs.Given.{Document, Given}
use Rattle.xf_def_xpath.specs.Binding.{as_list}
use Rattle.xf_def_xpath.specs.Conversions.{nodes_of}
use Rattle.xf_eval.specs.Live.{AllLive}
use Rattle.xf_def_ui.specs.declared.told.Property.{Property}
use Rattle.xf_def_ui.specs.Told.{told_of}

-- the properties of an event that is handled
abbrev pub Told : Type 0
Told = List (List ℕ × Value)

abbrev pub numbers_of : List (Option NodeId) → List (Option ℕ)
numbers_of documents = map (λ d. option_map (λ n. n.number) d) documents

-- ---- the document elements

abbrev pub document_below : List Node → Option ℕ → Option ℕ
document_below nodes None = None
document_below nodes (Some root) = first_of (children_of root (visits nodes))

-- those of the instances of which the first has this place
abbrev pub documents_from : {X : Type 0} → ℕ → List X → List Node → List (Option ℕ)
documents_from place [] nodes = []
documents_from place (i ∷ is) nodes = document_below nodes (root_of place nodes) ∷ documents_from (suc place) is nodes

abbrev pub AreThere : List (Option ℕ) → List Node → Type 0
AreThere [] nodes = Unit {0}
AreThere (d ∷ ds) nodes = AllLive (as_list d) nodes × AreThere ds nodes

-- ---- what they give

-- that of an instance, where it has one, as one of the documents that expressions may name
abbrev pub document_in : Instance → Option ℕ → List Document
document_in i None = []
document_in i (Some n) = record { model = i.model; id = i.id; element = n } ∷ []

abbrev pub documents_by : List Instance → List (Option ℕ) → List Document
documents_by [] ds = []
documents_by (i ∷ is) [] = []
documents_by (i ∷ is) (d ∷ ds) = document_in i d ++ documents_by is ds

-- the indexes of repeats by their ids
abbrev pub Indexes : Type 0
Indexes = List (List ℕ × ℕ)

abbrev pub given_with : Indexes → List Instance → Bindings → ℕ → List (Option ℕ) → Option Told → Given
given_with indexes instances b d ds event = record { documents = documents_by instances ds; indexes = indexes; event = event; bindings = b; decimals = d }

-- without rows
abbrev pub given_by : List Instance → Bindings → ℕ → List (Option ℕ) → Option Told → Given
given_by instances b d ds event = given_with [] instances b d ds event

abbrev pub given_in : List Instance → Bindings → ℕ → Forest → Option Told → Given
given_in instances b d forest event = given_by instances b d (documents_from 0 instances forest.nodes) event

abbrev pub event_of : Option (Bor (List Property)) → Option Told
event_of None = None
event_of (Some properties) = Some (told_of properties.now)

abbrev pub are_live : List Node → List ℕ → Bool
are_live nodes ns = list_all (λ n. has_number n nodes) ns

-- all nodes that the event tells stand in the forest
abbrev pub are_told_live : List Node → List Property → Bool
are_told_live nodes properties = list_all (λ q. are_live nodes (nodes_of q.value)) properties

abbrev pub is_event_live : List Node → Option (Bor (List Property)) → Bool
is_event_live nodes None = true
is_event_live nodes (Some properties) = are_told_live nodes properties.now

-- ---- one instance

-- it is of the model and has the id, or the id is empty
abbrev pub is_meant : ℕ → List ℕ → Instance → Bool
is_meant model [] i = i.model == model
is_meant model (c ∷ cs) i = (i.model == model) && bytes_eq i.id (c ∷ cs)
