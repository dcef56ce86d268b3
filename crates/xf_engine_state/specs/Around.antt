-- What surrounds expressions that see no index of a repeat, outside an event, where the document elements stand in a list beside the instances.
use Rattle.std.specs.Prelude.{ℕ, suc, ◌&&◌, Bool, List, [], ◌∷◌, ◌++◌, map, Option, Some, None, option_map, bytes_eq, ◌==◌}
use Rattle.xf_name.specs.Bindings.{Bindings}
use Rattle.xf_def_syntax.specs.declared.form.Instance.{Instance}
use Rattle.xf_def_forest.specs.declared.content.Node.{Node}
use Rattle.xf_def_forest.specs.declared.node.NodeId.{NodeId}
use Rattle.xf_def_forest.specs.Changes.{root_of}
use Rattle.xf_def_forest.specs.Forest.{Forest}
use Rattle.xf_def_forest.specs.Visit.{visits, first_of, children_of}
use Rattle.xf_def_xpath.specs.Given.{Document, Given}
use Rattle.xf_def_xpath.specs.Binding.{as_list}
use Rattle.xf_eval.specs.Live.{AllLive}
use Rattle.xf_def_machine.specs.Surround.{document_in}

abbrev pub numbers_of : List (Option NodeId) → List (Option ℕ)
numbers_of documents = map (λ d. option_map (λ n. n.number) d) documents

-- ---- the document elements

abbrev pub document_below : List Node → Option ℕ → Option ℕ
document_below nodes None = None
document_below nodes (Some root) = first_of (children_of root (visits nodes))

-- those of the instances of which the first has this place
abbrev pub documents_from : {X : Type 0} → ℕ → List X → List Node → List (Option ℕ)
documents_from place [] nodes = []
documents_from place (i ∷ is) nodes = document_below nodes (root_of place nodes) ∷ documents_from (suc place) is nodes

abbrev pub AreThere : List (Option ℕ) → List Node → Type 0
AreThere [] nodes = Unit {0}
AreThere (d ∷ ds) nodes = AllLive (as_list d) nodes × AreThere ds nodes

-- ---- what they give

abbrev pub documents_by : List Instance → List (Option ℕ) → List Document
documents_by [] ds = []
documents_by (i ∷ is) [] = []
documents_by (i ∷ is) (d ∷ ds) = document_in i d ++ documents_by is ds

-- over so many decimals
abbrev pub given_by : List Instance → Bindings → ℕ → List (Option ℕ) → Given
given_by instances b d ds = record { documents = documents_by instances ds; indexes = []; event = None; bindings = b; decimals = d }

abbrev pub given_in : List Instance → Bindings → ℕ → Forest → Given
given_in instances b d forest = given_by instances b d (documents_from 0 instances forest.nodes)

-- ---- one instance

-- it is of the model and has the id, or the id is empty
abbrev pub is_meant : ℕ → List ℕ → Instance → Bool
is_meant model [] i = i.model == model
is_meant model (c ∷ cs) i = (i.model == model) && bytes_eq i.id (c ∷ cs)
