-- The document elements of the instances, told by the roots: that of the instance with a place is the first child of the root with that place. So
-- they follow each change: each is the one before it, or stands in the list of a root, which is marked.
use Rattle.std.specs.Prelude.{ℕ, suc, ◌≡◌, Bool, true, not, ◌&&◌, List, [], ◌∷◌, ◌++◌, Option, Some, None, is_some}
use Rattle.std.specs.List.{list_all}
use Rattle.xf_def_syntax.specs.declared.form.Instance.{Instance}
use Rattle.xf_def_forest.specs.declared.content.Node.{Node}
use Rattle.xf_def_forest.specs.Forest.{Forest, is_root}
use Rattle.xf_def_forest.specs.Visit.{visits, has, first_of, children_of}
use Rattle.xf_def_forest.specs.Changes.{in_detached, root_of}
use Rattle.xf_def_forest.specs.WellFormed.{HasTrees}
use Rattle.xf_def_xpath.specs.Given.{Document}
use Rattle.xf_def_model.specs.Rules.{Scope}
use Rattle.xf_law_recalculation.specs.Agree.Settles.{AreHung}
use Rattle.xf_law_recalculation.specs.Marks.Marks.{SameNodes}
use Rattle.xf_law_recalculation.specs.Marks.Instances.{standing}
use Rattle.xf_law_recalculation.specs.Change.Carried.{Follows}

-- ---- the document elements

abbrev pub element_under : List Node → Option ℕ → Option ℕ
element_under nodes None = None
element_under nodes (Some root) = first_of (children_of root (visits nodes))

-- that of the instance with this place among the instances, from 0
abbrev pub element_at : List Node → ℕ → Option ℕ
element_at nodes place = element_under nodes (root_of place nodes)

abbrev pub document_of_instance : Instance → Option ℕ → List Document
document_of_instance i None = []
document_of_instance i (Some n) = record { model = i.model; id = i.id; element = n } ∷ []

-- those of the instances of which the first has this place
abbrev pub documents_from : ℕ → List Instance → List Node → List Document
documents_from place [] nodes = []
documents_from place (i ∷ is) nodes = document_of_instance i (element_at nodes place) ++ documents_from (suc place) is nodes

abbrev pub documents_at : List Instance → List Node → List Document
documents_at instances nodes = documents_from 0 instances nodes

-- each of them has one
abbrev pub have_documents : ℕ → List Instance → List Node → Bool
have_documents place [] nodes = true
have_documents place (i ∷ is) nodes = is_some (element_at nodes place) && have_documents (suc place) is nodes

-- ---- what each change gives

-- the data of a form: every instance has a document element, and no root stands behind the instances
pub record HasDocuments (instances : List Instance) (forest : Forest) : Type 0 where
  pub trees : HasTrees forest
  pub hung : AreHung (visits forest.nodes)
  pub ahead : list_all (λ y. not (is_root y.content)) (in_detached forest.nodes) ≡ true
  pub documents : have_documents 0 instances forest.nodes ≡ true

-- what surrounds expressions before a change and after it
pub record ByRoots (instances : List Instance) (scope later : Scope) (forest after : Forest) : Type 0 where
  pub has_before : HasDocuments instances forest
  pub has_after : HasDocuments instances after
  pub model : later.model ≡ scope.model
  pub before : scope.given.documents ≡ documents_at instances forest.nodes
  pub now : later.given.documents ≡ documents_at instances after.nodes

-- each root keeps its place
abbrev pub SamePlaces : Forest → Forest → Type 0
SamePlaces forest after = (place : ℕ) → root_of place after.nodes ≡ root_of place forest.nodes

-- what is told of the nodes after a change beside those before it is enough
abbrev pub DocumentsFollow : Type 0
DocumentsFollow = (texts since lists : List ℕ) (instances : List Instance) (scope later : Scope) (forest after : Forest) → ByRoots instances scope later forest after → SamePlaces forest after →
    SameNodes texts since (standing after) (standing forest) → ((k : ℕ) → has k since ≡ true → has k lists ≡ true) → Follows lists scope later after
