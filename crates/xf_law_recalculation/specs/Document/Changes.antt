-- The document elements follow each change: it leaves the roots their places, and marks the list to which a tree comes or out of which it goes.
use Rattle.std.specs.Prelude.{ℕ, ◌≡◌, ◌⊎◌, true, false, List, [], Some}
use Rattle.xf_def_syntax.specs.declared.form.Instance.{Instance}
use Rattle.xf_def_forest.specs.declared.content.Kind.TheVariants as kind
use Rattle.xf_def_forest.specs.Forest.{Forest, kind_at, has_number}
use Rattle.xf_def_forest.specs.Needs.{IsSettable}
use Rattle.xf_def_forest.specs.Changes.{in_instances, detached, placed}
use Rattle.xf_def_forest.specs.Settle.{with_numbered_text}
use Rattle.xf_def_model.specs.Rules.{Scope}
use Rattle.xf_law_recalculation.specs.Edit.Edits.{MarksMore, StandsIn}
use Rattle.xf_law_recalculation.specs.Change.Carried.{Follows}
use Rattle.xf_law_recalculation.specs.Change.Steps.{Comes, IsNew}
use Rattle.xf_law_recalculation.specs.Document.Documents.{documents_at, HasDocuments, ByRoots}

-- an element or an attribute: what can be detached
abbrev pub IsMovable : ℕ → Forest → Type 0
IsMovable n forest = (kind_at n forest.nodes ≡ Some kind.Element) ⊎ (kind_at n forest.nodes ≡ Some kind.Attribute)

-- right after a recalculation
abbrev pub FirstFollows : Type 0
FirstFollows = (instances : List Instance) (scope : Scope) (forest : Forest) → HasDocuments instances forest → scope.given.documents ≡ documents_at instances forest.nodes → Follows [] scope scope forest

-- a text that is set, also to what stood there
abbrev pub TextFollows : Type 0
TextFollows = (lists : List ℕ) (instances : List Instance) (scope later : Scope) (number n next : ℕ) (text : List ℕ) (forest : Forest) →
    let after : Forest = record { nodes = with_numbered_text number n text forest.nodes; next = next } in
    ByRoots instances scope later forest after → IsSettable n forest → has_number n (in_instances forest.nodes) ≡ true → has_number number forest.nodes ≡ false → Follows lists scope later after

abbrev pub DetachedFollows : Type 0
DetachedFollows = (lists more : List ℕ) (instances : List Instance) (scope later : Scope) (n p : ℕ) (forest : Forest) → ByRoots instances scope later forest (detached n forest) →
    MarksMore lists p more → StandsIn n p (in_instances forest.nodes) → IsMovable n forest → Follows more scope later (detached n forest)

abbrev pub PlacedFollows : Type 0
PlacedFollows = (lists more : List ℕ) (instances : List Instance) (scope later : Scope) (n p place : ℕ) (forest : Forest) → ByRoots instances scope later forest (placed n p place forest) →
    MarksMore lists p more → Comes n p place forest → IsMovable n forest → Follows more scope later (placed n p place forest)

-- a document element in place of another
abbrev pub ReplacedFollows : Type 0
ReplacedFollows = (lists more : List ℕ) (instances : List Instance) (scope later : Scope) (old n root : ℕ) (forest : Forest) → ByRoots instances scope later forest (placed n root 0 (detached old forest)) →
    MarksMore lists root more → StandsIn old root (in_instances forest.nodes) → IsMovable old forest → Comes n root 0 (detached old forest) → IsMovable n (detached old forest) →
    IsNew n (detached old forest) (λ k. k) forest → Follows more scope later (placed n root 0 (detached old forest))

-- what the instances do not see
abbrev pub ElsewhereFollows : Type 0
ElsewhereFollows = (lists : List ℕ) (instances : List Instance) (scope later : Scope) (forest after : Forest) → ByRoots instances scope later forest after →
    in_instances after.nodes ≡ in_instances forest.nodes → Follows lists scope later after
