-- What binds ask of the document elements, told by the roots.
use Rattle.std.specs.Prelude.{ℕ, ◌≡◌, true, false, List}
use Rattle.xf_def_syntax.specs.declared.form.Instance.{Instance}
use Rattle.xf_def_forest.specs.Forest.{Forest}
use Rattle.xf_def_forest.specs.Visit.{has}
use Rattle.xf_def_model.specs.Rules.{Scope}
use Rattle.xf_law_recalculation.specs.Change.Documents.{is_root_in}
use Rattle.xf_law_recalculation.specs.Bind.Since.{KeepsDocuments}
use Rattle.xf_law_recalculation.specs.Document.Documents.{documents_at, HasDocuments}

-- no list of a root is marked
abbrev pub RootsKept : Type 0
RootsKept = (lists : List ℕ) (instances : List Instance) (scope : Scope) (now : Forest) → HasDocuments instances now → scope.given.documents ≡ documents_at instances now.nodes →
    ((root : ℕ) → is_root_in root now.nodes ≡ true → has root lists ≡ false) → KeepsDocuments lists scope now
