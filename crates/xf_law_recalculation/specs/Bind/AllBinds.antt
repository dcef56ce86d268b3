-- What all binds of a form apply: over a forest what they apply over its instances alone, at nodes that stand in these.
use Rattle.std.specs.Prelude.{ℕ, ◌≡◌, List}
use Rattle.xf_def_syntax.specs.declared.form.Bind.{Bind}
use Rattle.xf_def_syntax.specs.declared.form.Tables.{Tables}
use Rattle.xf_def_forest.specs.Forest.{Forest}
use Rattle.xf_def_forest.specs.Changes.{in_instances}
use Rattle.xf_def_values.specs.Functions.{Functions}
use Rattle.xf_def_xpath.specs.Given.{Given}
use Rattle.xf_def_model.specs.Rules.{scope_of}
use Rattle.xf_def_model.specs.Applied.{Entry, applied}
use Rattle.xf_def_model.specs.Pertinent.{AllOf}
use Rattle.xf_law_recalculation.specs.Agree.Settles.{IsSolid}
use Rattle.xf_law_recalculation.specs.Agree.FormSettles.{Applies}
use Rattle.xf_law_recalculation.specs.Marks.Binds.{GivesTruths, HasInstances}
use Rattle.xf_law_recalculation.specs.Marks.Instances.{standing}
use Rattle.xf_law_recalculation.specs.Bind.WithTexts.{IsCovered}

-- the node sets of the binds
abbrev pub AreSetsCovered : Tables → Type 0
AreSetsCovered tables = AllOf (λ (bind : Bind). IsCovered bind.node_set) tables.binds

-- detached trees make no difference, to an exception neither
abbrev pub AppliedOfInstances : Type 0
AppliedOfInstances = (functions : Functions) (given : Given) (tables : Tables) (model : ℕ) (forest : Forest) →
    AreSetsCovered tables → HasInstances (scope_of functions given tables model) forest → GivesTruths (scope_of functions given tables model) →
    applied (scope_of functions given tables model) forest.nodes ≡ applied (scope_of functions given tables model) (in_instances forest.nodes)

-- the node of each entry is no text, and stands in an instance
abbrev pub AppliedStands : Type 0
AppliedStands = (functions : Functions) (given : Given) (tables : Tables) (model : ℕ) (forest : Forest) (entries : List Entry) →
    AreSetsCovered tables → HasInstances (scope_of functions given tables model) forest → GivesTruths (scope_of functions given tables model) → Applies functions given tables model forest entries →
    AllOf (λ e. IsSolid (standing forest) e.node) entries
