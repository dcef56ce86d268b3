-- The laws of settled contents for a form whose calculates the law of two forests covers: what its binds apply, without an exception and
-- without a cycle, has one settled state.
use Rattle.std.specs.Prelude.{◌≡◌, Bool, true, ℕ, List, Option, Some, None, Ok}
use Rattle.xf_def_syntax.specs.declared.expr.Expr.{Expr}
use Rattle.xf_def_syntax.specs.declared.form.Bind.{Bind}
use Rattle.xf_def_syntax.specs.declared.form.Tables.{Tables}
use Rattle.xf_def_forest.specs.Forest.{Forest}
use Rattle.xf_def_forest.specs.Needs.{IsSettable}
use Rattle.xf_def_forest.specs.Visit.{visits}
use Rattle.xf_def_values.specs.Functions.{Functions}
use Rattle.xf_def_xpath.specs.Given.{Given}
use Rattle.xf_def_model.specs.Rules.{scope_of}
use Rattle.xf_def_model.specs.Applied.{Entry, applied}
use Rattle.xf_def_model.specs.Settled.{Bounds, Contents, calculates, settled_contents}
use Rattle.xf_def_model.specs.Pertinent.{AllOf}
use Rattle.xf_def_model.specs.Stands.{IsSettled, Agrees, AreAcyclic}
use Rattle.xf_law_recalculation.specs.Agree.Covered.{is_covered}
use Rattle.xf_law_recalculation.specs.Agree.Settles.{Surrounds}

-- the calculate of a bind, if it has one
abbrev pub calculate_covered : Option Expr → Bool
calculate_covered None = true
calculate_covered (Some expr) = is_covered expr

abbrev pub AreCovered : Tables → Type 0
AreCovered tables = AllOf (λ (bind : Bind). calculate_covered bind.properties.calculate ≡ true) tables.binds

-- what the binds apply, without an exception
abbrev pub Applies : Functions → Given → Tables → ℕ → Forest → List Entry → Type 0
Applies functions given tables model forest entries = applied (scope_of functions given tables model) forest.nodes ≡ Ok entries

-- ---- the laws

-- the agreement law holds for the calculates of the form
abbrev pub FormAgrees : Type 0
FormAgrees = (b : Bounds) (functions : Functions) (given : Given) (tables : Tables) (model : ℕ) (forest : Forest) (entries : List Entry) →
    AreCovered tables → Surrounds (scope_of functions given tables model) b.string forest → Applies functions given tables model forest entries →
    Agrees b (scope_of functions given tables model) entries (visits forest.nodes)

-- where no cycle stands, settled contents are those that the rounds give
abbrev pub FormSettlesOnce : Type 0
FormSettlesOnce = (b : Bounds) (functions : Functions) (given : Given) (tables : Tables) (model : ℕ) (forest : Forest) (entries : List Entry) →
    AreCovered tables → Surrounds (scope_of functions given tables model) b.string forest → Applies functions given tables model forest entries →
    AreAcyclic (scope_of functions given tables model) entries (visits forest.nodes) →
    (contents : Contents) → IsSettled b (scope_of functions given tables model) entries (visits forest.nodes) contents → contents ≡ settled_contents b (scope_of functions given tables model) entries (visits forest.nodes)

-- and these are settled
abbrev pub FormSettles : Type 0
FormSettles = (b : Bounds) (functions : Functions) (given : Given) (tables : Tables) (model : ℕ) (forest : Forest) (entries : List Entry) →
    AreCovered tables → Surrounds (scope_of functions given tables model) b.string forest → Applies functions given tables model forest entries →
    AreAcyclic (scope_of functions given tables model) entries (visits forest.nodes) →
    IsSettled b (scope_of functions given tables model) entries (visits forest.nodes) (settled_contents b (scope_of functions given tables model) entries (visits forest.nodes))

-- the text of each calculated node can be set
abbrev pub FormSettable : Type 0
FormSettable = (b : Bounds) (functions : Functions) (given : Given) (tables : Tables) (model : ℕ) (forest : Forest) (entries : List Entry) →
    AreCovered tables → Surrounds (scope_of functions given tables model) b.string forest → Applies functions given tables model forest entries →
    AllOf (λ e. IsSettable e.node forest) (calculates entries)
