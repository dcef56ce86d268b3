-- A model that was built stays so where its part stays (XForms 1.1, sections 3.3.4, 4.3.1 and 4.3.2), whatever else of the data is another.
use Rattle.std.specs.Prelude.{ℕ, List}
use Rattle.xf_def_syntax.specs.declared.form.Instance.{Instance}
use Rattle.xf_def_syntax.specs.declared.form.Tables.{Tables}
use Rattle.xf_def_forest.specs.Forest.{Forest}
use Rattle.xf_def_values.specs.Functions.{Functions}
use Rattle.xf_def_xpath.specs.Given.{Given}
use Rattle.xf_def_model.specs.Rules.{scope_of}
use Rattle.xf_law_recalculation.specs.Elsewhere.Parts.{IsPart}
use Rattle.xf_law_recalculation.specs.Part.Whole.{IsPresent}
use Rattle.xf_binds.specs.Kept.{Kept}
use Rattle.xf_binds_rebuild.specs.Built.{IsBuilt}
use Rattle.xf_law_rebuild.specs.Data.{IsData, Presents, SameBesides}

-- two data with the same part
abbrev pub BuiltElsewhere : Type 0
BuiltElsewhere = (functions : Functions) (given later : Given) (tables : Tables) (instances : List Instance) (model : ℕ) (part before after : Forest) (k : Kept) → SameBesides given later →
    IsPart instances model part before → IsPart instances model part after → IsPresent instances model given before → IsPresent instances model later after →
    IsBuilt (scope_of functions given tables model) before.nodes k → IsBuilt (scope_of functions later tables model) after.nodes k

-- each part of the first data is that of the second
abbrev pub PartStays : List Instance → ℕ → Forest → Forest → Type 0
PartStays instances model before after = (part : Forest) → IsPart instances model part before → IsPart instances model part after

-- what is built over the first data is built over the second
abbrev pub BuiltStays : Functions → (Forest → Given) → Tables → ℕ → Forest → Forest → Type 0
BuiltStays functions given tables model before after = (k : Kept) → IsBuilt (scope_of functions (given before) tables model) before.nodes k → IsBuilt (scope_of functions (given after) tables model) after.nodes k

abbrev pub BuiltWhereStays : Type 0
BuiltWhereStays = (functions : Functions) (given : Forest → Given) (tables : Tables) (instances : List Instance) (model : ℕ) (before after : Forest) → Presents instances given → IsData before → IsData after →
    PartStays instances model before after → BuiltStays functions given tables model before after
