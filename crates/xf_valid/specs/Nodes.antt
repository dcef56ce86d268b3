-- The properties of nodes (XForms 1.1, section 6.1) as a table of binds has them: by the values of the last recalculation and the validity
-- that the last revalidation found.
use Rattle.std.specs.Prelude.{ℕ, Bool, not, List}
use Rattle.std.specs.List.{list_any}
use Rattle.xf_def_forest.specs.declared.content.Node.{Node}
use Rattle.xf_def_forest.specs.Visit.{visits, has}
use Rattle.xf_def_model.specs.Properties.{is_relevant, is_readonly, is_required}
use Rattle.xf_binds.specs.Kept.{Kept, values_in}
use Rattle.xf_def_ui.specs.declared.marks.Marks.{Marks}

abbrev pub relevant_in : List Kept → List Node → ℕ → Bool
relevant_in table nodes n = is_relevant (visits nodes) (values_in table) n

abbrev pub readonly_in : List Kept → List Node → ℕ → Bool
readonly_in table nodes n = is_readonly (visits nodes) (values_in table) n

abbrev pub required_in : List Kept → ℕ → Bool
required_in table n = is_required (values_in table) n

-- a node that came since the last revalidation is valid
abbrev pub valid_in : List Kept → ℕ → Bool
valid_in table n = not (list_any (λ k. has n k.invalid) table)

abbrev pub marks_in : List Kept → List Node → ℕ → Marks
marks_in table nodes n = record {
  relevant = relevant_in table nodes n;
  readonly = readonly_in table nodes n;
  required = required_in table n;
  valid = valid_in table n;
}
