-- A form from its bytes, or its first refusal by its number and its place: a path in the form, for a limit its word, or nothing.
use Rattle.std.specs.Prelude.{ℕ, nat_lt, List, [], length, codes, Option, Some, None, Result, Ok, Err, if◌then◌else◌}
use Rattle.xf_base.specs.Limits.{form_limit}
use Rattle.xf_def_syntax.specs.declared.form.Form.{Form}
use Rattle.xf_json.specs.Element.{lit_in}
use Rattle.xf_json.specs.declared.fault.JsonFault.{JsonFault}
use Rattle.xf_json.specs.declared.fault.JsonFault.TheVariants as json
use Rattle.xf_name.specs.Bindings.{Bindings}
use Rattle.xf_name.specs.Survey.{surveyed}
use Rattle.xf_name.specs.declared.fault.SurveyFault.{SurveyFault}
use Rattle.xf_name.specs.declared.form_names.Surveyed.{Surveyed}
use Rattle.xf_name.specs.declared.lit.Lit.{Lit}
use Rattle.xf_form_refusals.specs.Refused.{bad_schema_of, refusal_of}
use Rattle.xf_form_refusals.specs.Rows.{Seen}
use Rattle.xf_form_refusals.specs.Walk.{rows_of}
use Rattle.xf_form.specs.declared.fault.FormFault.{FormFault}
use Rattle.xf_form.specs.declared.fault.FormFault.TheVariants.{Refused}
use Rattle.xf_form.specs.declared.loaded.Loaded.{Loaded}
use Rattle.xf_form.specs.Data.{data_limit}
use Rattle.xf_form.specs.Tables.{form_of}

-- ---- the tables of a tree under the names that it declares

-- 20: an element of a schema is bad
abbrev pub by_schemas : Form → Option (List ℕ) → Result Form FormFault
by_schemas form None = Ok form
by_schemas form (Some path) = Err (Refused 20 path)

-- 17: the data passes a limit
abbrev pub by_data : Form → List Seen → Option (List ℕ) → Result Form FormFault
by_data form all None = by_schemas form (bad_schema_of all form.tables.types)
by_data form all (Some word) = Err (Refused 17 word)

abbrev pub by_form : Form → Lit → List Seen → Result Form FormFault
by_form form lit all = by_data form all (data_limit lit form.tables.instances)

-- 4 to 13: an element is refused; 17: there are too many, or they stand too deep
abbrev pub by_elements : Bindings → Lit → List Seen → Option (ℕ × List ℕ) → Result Form FormFault
by_elements b lit all None = by_form (form_of b all) lit all
by_elements b lit all (Some refusal) = Err (Refused refusal.0 refusal.1)

abbrev pub by_rows : Bindings → Lit → List Seen → Result Form FormFault
by_rows b lit all = by_elements b lit all (refusal_of b all)

abbrev pub tables_in : Bindings → Lit → Result Form FormFault
tables_in b lit = by_rows b lit (rows_of b lit)

-- ---- the form

abbrev pub with_tree : Bindings → Lit → Result Form FormFault → Result Loaded FormFault
with_tree b lit (Ok form) = Ok (record { form = form; prefixes = b; lit = lit })
with_tree b lit (Err fault) = Err fault

-- 17: there are too many prefixes or namespaces
abbrev pub by_names : Lit → Result Surveyed SurveyFault → Result Loaded FormFault
by_names lit (Ok found) = with_tree found.prefixes lit (tables_in found.prefixes lit)
by_names lit (Err fault) = Err (Refused 17 (codes "counts"))

-- 1: the bytes are no JSON; 3: they are no element
abbrev pub by_json : Result Lit JsonFault → Result Loaded FormFault
by_json (Ok lit) = by_names lit (surveyed lit)
by_json (Err json.NotJson) = Err (Refused 1 [])
by_json (Err fault) = Err (Refused 3 [])

-- 2: there are too many bytes, which is tried first
abbrev pub loaded_in : List ℕ → Result Loaded FormFault
loaded_in bytes = if nat_lt form_limit (length bytes) then Err (Refused 2 []) else by_json (lit_in bytes)
