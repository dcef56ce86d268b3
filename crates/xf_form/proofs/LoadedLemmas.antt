-- What a form that is loaded was made from.
use Rattle.std.proofs.Common.{◌≡◌, ℕ, Bool, true, false, cond, nat_lt, List, [], length, Option, Some, None, Result, Ok, Err, refl, subst}
use Rattle.xf_base.specs.Limits.{form_limit}
use Rattle.xf_def_syntax.specs.declared.form.Form.{Form}
use Rattle.xf_json.specs.Element.{lit_in}
use Rattle.xf_json.specs.declared.fault.JsonFault.{JsonFault}
use Rattle.xf_json.specs.declared.fault.JsonFault.TheVariants as json
use Rattle.xf_name.specs.Bindings.{Bindings}
use Rattle.xf_name.specs.Survey.{surveyed}
use Rattle.xf_name.specs.declared.fault.SurveyFault.{SurveyFault}
use Rattle.xf_name.specs.declared.form_names.Surveyed.{Surveyed}
use Rattle.xf_name.specs.declared.lit.Lit.{Lit}
use Rattle.xf_form_refusals.specs.Refused.{bad_schema_of, refusal_of}
use Rattle.xf_form_refusals.specs.Rows.{Seen}
use Rattle.xf_form_refusals.specs.Walk.{rows_of}
use Rattle.xf_form.specs.declared.fault.FormFault.{FormFault}
use Rattle.xf_form.specs.declared.fault.FormFault.TheVariants.{Refused}
use Rattle.xf_form.specs.declared.loaded.Loaded.{Loaded}
use Rattle.xf_form.specs.Data.{data_limit}
use Rattle.xf_form.specs.Loading.{by_schemas, by_data, by_elements, tables_in, with_tree, by_names, by_json, loaded_in}
use Rattle.xf_form.specs.Tables.{form_of}

-- its tables are those of the elements of its tree, of which none is refused
pub record Came (loaded : Loaded) : Type 0 where
  pub unrefused : refusal_of loaded.prefixes (rows_of loaded.prefixes loaded.lit) ≡ None
  pub form : loaded.form ≡ form_of loaded.prefixes (rows_of loaded.prefixes loaded.lit)

in_schemas : (form given : Form) (o : Option (List ℕ)) → by_schemas form o ≡ Ok given → given ≡ form
in_schemas form given None h = cc
in_schemas form given (Some path) h = cc

in_data : (form given : Form) (all : List Seen) (o : Option (List ℕ)) → by_data form all o ≡ Ok given → given ≡ form
in_data form given all None h = in_schemas form given (bad_schema_of all form.tables.types) h
in_data form given all (Some word) h = cc

no_refusal : (b : Bindings) (lit : Lit) (all : List Seen) (o : Option (ℕ × List ℕ)) (given : Form) → by_elements b lit all o ≡ Ok given → o ≡ None
no_refusal b lit all None given h = refl
no_refusal b lit all (Some refusal) given h = cc

of_elements : (b : Bindings) (lit : Lit) (all : List Seen) (o : Option (ℕ × List ℕ)) (given : Form) → by_elements b lit all o ≡ Ok given → given ≡ form_of b all
of_elements b lit all None given h = in_data (form_of b all) given all (data_limit lit (form_of b all).tables.instances) h
of_elements b lit all (Some refusal) given h = cc

of_tree : (b : Bindings) (lit : Lit) (r : Result Form FormFault) (loaded : Loaded) → tables_in b lit ≡ r → with_tree b lit r ≡ Ok loaded → Came loaded
of_tree b lit (Ok form) loaded is h =
    let whole : Loaded = record { form = form; prefixes = b; lit = lit } in
    let same : whole ≡ loaded = cc in
    let all = rows_of b lit in
    let came : Came whole = record { unrefused = no_refusal b lit all (refusal_of b all) form is; form = of_elements b lit all (refusal_of b all) form is } in
    subst Came same came
of_tree b lit (Err fault) loaded is h = absurd (cc)

of_names : (lit : Lit) (r : Result Surveyed SurveyFault) (loaded : Loaded) → by_names lit r ≡ Ok loaded → Came loaded
of_names lit (Ok found) loaded h = of_tree found.prefixes lit (tables_in found.prefixes lit) loaded refl h
of_names lit (Err fault) loaded h = absurd (cc)

of_json : (r : Result Lit JsonFault) (loaded : Loaded) → by_json r ≡ Ok loaded → Came loaded
of_json (Ok lit) loaded h = of_names lit (surveyed lit) loaded h
of_json (Err json.NotJson) loaded h = absurd (cc)
of_json (Err fault) loaded h = absurd (cc)

unless_large : (large : Bool) (r : Result Lit JsonFault) (loaded : Loaded) → cond large (Err (Refused 2 [])) (by_json r) ≡ Ok loaded → Came loaded
unless_large true r loaded h = absurd (cc)
unless_large false r loaded h = of_json r loaded h

pub came_by : (bytes : List ℕ) (loaded : Loaded) → loaded_in bytes ≡ Ok loaded → Came loaded
came_by bytes loaded h = unless_large (nat_lt form_limit (length bytes)) (lit_in bytes) loaded h
