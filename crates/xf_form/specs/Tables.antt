-- The tables of a form (XForms 1.1, section 3): of each kind its elements in document order. d is the number of decimals.
use Rattle.std.specs.Prelude.{ℕ, suc, List, [], ◌∷◌, ◌++◌, Option, if◌then◌else◌}
use Rattle.xf_def_syntax.specs.declared.element.Element.{Element}
use Rattle.xf_def_syntax.specs.declared.form.Bind.{Bind}
use Rattle.xf_def_syntax.specs.declared.form.Form.{Form}
use Rattle.xf_def_syntax.specs.declared.form.Instance.{Instance}
use Rattle.xf_def_syntax.specs.declared.form.Submission.{Submission}
use Rattle.xf_def_syntax.specs.declared.form.Tables.{Tables}
use Rattle.xf_name.specs.Bindings.{Bindings}
use Rattle.xf_form_refusals.specs.declared.classes.Class.{Class}
use Rattle.xf_form_refusals.specs.declared.classes.Class.TheVariants as class
use Rattle.xf_form_refusals.specs.Classes.{is_of}
use Rattle.xf_form_refusals.specs.Decimals.{decimals_of}
use Rattle.xf_form_refusals.specs.Limits.{count_of}
use Rattle.xf_form_refusals.specs.Rows.{Seen}
use Rattle.xf_form_refusals.specs.Schemas.{types_of}
use Rattle.xf_form.specs.Numbers.{number_of}
use Rattle.xf_form.specs.Scopes.{scope_of}
use Rattle.xf_form.specs.Models.{instance_of, bind_of}
use Rattle.xf_form.specs.Submissions.{submission_of, first_from}
use Rattle.xf_form.specs.Elements.{element_of}

abbrev pub one_of : {X : Type 0} → Class → (ℕ → Seen → X) → ℕ → Seen → List X
one_of c given place r = if is_of c r then given place r ∷ [] else []

-- what is given for each element of a kind, where the first of these has the place
abbrev pub each_from : {X : Type 0} → Class → (ℕ → Seen → X) → ℕ → List Seen → List X
each_from c given place [] = []
each_from c given place (r ∷ rs) = one_of c given place r ++ each_from c given (suc place) rs

abbrev pub each : {X : Type 0} → Class → (ℕ → Seen → X) → List Seen → List X
each c given all = each_from c given 0 all

-- ---- tables

abbrev pub instances_of : List Seen → List Instance
instances_of all = each class.Instance (instance_of all) all

abbrev pub binds_of : ℕ → Bindings → List Seen → List Bind
binds_of d b all = each class.Bind (bind_of d b all) all

abbrev pub submissions_of : ℕ → Bindings → List Seen → List Submission
submissions_of d b all = each class.Submission (submission_of d b all) all

-- the first submission of the model in scope at an element
abbrev pub first_at : ℕ → Bindings → List Seen → ℕ → Option ℕ
first_at d b all place = first_from 0 (submissions_of d b all) (scope_of b all place)

abbrev pub element_at : ℕ → Bindings → List Seen → ℕ → Seen → Element
element_at d b all place r = element_of d b all (first_at d b all place) place r

abbrev pub elements_of : ℕ → Bindings → List Seen → List Element
elements_of d b all = each class.Numbered (element_at d b all) all

-- the numbers of the elements of a kind
abbrev pub listed : Class → List Seen → List ℕ
listed c all = each c (λ place r. number_of all place) all

abbrev pub tables_of : ℕ → Bindings → List Seen → Tables
tables_of d b all = record {
  models = count_of class.Model all;
  instances = instances_of all;
  binds = binds_of d b all;
  submissions = submissions_of d b all;
  types = types_of b all;
}

-- with numbers of so many decimals
abbrev pub form_with : ℕ → Bindings → List Seen → Form
form_with d b all = record {
  decimals = d;
  tables = tables_of d b all;
  elements = elements_of d b all;
  models = listed class.Model all;
  instances = listed class.Instance all;
  binds = listed class.Bind all;
  submissions = listed class.Submission all;
  repeats = listed class.Repeat all;
  switches = listed class.Switch all;
}

-- the first model chooses how many decimals numbers have
abbrev pub form_of : Bindings → List Seen → Form
form_of b all = form_with (decimals_of b all) b all
