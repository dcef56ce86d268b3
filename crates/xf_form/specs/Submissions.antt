-- The submissions of a form (XForms 1.1, sections 11.1 and 11.9).
use Rattle.std.specs.Prelude.{ℕ, suc, ◌==◌, Bool, not, List, [], ◌∷◌, bytes_eq, codes, unwrap_or, Option, Some, None, if◌then◌else◌}
use Rattle.xf_def_syntax.specs.declared.expr.Expr.{Expr}
use Rattle.xf_def_syntax.specs.declared.form.Submission.{Submission}
use Rattle.xf_def_syntax.specs.declared.form.Selection.{Selection}
use Rattle.xf_def_syntax.specs.declared.form.Selection.TheVariants as selection
use Rattle.xf_def_syntax.specs.declared.form.Method.{Method}
use Rattle.xf_def_syntax.specs.declared.form.Method.TheVariants as method
use Rattle.xf_def_syntax.specs.declared.form.Replace.{Replace}
use Rattle.xf_def_syntax.specs.declared.form.Replace.TheVariants as replace
use Rattle.xf_name.specs.Bindings.{Bindings}
use Rattle.xf_form_vocabulary.specs.Attributes.{Shown, known_in, text_in}
use Rattle.xf_form_vocabulary.specs.declared.attribute.TheConstants as at
use Rattle.xf_form_refusals.specs.declared.classes.Class.TheVariants as class
use Rattle.xf_form_refusals.specs.Rows.{Seen}
use Rattle.xf_form.specs.Numbers.{named, named_at}
use Rattle.xf_form.specs.Written.{expr_at, word_at, is_text}
use Rattle.xf_form.specs.Scopes.{model_around}
use Rattle.xf_form.specs.Models.{id_of}

abbrev pub selection_by : List Seen → Option (List ℕ) → Option Expr → Selection
selection_by all (Some bind) ref = selection.Bind (named class.Bind all bind)
selection_by all None (Some expr) = selection.Ref expr
selection_by all None None = selection.Whole

-- `bind` goes before `ref`
abbrev pub selection_of : ℕ → Bindings → List Seen → List Shown → Selection
selection_of d b all known = selection_by all (text_in at.BIND known) (expr_at d b known at.REF)

abbrev pub truth_or : Bool → Option (List ℕ) → Bool
truth_or other None = other
truth_or other (Some text) = bytes_eq text (codes "true")

-- `resource` goes before `action`
abbrev pub resource_of : List Shown → List ℕ
resource_of known = unwrap_or (text_in at.RESOURCE known) (word_at known at.ACTION)

abbrev pub method_of : List Shown → Method
method_of known =
    if is_text known at.METHOD (codes "put") then method.Put
    else (if is_text known at.METHOD (codes "post") then method.Post else method.Get)

abbrev pub replace_of : List Shown → Replace
replace_of known =
    if is_text known at.REPLACE (codes "instance") then replace.Instance
    else (if is_text known at.REPLACE (codes "text") then replace.Text
    else (if is_text known at.REPLACE (codes "none") then replace.Nothing else replace.All))

-- no bytes are sent with the serialization none; then all nodes are selected and none is validated, unless that is written
abbrev pub is_serialized : List Shown → Bool
is_serialized known = not (is_text known at.SERIALIZATION (codes "none"))

abbrev pub submission_by : ℕ → Bindings → List Seen → ℕ → Seen → List Shown → Submission
submission_by d b all place r known = record {
  model = model_around all place;
  id = id_of r;
  selection = selection_of d b all known;
  is_relevant = truth_or (is_serialized known) (text_in at.RELEVANT known);
  is_validated = truth_or (is_serialized known) (text_in at.VALIDATE known);
  resource = resource_of known;
  method = method_of known;
  replace = replace_of known;
  instance = named_at class.Instance all known at.INSTANCE;
  target = expr_at d b known at.TARGET_REF;
  is_serialized = is_serialized known;
}

abbrev pub submission_of : ℕ → Bindings → List Seen → ℕ → Seen → Submission
submission_of d b all place r = submission_by d b all place r (known_in b r.attributes)

-- ---- the first of a model

-- the number of the first submission of a model, where the first of these has the number
abbrev pub first_from : ℕ → List Submission → ℕ → Option ℕ
first_from number [] model = None
first_from number (s ∷ ss) model = if s.model == model then Some number else first_from (suc number) ss model
