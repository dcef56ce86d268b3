-- What comes of the response of a store (XForms 1.1, section 11.2).
use Rattle.std.specs.Prelude.{ℕ, List, [], ◌∷◌, length, codes, not, is_none, Result, Ok, Err, if◌then◌else◌}
use Rattle.std.specs.Str.{is_utf8}
use Rattle.xf_name.specs.Bindings.{Bindings}
use Rattle.xf_name.specs.declared.lit.Lit.{Lit}
use Rattle.xf_json.specs.declared.fault.JsonFault.{JsonFault}
use Rattle.xf_json.specs.Element.{lit_in}
use Rattle.xf_store.specs.declared.answers.Answer.{Answer}
use Rattle.xf_store.specs.declared.answers.Answer.TheVariants.{PutDone, Found}
use Rattle.xf_def_syntax.specs.declared.form.Replace.{Replace}
use Rattle.xf_def_syntax.specs.declared.form.Replace.TheVariants as instead
use Rattle.xf_def_syntax.specs.declared.form.Submission.{Submission}
use Rattle.xf_def_forest.specs.Planted.{lit_fault}
use Rattle.xf_submit.specs.Errors.{type_text}
use Rattle.xf_submit.specs.declared.responding.Outcome.{Outcome}
use Rattle.xf_submit.specs.declared.responding.Outcome.TheVariants as outcome

pub data Responded : Type 0 where
  -- it ends with an error of this type
  fails : List ℕ → Responded
  -- it is done, and nothing is replaced
  ends : Responded
  -- a note tells so many bytes
  notes : ℕ → Responded
  -- the target is replaced by this tree, or its text by this one
  tree : Lit → Responded
  text : List ℕ → Responded

-- a response that is to be an element, with names of the form
abbrev pub as_tree : Bindings → Result Lit JsonFault → Responded
as_tree b (Err fault) = fails (codes "parse-error")
as_tree b (Ok lit) = if not (is_none (lit_fault b lit)) then fails (codes "parse-error") else tree lit

-- a response that is to be a text
abbrev pub as_text : List ℕ → Responded
as_text bytes = if is_utf8 bytes then text bytes else fails (codes "parse-error")

-- an empty response replaces nothing
abbrev pub responded_with : Bindings → List ℕ → Replace → Responded
responded_with b bytes instead.All = notes (length bytes)
responded_with b bytes instead.Nothing = ends
responded_with b [] how = ends
responded_with b (c ∷ cs) instead.Instance = as_tree b (lit_in (c ∷ cs))
responded_with b (c ∷ cs) instead.Text = as_text (c ∷ cs)

-- by what the store answered
abbrev pub responded_by : Bindings → Submission → Answer → Responded
responded_by b sub PutDone = responded_with b [] sub.replace
responded_by b sub (Found bytes) = responded_with b bytes sub.replace
responded_by b sub answer = fails (codes "resource-error")

-- ---- as code answers it

abbrev pub seen_outcome : Outcome → Responded
seen_outcome (outcome.Fails e) = fails (type_text e)
seen_outcome outcome.Ends = ends
seen_outcome (outcome.Notes size) = notes size
seen_outcome (outcome.Tree lit) = tree lit
seen_outcome (outcome.Text word) = text word
