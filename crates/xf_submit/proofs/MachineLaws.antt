-- The steps of a submission by what its calls answer over a state of the machine (XForms 1.1, section 11.2).
use Rattle.std.proofs.Common.{◌≡◌, ℕ, Bool, true, false, cond, List, [], ◌∷◌, Option, Some, None, option_map, Ok, Err, Result, refl, sym, ap, ◌∙◌, ◌++◌, length}
use Rattle.std.specs.Prelude.{codes, is_none, not, option_and_then, nat_le}
use Rattle.std.specs.Str.{is_utf8}
use Rattle.xf_base.specs.Limits.{string_limit}
use Rattle.xf_name.specs.declared.lit.Lit.{Lit}
use Rattle.xf_json.specs.declared.fault.JsonFault.{JsonFault}
use Rattle.xf_json.specs.Element.{lit_in}
use Rattle.xf_store.specs.declared.answers.Answer.{Answer}
use Rattle.xf_store.specs.declared.answers.Answer.TheVariants as answer
use Rattle.xf_store.specs.declared.call.Asked.{Asked}
use Rattle.xf_store.specs.declared.call.StoreCall.{StoreCall}
use Rattle.xf_store.specs.Replay.{answer_at, fits}
use Rattle.xf_def_syntax.specs.declared.expr.Expr.{Expr}
use Rattle.xf_def_syntax.specs.declared.form.Method.{Method}
use Rattle.xf_def_syntax.specs.declared.form.Method.TheVariants as method
use Rattle.xf_def_syntax.specs.declared.form.Replace.{Replace}
use Rattle.xf_def_syntax.specs.declared.form.Replace.TheVariants as instead
use Rattle.xf_def_syntax.specs.declared.form.Submission.{Submission}
use Rattle.xf_def_forest.specs.Changes.{root_of}
use Rattle.xf_def_forest.specs.Forest.{Forest}
use Rattle.xf_def_forest.specs.Planted.{lit_fault}
use Rattle.xf_def_forest.specs.Visit.{visits}
use Rattle.xf_funcs.specs.Called.{called}
use Rattle.xf_def_xpath.specs.Given.{Given}
use Rattle.xf_def_xpath.specs.Reads.{trace}
use Rattle.xf_def_model.specs.Rules.{Rule, Scope}
use Rattle.xf_def_model.specs.Submitted.{Submitted, by_expression, invalid, left, no_data, submitted}
use Rattle.xf_def_values.specs.Functions.{Functions}
use Rattle.xf_def_ui.specs.declared.marks.Marks.{Marks}
use Rattle.xf_def_machine.specs.Exchange as machine
use Rattle.xf_def_machine.specs.Exchange.{unless_many}
use Rattle.xf_def_machine.specs.Flow.{◌>>=◌}
use Rattle.xf_def_machine.specs.Profile.{Profile}
use Rattle.xf_def_machine.specs.Properties.{marks_in, relevant_in, valid_in}
use Rattle.xf_def_machine.specs.Refusal.{Refused, or_long}
use Rattle.xf_def_machine.specs.State.{State}
use Rattle.xf_def_machine.specs.Submit as ends
use Rattle.xf_def_machine.specs.Surround.{document_at, document_under, given, instance_holding, scope}
use Rattle.xf_actions.specs.Sent as sent
use Rattle.xf_eval_context.specs.declared.over.Over.{Over}
use Rattle.xf_eval_context.specs.Around.{document_below}
use Rattle.xf_eval_context.specs.Over.{around_over}
use Rattle.xf_submit.specs.Calling.{call_of}
use Rattle.xf_submit.specs.Requesting.{asked_by, asks, request_of}
use Rattle.xf_submit.specs.Requesting as requesting
use Rattle.xf_submit.specs.Responding.{as_text, as_tree, responded_by, responded_with, text, tree}
use Rattle.xf_submit.specs.Responding as responding
use Rattle.xf_submit.specs.Selecting.{relevant_by, scope_over, valid_by}
use Rattle.xf_submit.specs.Steps.{Shows, called_in, last_answer, request_in, requested, responded}
use Rattle.xf_submit.specs.Targets as targets

module _ (p : Profile) (o : Over) (s : State) (shows : Shows p o s) where
  abbrev scoped : ℕ → Functions → Given → List Rule → Scope
  scoped model functions given rules = record { functions = functions; given = given; model = model; rules = rules }

  scope-shown : (model : ℕ) → scope p s model ≡ scope_over o model
  scope-shown model =
      ap (λ f. scoped model f (given s None) s.form.rules) shows.functions
      ∙ ap (λ g. scoped model called g s.form.rules) shows.given
      ∙ ap (scoped model called (around_over o).given) shows.rules

  -- ---- up to the call

  abbrev found_by : (ℕ → Marks) → Option ℕ → Scope → Forest → Submission → Option Submitted
  found_by marks most scope forest sub = submitted most scope (relevant_by marks) (valid_by marks) forest.nodes sub

  selected-shown : (marks : ℕ → Marks) (sub : Submission) → marks ≡ marks_in s
      → submitted (Some p.bounds.string) (scope p s sub.model) (relevant_in s) (valid_in s) s.forest.nodes sub ≡ found_by marks (Some string_limit) (scope_over o sub.model) o.forest.now.forest sub
  selected-shown marks sub e =
      ap (λ l. found_by (marks_in s) (Some l) (scope p s sub.model) s.forest sub) shows.long
      ∙ ap (λ c. found_by (marks_in s) (Some string_limit) c s.forest sub) (scope-shown sub.model)
      ∙ ap (λ f. found_by (marks_in s) (Some string_limit) (scope_over o sub.model) f sub) shows.forest
      ∙ ap (λ m. found_by m (Some string_limit) (scope_over o sub.model) o.forest.now.forest sub) (sym e)

  pub request-shown : (marks : ℕ → Marks) (sub : Submission) → marks ≡ marks_in s
      → request_in p sub s ≡ or_long s (option_map (request_of o.prefixes.now o.forest.now.forest.nodes sub) (found_by marks (Some string_limit) (scope_over o sub.model) o.forest.now.forest sub))
  request-shown marks sub e =
      ap (λ m. or_long s (option_map (request_of s.form.bindings s.forest.nodes sub) m)) (selected-shown marks sub e)
      ∙ ap (λ b. or_long s (option_map (request_of b s.forest.nodes sub) (found_by marks (Some string_limit) (scope_over o sub.model) o.forest.now.forest sub))) shows.bindings
      ∙ ap (λ (f : Forest). or_long s (option_map (request_of o.prefixes.now f.nodes sub) (found_by marks (Some string_limit) (scope_over o sub.model) o.forest.now.forest sub))) shows.forest

  -- ---- the target

  under-same : (r : Option ℕ) → document_under s r ≡ document_below s.forest.nodes r
  under-same None = refl
  under-same (Some root) = refl

  document-same : (place : ℕ) → document_at s place ≡ targets.document_at s.forest.nodes place
  document-same place = under-same (root_of place s.forest.nodes)

  around-same : (place : Option ℕ) → option_and_then (document_at s) place ≡ option_and_then (targets.document_at s.forest.nodes) place
  around-same None = refl
  around-same (Some place) = document-same place

  target-same : (model n : ℕ) (target : Option Expr) (instance : Option ℕ) (sub : Submission) → sub.model ≡ model
      → ends.target_by p sub n s target instance ≡ or_long s (targets.target_by (scope_over o model) s.forest.nodes n target instance)
  target-same model n (Some expr) instance sub e =
      ap (λ l. or_long s (by_expression (Some l) (scope p s sub.model) (visits s.forest.nodes) (trace expr))) shows.long
      ∙ ap (λ c. or_long s (by_expression (Some string_limit) c (visits s.forest.nodes) (trace expr))) (scope-shown sub.model ∙ ap (scope_over o) e)
  target-same model n None (Some place) sub e = ap Ok (document-same place)
  target-same model n None None sub e = ap Ok (around-same (instance_holding s n))

  pub target-shown : (sub : Submission) (n : ℕ)
      → ends.target_by p sub n s sub.target sub.instance ≡ or_long s (targets.target_by (scope_over o sub.model) o.forest.now.forest.nodes n sub.target sub.instance)
  target-shown sub n =
      target-same sub.model n sub.target sub.instance sub refl ∙ ap (λ (f : Forest). or_long s (targets.target_by (scope_over o sub.model) f.nodes n sub.target sub.instance)) shows.forest

-- ---- up to the call

module _ (p : Profile) (answers : List Answer) (sub : Submission) (s : State) where
  asked-same : (n : ℕ) (kept : List ℕ) (m : Method) → machine.asked_by sub n kept s m ≡ asked_by s.form.bindings s.forest.nodes sub n kept m
  asked-same n kept method.Put = refl
  asked-same n kept method.Post = refl
  asked-same n kept method.Get = refl

  by-found : (found : Submitted) → sent.selected p answers sub found s ≡ requested p answers sub (request_of s.form.bindings s.forest.nodes sub found) s
  by-found no_data = refl
  by-found (invalid n) = refl
  by-found (left n kept) = by (machine.is_store_name sub.resource)
    where
      by : (b : Bool) → cond b (sent.exchanged p answers sub n (machine.asked_by sub n kept s sub.method) s) (sent.fails (codes "resource-error") s)
          ≡ requested p answers sub (cond b (asks n (asked_by s.form.bindings s.forest.nodes sub n kept sub.method)) (requesting.fails (codes "resource-error"))) s
      by true = ap (λ a. sent.exchanged p answers sub n a s) (asked-same n kept sub.method)
      by false = refl

  by-each : (m : Option Submitted)
      → (or_long s m >>= λ found. sent.selected p answers sub found s) ≡ (or_long s (option_map (request_of s.form.bindings s.forest.nodes sub) m) >>= λ r. requested p answers sub r s)
  by-each None = refl
  by-each (Some found) = by-found found

  pub attempted-steps : sent.attempted p answers sub s ≡ (request_in p sub s >>= λ r. requested p answers sub r s)
  attempted-steps = by-each (submitted (Some p.bounds.string) (scope p s sub.model) (relevant_in s) (valid_in s) s.forest.nodes sub)

-- ---- the call

last-behind : (calls : List StoreCall) (call : StoreCall) → last_answer (calls ++ call ∷ []) ≡ call.answer
last-behind [] call = refl
last-behind (c ∷ []) call = refl
last-behind (c ∷ next ∷ calls) call = last-behind (next ∷ calls) call

module _ (p : Profile) (answers : List Answer) (sub : Submission) (asked : Asked) (s : State) where
  abbrev given_to : List StoreCall → Answer
  given_to calls = answer_at (fits asked) answers (length calls)

  abbrev called_if : Bool → Result State Refused
  called_if b = unless_many b s >>= λ t. Ok (machine.with_call sub.resource asked (given_to t.calls) t)

  pub exchanged-steps : (n : ℕ) → sent.exchanged p answers sub n asked s ≡ (called_in p answers sub asked s >>= λ t. sent.answered p sub n (last_answer t.calls) t)
  exchanged-steps n = by (nat_le p.sends (length s.calls))
    where
      by : (b : Bool) → (unless_many b s >>= λ t. sent.answered p sub n (given_to t.calls) (machine.with_call sub.resource asked (given_to t.calls) t))
          ≡ (called_if b >>= λ t. sent.answered p sub n (last_answer t.calls) t)
      by true = refl
      by false =
          ap (λ x. sent.answered p sub n x (machine.with_call sub.resource asked (given_to s.calls) s)) (sym (last-behind s.calls (call_of sub.resource asked (given_to s.calls))))

-- ---- the response, in the state behind the call

module _ (p : Profile) (sub : Submission) (n : ℕ) (s : State) where
  tree-same : (r : Result Lit JsonFault) → sent.with_tree p sub n r s ≡ responded p sub n (as_tree s.form.bindings r) s
  tree-same (Err fault) = refl
  tree-same (Ok lit) = by (not (is_none (lit_fault s.form.bindings lit)))
    where
      by : (b : Bool) → cond b (sent.fails (codes "parse-error") s) (ends.target_by p sub n s sub.target sub.instance >>= λ target. sent.on_target ends.takes_tree (sent.put_tree p lit) target s)
          ≡ responded p sub n (cond b (responding.fails (codes "parse-error")) (tree lit)) s
      by true = refl
      by false = refl

  text-same : (bytes : List ℕ) → sent.with_text p sub n bytes s ≡ responded p sub n (as_text bytes) s
  text-same bytes = by (is_utf8 bytes)
    where
      by : (b : Bool) → cond b (ends.target_by p sub n s sub.target sub.instance >>= λ target. sent.on_target ends.takes_text (sent.put_text p bytes) target s) (sent.fails (codes "parse-error") s)
          ≡ responded p sub n (cond b (text bytes) (responding.fails (codes "parse-error"))) s
      by true = refl
      by false = refl

  with-same : (bytes : List ℕ) (how : Replace) → sent.responded p sub n bytes how s ≡ responded p sub n (responded_with s.form.bindings bytes how) s
  with-same bytes instead.All = refl
  with-same bytes instead.Nothing = refl
  with-same [] instead.Instance = refl
  with-same [] instead.Text = refl
  with-same (c ∷ cs) instead.Instance = tree-same (lit_in (c ∷ cs))
  with-same (c ∷ cs) instead.Text = text-same (c ∷ cs)

  pub answered-shown : (given : Answer) → sent.answered p sub n given s ≡ responded p sub n (responded_by s.form.bindings sub given) s
  answered-shown answer.PutDone = with-same [] sub.replace
  answered-shown (answer.Found bytes) = with-same bytes sub.replace
  answered-shown answer.Failed = refl
  answered-shown answer.Absent = refl
  answered-shown answer.TooLong = refl
