-- What a submission selects, by the calls that evaluate bindings.
use Rattle.std.proofs.Common.{◌≡◌, ◌<◌, ◌≤◌, ℕ, zero, suc, List, [], ◌∷◌, ◌++◌, map, length, Option, Some, None, option_map, slice_get, refl, sym, ap, ◌∙◌, arith}
use Rattle.xf_base.specs.Limits.{string_limit}
use Rattle.xf_def_syntax.specs.declared.expr.Expr.{Expr}
use Rattle.xf_def_syntax.specs.declared.form.Bind.{Bind}
use Rattle.xf_def_forest.specs.Visit.{Visit, first_of, visits}
use Rattle.xf_def_xpath.specs.declared.value.Value.{Value}
use Rattle.xf_def_xpath.specs.Binding.{as_list, first_bound}
use Rattle.xf_def_xpath.specs.Conversions.{nodes_of}
use Rattle.xf_def_xpath.specs.Given.{first_document}
use Rattle.xf_def_xpath.specs.Meaning.{meaning}
use Rattle.xf_def_xpath.specs.Reads.{trace}
use Rattle.xf_def_xpath.specs.Setting.{◌>>=◌, each, joined}
use Rattle.xf_def_xpath.proofs.TraceKeeps.{meaning-of_trace}
use Rattle.xf_def_model.specs.Nested.{alone, nested, setting_for}
use Rattle.xf_def_model.specs.Rules.{Rule, for_binds, model_or, rule_of}
use Rattle.xf_def_model.specs.Submitted.{by_expression, first_from, first_in}
use Rattle.xf_def_ui.specs.Around as ui
use Rattle.xf_eval_context.specs.Nested.Chain.{through}
use Rattle.xf_eval_context.proofs.NestedLemmas.ChainLaws.{through-none}
use Rattle.xf_eval_context.specs.declared.over.Over.{Over}
use Rattle.xf_eval_context.specs.Over.{around_over}
use Rattle.xf_submit.specs.Selecting.{scope_over}

pub first-listed : (d : Option ℕ) → first_in (as_list d) ≡ d
first-listed None = refl
first-listed (Some n) = refl

pub first-got : (ns : List ℕ) → slice_get ns 0 ≡ first_in ns
first-got [] = refl
first-got (n ∷ ns) = refl

first-same : (ns : List ℕ) → first_of ns ≡ first_in (ns ++ [])
first-same [] = refl
first-same (n ∷ ns) = refl

module _ (o : Over) where
  abbrev all : List Visit
  all = visits o.forest.now.forest.nodes

  abbrev document : ℕ → Option ℕ
  document model = first_document model (around_over o).given.documents

  -- ---- by an expression

  abbrev first_of_each : ℕ → Expr → List ℕ → Option (Option ℕ)
  first_of_each model e ns = option_map (λ sets. first_in (joined sets)) (each (first_from (Some string_limit) (scope_over o model) all (trace e)) ns)

  abbrev first_of_value : Option Value → Option (Option ℕ)
  first_of_value m = option_map (λ sets. first_in (joined sets)) (option_map (λ v. first_bound all (nodes_of v)) m >>= λ ns. Some (ns ∷ []))

  stand : (ns : List ℕ) → ui.first_stand (around_over o) ns ≡ first_in (joined (first_bound all ns ∷ []))
  stand [] = refl
  stand (n ∷ ns) = first-same (first_bound all (n ∷ ns))

  one : (m : Option Value) → option_map (ui.first_stand (around_over o)) (option_map nodes_of m) ≡ first_of_value m
  one None = refl
  one (Some v) = ap Some (stand (nodes_of v))

  pub by-first : (model n : ℕ) (e : Expr) → document model ≡ Some n
      → option_map (ui.first_stand (around_over o)) (ui.selected_by (around_over o) model (ui.alone n) (meaning e)) ≡ by_expression (Some string_limit) (scope_over o model) all (trace e)
  by-first model n e h =
      one (meaning e (ui.setting (around_over o) model n) (ui.alone n))
      ∙ sym (ap (λ m. first_of_value (m (setting_for (Some string_limit) (scope_over o model) all n) (alone n))) (meaning-of_trace e))
      ∙ sym (ap (first_of_each model e) (ap as_list h))

  pub by-none : (model : ℕ) (e : Expr) → document model ≡ None → by_expression (Some string_limit) (scope_over o model) all (trace e) ≡ Some None
  by-none model e h = ap (first_of_each model e) (ap as_list h)

  -- ---- by a bind, which is evaluated with its own model

  abbrev binds : List Bind
  binds = o.form.now.tables.binds

  abbrev bound_in : ℕ → ℕ → Option (List ℕ)
  bound_in model k = nested (Some string_limit) (for_binds (scope_over o model)) all k

  abbrev bound_with : Option Rule → ℕ → ℕ → Option (List ℕ)
  bound_with r model k = through (for_binds (scope_over o model)).given binds (model_or model r) all k

  past : (bs : List Bind) (k : ℕ) → length bs ≤ k → slice_get (map rule_of bs) k ≡ None
  past [] zero h = refl
  past [] (suc k) h = refl
  past (b ∷ bs) zero h = absurd (omega arith)
  past (b ∷ bs) (suc k) h = past bs k (omega arith)

  present : (bs : List Bind) (k : ℕ) → k < length bs → (r : Rule) × (slice_get (map rule_of bs) k ≡ Some r)
  present [] k h = absurd (omega arith)
  present (b ∷ bs) zero h = (rule_of b, refl)
  present (b ∷ bs) (suc k) h = present bs k (omega arith)

  pub bind-none : (model k : ℕ) → length binds ≤ k → option_map first_in (bound_in model k) ≡ Some (document model)
  bind-none model k h =
      ap (λ r. option_map first_in (bound_with r model k)) (past binds k h)
      ∙ ap (option_map first_in) (through-none (for_binds (scope_over o model)).given binds model all k h)
      ∙ ap Some (first-listed (document model))

  pub bind-own : (model k : ℕ) → k < length binds → bound_in 0 k ≡ bound_in model k
  bind-own model k h =
      let r = present binds k h in
      ap (λ r. bound_with r 0 k) r.1 ∙ sym (ap (λ r. bound_with r model k) r.1)
