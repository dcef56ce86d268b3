-- The value of an entry is what its expression means in its context, and its text is that of the value.
use Rattle.std.proofs.Common.{◌≡◌, ℕ, List, [], Some, None, sym, ap, ◌∙◌}
use Rattle.xf_base.specs.Limits.{string_limit}
use Rattle.xf_def_syntax.specs.declared.expr.Expr.{Expr}
use Rattle.xf_def_syntax.specs.declared.form.Tables.{Tables}
use Rattle.xf_def_forest.specs.declared.content.Node.{Node}
use Rattle.xf_def_forest.specs.Visit.{visits}
use Rattle.xf_funcs.specs.Called.{called}
use Rattle.xf_def_xpath.specs.declared.context.Context.{Context}
use Rattle.xf_def_xpath.specs.declared.value.Value.{Value}
use Rattle.xf_def_xpath.specs.declared.value.Value.TheVariants.{Nodes}
use Rattle.xf_def_xpath.specs.Given.{Given}
use Rattle.xf_def_xpath.specs.Setting.{◌>>=◌}
use Rattle.xf_def_xpath.specs.Conversions.{string_of}
use Rattle.xf_def_xpath.specs.Meaning.{focus_of, meaning, setting_of}
use Rattle.xf_def_xpath.proofs.TraceKeeps.{meaning-of_trace}
use Rattle.xf_def_model.specs.Rules.{computed_of}
use Rattle.xf_def_model.specs.Nested.{setting_for}
use Rattle.xf_def_model.specs.Entries.{expression_of, text_of, value_by, value_of}
use Rattle.xf_eval.specs.Worth.{setting_in}
use Rattle.xf_eval.proofs.Settings.{string-same}
use Rattle.xf_binds.specs.declared.entry.Entry.{Entry}
use Rattle.xf_binds.specs.Held.{entry_of}
use Rattle.xf_recalc.specs.Settles.{scope_in}

abbrev pub context_of : ℕ → Entry → Context
context_of model e = record { model = model; node = e.node; position = e.position; size = e.size; current = e.node }

module _ (given : Given) (tables : Tables) (model : ℕ) (nodes : List Node) (e : Entry) where
  pub value-some : (expr : Expr) → Some (computed_of expr) ≡ expression_of (scope_in given tables model) (entry_of e) →
      meaning expr (setting_of called given nodes (context_of model e)) (focus_of (context_of model e)) ≡ value_of (Some string_limit) (scope_in given tables model) (visits nodes) (entry_of e)
  value-some expr h =
      ap (λ m. m (setting_of called given nodes (context_of model e)) (focus_of (context_of model e))) (sym (meaning-of_trace expr))
      ∙ ap (value_by (Some string_limit) (scope_in given tables model) (visits nodes) (entry_of e)) h

  pub value-none : None ≡ expression_of (scope_in given tables model) (entry_of e) → value_of (Some string_limit) (scope_in given tables model) (visits nodes) (entry_of e) ≡ Some (Nodes [])
  value-none h = ap (value_by (Some string_limit) (scope_in given tables model) (visits nodes) (entry_of e)) (sym h)

  pub text-some : (d : ℕ) (v : Value) → d ≡ given.decimals → value_of (Some string_limit) (scope_in given tables model) (visits nodes) (entry_of e) ≡ Some v →
      string_of (setting_in d nodes) v ≡ text_of (Some string_limit) (scope_in given tables model) (visits nodes) (entry_of e)
  text-some d v same h =
      ap (λ (k : ℕ). string_of (setting_in k nodes) v) same
      ∙ sym (string-same given nodes (context_of model e) v)
      ∙ sym (ap (λ o. o >>= string_of (setting_for (Some string_limit) (scope_in given tables model) (visits nodes) e.node.number)) h)

  pub text-none : value_of (Some string_limit) (scope_in given tables model) (visits nodes) (entry_of e) ≡ None → text_of (Some string_limit) (scope_in given tables model) (visits nodes) (entry_of e) ≡ None
  text-none h = ap (λ o. o >>= string_of (setting_for (Some string_limit) (scope_in given tables model) (visits nodes) e.node.number)) h
