-- What expressions are evaluated over, as the definitions of bindings and contexts see it (XForms 1.1, section 7).
use Rattle.std.specs.Prelude.{ℕ, ℤ, Bool, List, [], Option, Some, None, option_map, option_and_then, pos}
use Rattle.std.specs.Int.{int_div_euclid}
use Rattle.xf_base.specs.Limits.{string_limit}
use Rattle.xf_num.specs.Number.{scale, rounded}
use Rattle.xf_name.specs.Bindings.{Bindings}
use Rattle.xf_def_syntax.specs.declared.form.Form.{Form}
use Rattle.xf_def_forest.specs.declared.content.Node.{Node}
use Rattle.xf_def_forest.specs.Forest.{Forest}
use Rattle.xf_def_forest.specs.StringValue.{string_value}
use Rattle.xf_def_forest.specs.Visit.{visits}
use Rattle.xf_funcs.specs.Called.{called}
use Rattle.xf_def_xpath.specs.Conversions.{number_of, truth_of}
use Rattle.xf_def_xpath.specs.Setting.{Focus, Meaning, capped}
use Rattle.xf_def_model.specs.Nested.{nested}
use Rattle.xf_def_model.specs.Rules.{scope_of}
use Rattle.xf_def_ui.specs.Around.{Around, setting}
use Rattle.xf_def_ui.specs.Context.{Context}
use Rattle.xf_def_ui.specs.Interface.{Bound, unbound}
use Rattle.xf_def_ui.specs.Labels.{bound_text}
use Rattle.xf_eval_context.specs.declared.over.Over.{Over}
use Rattle.xf_eval_context.specs.Around.{Indexes, Told, documents_from, event_of, given_in, given_with}
use Rattle.xf_eval_context.specs.Indexes.{indexes_in}

-- the binds of a form see no indexes and no event
abbrev pub around_with : Indexes → Form → Bindings → Forest → Option Told → Around
around_with indexes form prefixes forest event = record {
  functions = called;
  most = Some string_limit;
  given = given_with indexes form.tables.instances prefixes form.decimals (documents_from 0 form.tables.instances forest.nodes) event;
  all = visits forest.nodes;
  bound = λ k. nested (Some string_limit) (scope_of called (given_in form.tables.instances prefixes form.decimals forest None) form.tables 0) (visits forest.nodes) k;
}

-- without rows
abbrev pub around_of : Form → Bindings → Forest → Option Told → Around
around_of form prefixes forest event = around_with [] form prefixes forest event

abbrev pub around_over : Over → Around
around_over o = around_with (indexes_in o.form.now o.indexes) o.form.now o.prefixes.now o.forest.now.forest (event_of o.told)

-- an expression as a truth
abbrev pub truth_worth : Around → ℕ → Focus → Meaning → Option Bool
truth_worth a model c m = option_map truth_of (m (setting a model c.node) c)

-- a number as a whole one (XPath 1.0, section 4.4): None is NaN
abbrev pub whole_of : ℕ → Option ℤ → Option ℤ
whole_of d k = option_map (λ units. int_div_euclid units (pos (scale d))) (rounded d k)

-- an expression as a whole number: None within is NaN
abbrev pub whole_worth : Around → ℕ → Focus → Meaning → Option (Option ℤ)
whole_worth a model c m = option_and_then (λ value. option_map (whole_of a.given.decimals) (number_of (setting a model c.node) value)) (m (setting a model c.node) c)

-- the string value of a node, held to the limit
abbrev pub string_in : List Node → ℕ → Option (List ℕ)
string_in nodes n = capped (Some string_limit) (string_value n (visits nodes))

-- the text of what is bound, else this one
abbrev pub text_or : Around → Context → List ℕ → Bound → Option (List ℕ)
text_or a c resource unbound = Some resource
text_or a c resource binding = bound_text a c binding
