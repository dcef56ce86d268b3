-- What functions make of one value, and of plain values alone (XPath 1.0, section 4; XForms 1.1, section 7), as the evaluator tells them
-- apart.
use Rattle.std.specs.Prelude.{ℕ, [], ◌∷◌, List, not, Option, Some, None, option_map, unwrap_or}
use Rattle.std.specs.Prelude as std
use Rattle.xf_base.specs.Limits.{string_limit}
use Rattle.xf_def_forest.specs.declared.content.Node.{Node}
use Rattle.xf_def_values.specs.declared.plain.Plain.{Plain}
use Rattle.xf_funcs.specs.Called.{called}
use Rattle.xf_def_xpath.specs.declared.value.Value.{Value}
use Rattle.xf_def_xpath.specs.declared.value.Value.TheVariants.{Nodes, Text, Number, Truth}
use Rattle.xf_def_xpath.specs.Given.{Given, beside, document_of, property_of}
use Rattle.xf_def_xpath.specs.Setting.{◌>>=◌}
use Rattle.xf_def_xpath.specs.Binding.{as_list}
use Rattle.xf_def_xpath.specs.Conversions.{nodes_of, number_of, plain_of, string_of, truth_of, value_of_plain}
use Rattle.xf_def_xpath.specs.Functions.{index_number}
use Rattle.xf_eval.specs.declared.kinds.Kind.{Kind}
use Rattle.xf_eval.specs.declared.kinds.Kind.TheVariants as kind
use Rattle.xf_eval.specs.OfNodes.{name_worth, set_worth}
use Rattle.xf_eval.specs.Worth.{bare_setting, setting_in}

-- of plain values, with d decimals
abbrev pub plain_worth : ℕ → ℕ → List Plain → Option Value
plain_worth d code given = option_map value_of_plain (called (Some string_limit) d code given)

-- of the one argument of a function that stands for the context node where none is written
abbrev pub own_worth : ℕ → Kind → ℕ → Given → List Node → Value → Option Value
own_worth d kind.Number code given nodes value = option_map Number (number_of (setting_in d nodes) value)
own_worth d kind.Text code given nodes value = option_map Text (string_of (setting_in d nodes) value)
own_worth d kind.Owning code given nodes value = plain_of (bare_setting nodes) value >>= λ p. plain_worth d code (p ∷ [])
own_worth d other code given nodes value = name_worth other given.bindings nodes (nodes_of value)

-- of the one argument of the other functions, in a model
abbrev pub one_worth : ℕ → Kind → ℕ → Given → List Node → Value → Option Value
one_worth d kind.Boolean model given nodes value = Some (Truth (truth_of value))
one_worth d kind.Not model given nodes value = Some (Truth (std.not (truth_of value)))
one_worth d kind.Event model given nodes value = option_map (λ name. unwrap_or (property_of name given.event) (Nodes [])) (string_of (setting_in d nodes) value)
one_worth d kind.Index model given nodes value = option_map (λ id. Number (index_number d (beside id given.indexes))) (string_of (setting_in d nodes) value)
one_worth d kind.Instance model given nodes value = option_map (λ id. Nodes (as_list (document_of model id given.documents))) (string_of (setting_in d nodes) value)
one_worth d other model given nodes value = set_worth other (setting_in d nodes) (nodes_of value)
