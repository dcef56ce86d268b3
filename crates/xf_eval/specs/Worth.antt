-- The setting in which values of a forest are converted, with d decimals (XPath 1.0, sections 1 and 4).
use Rattle.std.specs.Prelude.{ℕ, List, [], map, Option, Some, None, option_map}
use Rattle.xf_base.specs.Limits.{string_limit}
use Rattle.xf_def_forest.specs.declared.content.Node.{Node}
use Rattle.xf_def_forest.specs.Visit.{Visit, visits}
use Rattle.xf_def_forest.specs.Shape.{erased}
use Rattle.xf_def_xpath.specs.declared.value.Value.{Value}
use Rattle.xf_def_xpath.specs.Given.{Given}
use Rattle.xf_def_xpath.specs.declared.value.Value.TheVariants.{Number}
use Rattle.xf_def_xpath.specs.Setting.{Setting, ◌>>=◌, setting_over}
use Rattle.xf_def_xpath.specs.Operators.{signed}
use Rattle.xf_def_xpath.specs.Conversions.{number_of, string_of}
use Rattle.xf_def_values.specs.Conversions.{Decimal}
use Rattle.xf_funcs.specs.Called.{called}

-- a conversion asks no more of what surrounds an expression
abbrev pub nothing_around : ℕ → Given
nothing_around d = record { documents = []; indexes = []; event = None; bindings = record { spaces = []; prefixes = [] }; decimals = d }

abbrev pub setting_in : ℕ → List Node → Setting
setting_in d nodes = setting_over called (Some string_limit) (nothing_around d) (visits nodes) 0 0

-- where no number is made, decimals do not count
abbrev pub bare_setting : List Node → Setting
bare_setting nodes = setting_in 0 nodes

-- the visits of its nodes, with empty texts
abbrev pub seen : List Node → List Visit
seen nodes = map erased (visits nodes)

abbrev pub text_worth : ℕ → List Node → Value → Option (List ℕ)
text_worth d nodes value = string_of (setting_in d nodes) value

abbrev pub number_worth : ℕ → List Node → Value → Option Decimal
number_worth d nodes value = number_of (setting_in d nodes) value

-- the number of a value behind so many signs
abbrev pub negated_worth : ℕ → ℕ → List Node → Option Value → Option Value
negated_worth d signs nodes value = option_map (λ k. Number (signed signs k)) (value >>= number_worth d nodes)
