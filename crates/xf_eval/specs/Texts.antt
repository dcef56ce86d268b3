-- What is made of the string values of nodes (XPath 1.0, sections 4.4 and 5), where they are too long nothing.
use Rattle.std.specs.Prelude.{ℕ, List, Option, option_map, fold}
use Rattle.xf_def_forest.specs.declared.content.Node.{Node}
use Rattle.xf_num.specs.Number.{sum}
use Rattle.xf_num.specs.Written.{read_at}
use Rattle.xf_def_values.specs.Conversions.{Decimal}
use Rattle.xf_def_xpath.specs.Setting.{each}
use Rattle.xf_def_xpath.specs.Conversions.{string_of_node}
use Rattle.xf_def_xpath.specs.Functions.{greater, lesser}
use Rattle.xf_eval.specs.declared.kinds.Kind.{Kind}
use Rattle.xf_eval.specs.declared.kinds.Kind.TheVariants as kind
use Rattle.xf_eval.specs.declared.texts.StringValue.{StringValue}
use Rattle.xf_eval.specs.declared.texts.StringValue.TheVariants.{Lent, Made}
use Rattle.xf_eval.specs.Worth.{bare_setting}

-- the characters of a string value
abbrev pub characters : StringValue → List ℕ
characters (Lent text) = text.now
characters (Made text) = text

-- the number of d decimals that the string value of a node is
abbrev pub number_at : ℕ → List Node → ℕ → Option Decimal
number_at d nodes n = option_map (read_at d) (string_of_node (bare_setting nodes) n)

-- what a function of numbers makes of one that came and the next one
abbrev pub combined : Kind → Decimal → Decimal → Decimal
combined kind.Greatest j k = greater j k
combined kind.Least j k = lesser j k
combined other j k = sum j k

-- what it makes of a first number and of those of these nodes
abbrev pub folded : ℕ → Kind → List Node → Decimal → List ℕ → Option Decimal
folded d kind nodes first ns = option_map (fold (combined kind) first) (each (number_at d nodes) ns)
