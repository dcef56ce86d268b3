-- An operator whose sides are both evaluated, `or` and `and` among them where the left side did not decide (XPath 1.0, sections 3.3 to 3.5).
use Rattle.std.specs.Prelude.{ℕ, Bool, true, false, not, Option, Some}
use Rattle.xf_num.specs.Number.{sum, difference, product, quotient, remainder}
use Rattle.xf_def_syntax.specs.declared.expr.Operator.{Operator}
use Rattle.xf_def_syntax.specs.declared.expr.Operator.TheVariants.{Or, And, Add, Subtract, Multiply, Divide, Equal, NotEqual, Less, LessOrEqual, Greater, GreaterOrEqual}
use Rattle.xf_def_xpath.specs.declared.value.Value.{Value}
use Rattle.xf_def_xpath.specs.declared.value.Value.TheVariants.{Truth}
use Rattle.xf_def_xpath.specs.Setting.{Setting}
use Rattle.xf_def_xpath.specs.Conversions.{truth_of}
use Rattle.xf_def_xpath.specs.Operators.{combined}
use Rattle.xf_def_values.specs.Conversions.{Decimal}

-- the left side alone decides
abbrev pub decides : Operator → Bool → Bool
decides Or left = left
decides And left = not left
decides operator left = false

abbrev pub answered : Operator → Setting → Value → Value → Option Value
answered Or s left right = Some (Truth (truth_of right))
answered And s left right = Some (Truth (truth_of right))
answered operator s left right = combined operator s left right

-- the operator compares (section 3.4)
abbrev pub compares : Operator → Bool
compares Equal = true
compares NotEqual = true
compares Less = true
compares LessOrEqual = true
compares Greater = true
compares GreaterOrEqual = true
compares other = false

-- of d decimals
abbrev pub arithmetic : ℕ → Operator → Decimal → Decimal → Decimal
arithmetic d Add j k = sum j k
arithmetic d Subtract j k = difference j k
arithmetic d Multiply j k = product d j k
arithmetic d Divide j k = quotient d j k
arithmetic d other j k = remainder j k
