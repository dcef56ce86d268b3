-- Operators (XPath 1.0, sections 3.3 to 3.5).
use Rattle.std.specs.Prelude.{ℕ, ◌%◌, Bool, true, false, List, [], ◌∷◌, ◌++◌, Option, Some, option_map, ◌==◌, if◌then◌else◌}
use Rattle.xf_num.specs.Number.{sum, difference, product, quotient, remainder}
use Rattle.xf_num.specs.Written.{negated}
use Rattle.xf_def_syntax.specs.declared.expr.Operator.{Operator}
use Rattle.xf_def_syntax.specs.declared.expr.Operator.TheVariants.{Or, And, Add, Subtract, Multiply, Divide, Modulo, Union}
use Rattle.xf_def_xpath.specs.declared.value.Value.{Value}
use Rattle.xf_def_xpath.specs.declared.value.Value.TheVariants.{Nodes, Number, Truth}
use Rattle.xf_def_values.specs.Conversions.{Decimal}
use Rattle.xf_def_xpath.specs.Setting.{Setting, Meaning, LinkMeaning, ◌>>=◌, in_order}
use Rattle.xf_def_xpath.specs.Conversions.{nodes_of, truth_of, number_of}
use Rattle.xf_def_xpath.specs.Comparisons.{compared}

-- ---- `or` and `and` (section 3.4): the right side is not evaluated where the left one decides

abbrev pub truly : Option Value → Option Value
truly value = option_map (λ v. Truth (truth_of v)) value

abbrev pub or_else : Bool → Option Value → Option Value
or_else true right = Some (Truth true)
or_else false right = truly right

abbrev pub and_then : Bool → Option Value → Option Value
and_then true right = truly right
and_then false right = Some (Truth false)

-- ---- the others: both sides are evaluated

abbrev pub computed : Setting → (Decimal → Decimal → Decimal) → Value → Value → Option Value
computed s operation left right = do
  j ← number_of s left
  k ← number_of s right
  Some (Number (operation j k))

abbrev pub united : Setting → Value → Value → Value
united s left right = Nodes (in_order s.all (nodes_of left ++ nodes_of right))

abbrev pub combined : Operator → Setting → Value → Value → Option Value
combined Add s left right = computed s sum left right
combined Subtract s left right = computed s difference left right
combined Multiply s left right = computed s (product s.given.decimals) left right
combined Divide s left right = computed s (quotient s.given.decimals) left right
combined Modulo s left right = computed s remainder left right
combined Union s left right = Some (united s left right)
combined comparison s left right = option_map Truth (compared s comparison left right)

-- ---- a chain

abbrev pub linked : Operator → Value → Meaning → Meaning
linked Or left right s c = or_else (truth_of left) (right s c)
linked And left right s c = and_then (truth_of left) (right s c)
linked operator left right s c = right s c >>= combined operator s left

-- from left to right
abbrev pub chained : List LinkMeaning → Value → Meaning
chained [] left s c = Some left
chained (link ∷ links) left s c = do
  value ← linked link.operator left link.right s c
  chained links value s c

-- ---- unary minus (section 3.5), so many times

abbrev pub signed : ℕ → Decimal → Decimal
signed signs k = if signs % 2 == 0 then k else negated k
