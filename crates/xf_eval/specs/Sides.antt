-- One side of a comparison beside others (XPath 1.0, section 3.4): a plain value, its text lent or made.
use Rattle.std.specs.Prelude.{ℕ, Bool, true, false, List, Option, Some}
use Rattle.std.specs.List.{list_any}
use Rattle.xf_def_syntax.specs.declared.expr.Operator.{Operator}
use Rattle.xf_def_values.specs.declared.plain.Plain.{Plain}
use Rattle.xf_def_values.specs.declared.plain.Plain.TheVariants as plain
use Rattle.xf_def_xpath.specs.declared.value.Value.{Value}
use Rattle.xf_def_xpath.specs.declared.value.Value.TheVariants as value
use Rattle.xf_def_xpath.specs.Setting.{Setting, ◌>>=◌}
use Rattle.xf_def_xpath.specs.Conversions.{is_filled}
use Rattle.xf_def_xpath.specs.Comparisons.{holds, plains_of, some_pair}
use Rattle.xf_def_xpath.specs.Conversions.{value_of_plain}
use Rattle.xf_eval.specs.declared.compare.Operand.{Operand}
use Rattle.xf_eval.specs.declared.compare.Operand.TheVariants as operand
use Rattle.xf_eval.specs.declared.compare.Side.{Side}
use Rattle.xf_eval.specs.declared.compare.Side.TheVariants.{Text, Number, Truth}
use Rattle.xf_eval.specs.Texts.{characters}

-- the plain value of a side
abbrev pub plain_on : Side → Plain
plain_on (Text text) = plain.Text (characters text)
plain_on (Number k) = plain.Number k
plain_on (Truth b) = plain.Truth b

-- the operator holds between one, which is the left side or the right one, and some of the others
abbrev pub holds_for_some : ℕ → Operator → Bool → List Side → Plain → Bool
holds_for_some d operator true others one = list_any (λ other. holds d operator one (plain_on other)) others
holds_for_some d operator false others one = list_any (λ other. holds d operator (plain_on other) one) others

-- so it does for some of these texts
abbrev pub some_beside : ℕ → Operator → Bool → List Side → List (List ℕ) → Bool
some_beside d operator is_left others texts = list_any (λ text. holds_for_some d operator is_left others (plain.Text text)) texts

-- the value on one side
abbrev pub value_in : Operand → Value
value_in (operand.Nodes ns) = value.Nodes ns
value_in (operand.Plain side) = value_of_plain (plain_on side)
