-- Comparisons (XPath 1.0, section 3.4).
use Rattle.std.specs.Prelude.{ℕ, Bool, true, false, not, ◌||◌, List, [], ◌∷◌, map, Option, Some, option_map, bytes_eq}
use Rattle.std.specs.List.{list_any}
use Rattle.std.specs.declared.cmp.Ordering.{Ordering}
use Rattle.std.specs.declared.cmp.Ordering.TheVariants as order
use Rattle.xf_num.specs.Number.{order_of}
use Rattle.xf_def_syntax.specs.declared.expr.Operator.{Operator}
use Rattle.xf_def_syntax.specs.declared.expr.Operator.TheVariants.{Equal, NotEqual, Less, LessOrEqual, Greater, GreaterOrEqual}
use Rattle.xf_def_xpath.specs.declared.value.Value.{Value}
use Rattle.xf_def_xpath.specs.declared.value.Value.TheVariants.{Nodes, Truth}
use Rattle.xf_def_values.specs.declared.plain.Plain.{Plain}
use Rattle.xf_def_values.specs.Conversions.{Decimal, truth_in, number_in}
use Rattle.xf_def_values.specs.declared.plain.Plain.TheVariants as plain
use Rattle.xf_def_xpath.specs.Setting.{Setting, ◌>>=◌}
use Rattle.xf_def_xpath.specs.Conversions.{is_filled, strings_of, plain_of}

-- ---- two plain values

-- NaN is neither less than a number, nor equal to one, nor greater
abbrev pub is_less : Option Ordering → Bool
is_less (Some order.Less) = true
is_less other = false

abbrev pub is_equal : Option Ordering → Bool
is_equal (Some order.Equal) = true
is_equal other = false

abbrev pub is_greater : Option Ordering → Bool
is_greater (Some order.Greater) = true
is_greater other = false

abbrev pub is_same_truth : Bool → Bool → Bool
is_same_truth true b = b
is_same_truth false b = not b

abbrev pub is_same_number : Decimal → Decimal → Bool
is_same_number j k = is_equal (order_of j k)

-- as truths where one is a truth, else as numbers where one is a number, else as texts
abbrev pub are_equal : ℕ → Plain → Plain → Bool
are_equal d (plain.Truth a) right = is_same_truth a (truth_in right)
are_equal d (plain.Number j) (plain.Truth b) = is_same_truth (truth_in (plain.Number j)) b
are_equal d (plain.Number j) right = is_same_number j (number_in d right)
are_equal d (plain.Text text) (plain.Truth b) = is_same_truth (truth_in (plain.Text text)) b
are_equal d (plain.Text text) (plain.Number k) = is_same_number (number_in d (plain.Text text)) k
are_equal d (plain.Text text) (plain.Text other) = bytes_eq text other

abbrev pub order_in : ℕ → Plain → Plain → Option Ordering
order_in d left right = order_of (number_in d left) (number_in d right)

-- the operators of equality, and those of order, which compare numbers
abbrev pub holds : ℕ → Operator → Plain → Plain → Bool
holds d Equal left right = are_equal d left right
holds d NotEqual left right = not (are_equal d left right)
holds d Less left right = is_less (order_in d left right)
holds d LessOrEqual left right = is_less (order_in d left right) || is_equal (order_in d left right)
holds d Greater left right = is_greater (order_in d left right)
holds d GreaterOrEqual left right = is_greater (order_in d left right) || is_equal (order_in d left right)
holds d other left right = false

-- ---- two values

-- the plain values that a value is compared by: of a set the string values of its nodes
abbrev pub plains_of : Setting → Value → Option (List Plain)
plains_of s (Nodes ns) = option_map (map plain.Text) (strings_of s ns)
plains_of s value = option_map (λ p. p ∷ []) (plain_of s value)

abbrev pub some_pair : (Plain → Plain → Bool) → List Plain → List Plain → Bool
some_pair test lefts rights = list_any (λ left. list_any (test left) rights) lefts

abbrev pub pairs_hold : Setting → Operator → Value → Value → Option Bool
pairs_hold s operator left right = do
  lefts ← plains_of s left
  rights ← plains_of s right
  Some (some_pair (holds s.given.decimals operator) lefts rights)

-- some pair is as the operator says; beside a truth a set counts as a truth
abbrev pub compared : Setting → Operator → Value → Value → Option Bool
compared s operator (Nodes ns) (Truth b) = Some (holds s.given.decimals operator (plain.Truth (is_filled ns)) (plain.Truth b))
compared s operator (Truth a) (Nodes ns) = Some (holds s.given.decimals operator (plain.Truth a) (plain.Truth (is_filled ns)))
compared s operator left right = pairs_hold s operator left right
