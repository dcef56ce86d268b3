-- Values of operators, conversions and comparisons.
use Rattle.std.proofs.Common.{◌≡◌, true, false, [], ◌∷◌, pos, negsuc, Some, None, refl, codes}
use Rattle.xf_num.specs.Number.{scale}
use Rattle.xf_name.specs.declared.axis.Axis.TheVariants as axis
use Rattle.xf_def_syntax.specs.declared.expr.Operator.TheVariants as operator
use Rattle.xf_def_xpath.specs.declared.value.Value.TheVariants.{Nodes, Text, Number, Truth}
use Rattle.xf_def_xpath.specs.Asked.{Trace}
use Rattle.xf_def_xpath.specs.Examples.{worth, worth_within, simple, below, child, path, from_root, filter_by, number, units, literal, call, minus, two, three}

-- //a, whose numbers are 1, 2, 4 and 3; c, which is empty
abbrev all_a : Trace
all_a = from_root (below axis.Child (simple (codes "a")) [] ∷ [])

abbrev none : Trace
none = path (child (codes "none") ∷ [])

abbrev yes : Trace
yes = call 44 []

abbrev no : Trace
no = call 14 []

-- ---- arithmetic

-- 1 - 2 - 3
from_the_left : worth 1 (three (number 1) operator.Subtract (number 2) operator.Subtract (number 3)) ≡ Some (Number (Some (negsuc 3999999)))
from_the_left = refl

a_third : worth 1 (two (number 1) operator.Divide (number 3)) ≡ Some (Number (Some (pos 333333)))
unfolding scale
a_third = refl

by_zero : worth 1 (two (number 1) operator.Divide (number 0)) ≡ Some (Number None)
by_zero = refl

half_of_half : worth 1 (two (units 500000) operator.Multiply (units 500000)) ≡ Some (Number (Some (pos 250000)))
unfolding scale
half_of_half = refl

out_of_range : worth 1 (two (units 999999999999999999) operator.Add (units 1)) ≡ Some (Number None)
out_of_range = refl

-- -7 mod 2
sign_of_the_dividend : worth 1 (two (minus 1 (number 7)) operator.Modulo (number 2)) ≡ Some (Number (Some (negsuc 999999)))
sign_of_the_dividend = refl

-- --7, and -'x'
two_signs : worth 1 (minus 2 (number 7)) ≡ Some (Number (Some (pos 7000000)))
two_signs = refl

minus_no_number : worth 1 (minus 1 (literal (codes "x"))) ≡ Some (Number None)
minus_no_number = refl

-- //a + 1: of a set the first node counts; none + 1
first_counts : worth 1 (two all_a operator.Add (number 1)) ≡ Some (Number (Some (pos 2000000)))
unfolding scale
first_counts = refl

no_node_is_no_number : worth 1 (two none operator.Add (number 1)) ≡ Some (Number None)
no_node_is_no_number = refl

-- true() + true()
truths_are_numbers : worth 1 (two yes operator.Add yes) ≡ Some (Number (Some (pos 2000000)))
unfolding scale
truths_are_numbers = refl

-- ---- comparisons

-- //a = 3, //a != 3: some node each
some_node_is : worth 1 (two all_a operator.Equal (number 3)) ≡ Some (Truth true)
unfolding scale
some_node_is = refl

some_node_is_not : worth 1 (two all_a operator.NotEqual (number 3)) ≡ Some (Truth true)
unfolding scale
some_node_is_not = refl

-- //a = '3.0': as texts
as_texts : worth 1 (two all_a operator.Equal (literal (codes "3.0"))) ≡ Some (Truth false)
as_texts = refl

-- '3.0' = 3: as numbers
as_numbers : worth 1 (two (literal (codes "3.0")) operator.Equal (number 3)) ≡ Some (Truth true)
unfolding scale
as_numbers = refl

-- //a > 4, 4 > //a, //a < //a
none_is_greater : worth 1 (two all_a operator.Greater (number 4)) ≡ Some (Truth false)
unfolding scale
none_is_greater = refl

some_is_less : worth 1 (two (number 4) operator.Greater all_a) ≡ Some (Truth true)
unfolding scale
some_is_less = refl

some_pair_is : worth 1 (two all_a operator.Less all_a) ≡ Some (Truth true)
unfolding scale
some_pair_is = refl

-- none = none, none != none: no pair
no_pair : worth 1 (two none operator.Equal none) ≡ Some (Truth false)
no_pair = refl

no_pair_differs : worth 1 (two none operator.NotEqual none) ≡ Some (Truth false)
no_pair_differs = refl

-- none = false(), //a = true(): beside a truth a set is one
no_node_is_false : worth 1 (two none operator.Equal no) ≡ Some (Truth true)
no_node_is_false = refl

a_set_is_true : worth 1 (two all_a operator.Equal yes) ≡ Some (Truth true)
a_set_is_true = refl

a_set_is_not_false : worth 1 (two no operator.Equal all_a) ≡ Some (Truth false)
a_set_is_not_false = refl

-- //a <= true(): as 1 <= 1
a_set_is_one : worth 1 (two all_a operator.LessOrEqual yes) ≡ Some (Truth true)
unfolding scale
a_set_is_one = refl

-- true() < 2, true() = 2: by order a truth is a number, by equality the number is a truth
a_truth_is_less : worth 1 (two yes operator.Less (number 2)) ≡ Some (Truth true)
unfolding scale
a_truth_is_less = refl

a_truth_is_equal : worth 1 (two yes operator.Equal (number 2)) ≡ Some (Truth true)
a_truth_is_equal = refl

-- 'x' = 'x' and 'x' < 'y': texts have no order
texts_are_equal : worth 1 (two (literal (codes "x")) operator.Equal (literal (codes "x"))) ≡ Some (Truth true)
texts_are_equal = refl

texts_have_no_order : worth 1 (two (literal (codes "x")) operator.Less (literal (codes "y"))) ≡ Some (Truth false)
texts_have_no_order = refl

-- NaN = NaN and NaN != NaN
nan_is_nothing : worth 1 (two (minus 1 none) operator.Equal (minus 1 none)) ≡ Some (Truth false)
nan_is_nothing = refl

nan_differs : worth 1 (two (minus 1 none) operator.NotEqual (minus 1 none)) ≡ Some (Truth true)
nan_differs = refl

-- (3 > 2) > 1: from the left, a truth against a number
a_chain_of_comparisons : worth 1 (three (number 3) operator.Greater (number 2) operator.Greater (number 1)) ≡ Some (Truth false)
unfolding scale
a_chain_of_comparisons = refl

-- ---- truths and strings too long

-- none or 'x', //a and none
or_is_a_truth : worth 1 (two none operator.Or (literal (codes "x"))) ≡ Some (Truth true)
or_is_a_truth = refl

and_is_a_truth : worth 1 (two all_a operator.And none) ≡ Some (Truth false)
and_is_a_truth = refl

-- strings of one byte at most: 'ab'
abbrev long : Trace
long = literal (codes "ab")

too_long : worth_within 1 1 long ≡ None
too_long = refl

just_fits : worth_within 2 1 long ≡ Some (Text (codes "ab"))
just_fits = refl

or_does_not_ask : worth_within 1 1 (two yes operator.Or long) ≡ Some (Truth true)
or_does_not_ask = refl

or_asks : worth_within 1 1 (two no operator.Or long) ≡ None
or_asks = refl

and_does_not_ask : worth_within 1 1 (two no operator.And long) ≡ Some (Truth false)
and_does_not_ask = refl

-- true() or 'ab' or 'ab'
the_chain_does_not_ask : worth_within 1 1 (three yes operator.Or long operator.Or long) ≡ Some (Truth true)
the_chain_does_not_ask = refl

-- /d = 'x' makes the string of d, /d = true() makes none
a_comparison_makes_strings : worth_within 3 1 (two (path []) operator.Equal (literal (codes "x"))) ≡ None
a_comparison_makes_strings = refl

beside_a_truth_none : worth_within 3 1 (two (path []) operator.Equal yes) ≡ Some (Truth true)
beside_a_truth_none = refl

-- //a | b, 1 | //a, none | none
united : worth 1 (two all_a operator.Union (path (child (codes "b") ∷ []))) ≡ Some (Nodes (2 ∷ 4 ∷ 6 ∷ 8 ∷ 10 ∷ 11 ∷ []))
united = refl

a_plain_value_is_no_node : worth 1 (two (number 1) operator.Union all_a) ≡ Some (Nodes (4 ∷ 6 ∷ 8 ∷ 11 ∷ []))
a_plain_value_is_no_node = refl

a_filter_on_a_plain_value : worth 1 (filter_by (number 1) (number 1 ∷ [])) ≡ Some (Nodes [])
a_filter_on_a_plain_value = refl
