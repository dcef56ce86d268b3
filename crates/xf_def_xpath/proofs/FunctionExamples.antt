-- Values of functions.
use Rattle.std.proofs.Common.{◌≡◌, true, false, [], ◌∷◌, pos, Some, None, refl, codes}
use Rattle.std.specs.Fmt.{digits}
use Rattle.xf_num.specs.Number.{scale}
use Rattle.xf_name.specs.declared.axis.Axis.TheVariants as axis
use Rattle.xf_def_syntax.specs.declared.expr.Operator.TheVariants as operator
use Rattle.xf_def_forest.specs.Visit.{visits}
use Rattle.xf_def_xpath.specs.declared.value.Value.TheVariants.{Nodes, Text, Number, Truth}
use Rattle.xf_def_xpath.specs.Asked.{Trace}
use Rattle.xf_def_xpath.specs.Binding.{first_bound, bound_nodes}
use Rattle.xf_def_xpath.specs.Examples.{nodes, worth, worth_within, simple, step, below, child, up, here, path, from_root, from, filter_by, number, literal, call, two}

abbrev all_a : Trace
all_a = from_root (below axis.Child (simple (codes "a")) [] ∷ [])

abbrev none : Trace
none = path (child (codes "none") ∷ [])

-- ---- of nodes

count_of_all : worth 1 (call 8 (all_a ∷ [])) ≡ Some (Number (Some (pos 4000000)))
unfolding scale
count_of_all = refl

-- count(1): a plain value is the empty set
count_of_a_plain_value : worth 1 (call 8 (number 1 ∷ [])) ≡ Some (Number (Some (pos 0)))
unfolding scale
count_of_a_plain_value = refl

count_of_the_filled : worth 1 (call 9 (path (step axis.Child (simple (codes "b")) [] ∷ []) ∷ [])) ≡ Some (Number (Some (pos 2000000)))
unfolding scale
count_of_the_filled = refl

an_empty_one_is_not_counted : worth 1 (call 9 (path (child (codes "c") ∷ []) ∷ [])) ≡ Some (Number (Some (pos 0)))
unfolding scale
an_empty_one_is_not_counted = refl

sum_of_all : worth 1 (call 42 (all_a ∷ [])) ≡ Some (Number (Some (pos 10000000)))
unfolding scale
sum_of_all = refl

sum_of_none : worth 1 (call 42 (none ∷ [])) ≡ Some (Number (Some (pos 0)))
sum_of_none = refl

-- sum(c): the empty text is no number
sum_of_no_number : worth 1 (call 42 (path (child (codes "c") ∷ []) ∷ [])) ≡ Some (Number None)
sum_of_no_number = refl

average_of_all : worth 1 (call 0 (all_a ∷ [])) ≡ Some (Number (Some (pos 2500000)))
unfolding scale
average_of_all = refl

average_of_none : worth 1 (call 0 (none ∷ [])) ≡ Some (Number None)
unfolding scale
average_of_none = refl

greatest_of_all : worth 1 (call 21 (all_a ∷ [])) ≡ Some (Number (Some (pos 4000000)))
unfolding scale
greatest_of_all = refl

least_of_all : worth 1 (call 22 (all_a ∷ [])) ≡ Some (Number (Some (pos 1000000)))
unfolding scale
least_of_all = refl

least_of_none : worth 1 (call 22 (none ∷ [])) ≡ Some (Number None)
least_of_none = refl

-- max(//a | c): NaN where one is
greatest_with_no_number : worth 1 (call 21 (two all_a operator.Union (path (child (codes "c") ∷ [])) ∷ [])) ≡ Some (Number None)
unfolding scale
greatest_with_no_number = refl

-- count(preceding-sibling::a) + 1, count(../preceding-sibling::b) + 1
place_in_the_row : worth 8 (two (call 8 (path (step axis.PrecedingSibling (simple (codes "a")) [] ∷ []) ∷ [])) operator.Add (number 1)) ≡ Some (Number (Some (pos 3000000)))
unfolding scale
place_in_the_row = refl

place_of_the_row : worth 11 (two (call 8 (path (up false ∷ step axis.PrecedingSibling (simple (codes "b")) [] ∷ []) ∷ [])) operator.Add (number 1)) ≡ Some (Number (Some (pos 2000000)))
unfolding scale
place_of_the_row = refl

-- name(//a), local-name(), namespace-uri(/)
name_of_the_first : worth 1 (call 24 (all_a ∷ [])) ≡ Some (Text (codes "a"))
name_of_the_first = refl

name_of_the_context_node : worth 3 (call 20 []) ≡ Some (Text (codes "k"))
name_of_the_context_node = refl

the_root_has_no_name : worth 3 (call 24 (from_root [] ∷ [])) ≡ Some (Text [])
the_root_has_no_name = refl

-- ---- conversions

-- string(//a), string(), string(none), string(1.5), string(true())
string_of_the_first : worth 1 (call 37 (all_a ∷ [])) ≡ Some (Text (codes "1"))
string_of_the_first = refl

string_of_the_context_node : worth 2 (call 37 []) ≡ Some (Text (codes "124"))
string_of_the_context_node = refl

string_of_none : worth 1 (call 37 (none ∷ [])) ≡ Some (Text [])
string_of_none = refl

string_of_a_number : worth 1 (call 37 (number 12 ∷ [])) ≡ Some (Text (codes "12"))
unfolding scale digits
string_of_a_number = refl

string_of_a_truth : worth 1 (call 37 (call 44 [] ∷ [])) ≡ Some (Text (codes "true"))
string_of_a_truth = refl

-- number(@k), number()
number_of_an_attribute : worth 2 (call 28 (path (step axis.Attribute (simple (codes "k")) [] ∷ []) ∷ [])) ≡ Some (Number (Some (pos 7000000)))
unfolding scale
number_of_an_attribute = refl

number_of_the_context_node : worth 6 (call 28 []) ≡ Some (Number (Some (pos 2000000)))
unfolding scale
number_of_the_context_node = refl

-- boolean('false'), not(none), boolean(0)
a_text_is_true : worth 1 (call 1 (literal (codes "false") ∷ [])) ≡ Some (Truth true)
a_text_is_true = refl

no_node_is_false : worth 1 (call 27 (none ∷ [])) ≡ Some (Truth true)
no_node_is_false = refl

zero_is_false : worth 1 (call 1 (number 0 ∷ [])) ≡ Some (Truth false)
zero_is_false = refl

-- boolean(/d) makes no string
a_truth_needs_no_string : worth_within 3 1 (call 1 (path [] ∷ [])) ≡ Some (Truth true)
a_truth_needs_no_string = refl

-- ---- branches

abbrev long : Trace
long = literal (codes "ab")

if_gives_a_string : worth 1 (call 16 (call 44 [] ∷ path (child (codes "b") ∷ []) ∷ none ∷ [])) ≡ Some (Text (codes "124"))
if_gives_a_string = refl

if_asks_one_branch : worth_within 1 1 (call 16 (none ∷ long ∷ literal (codes "y") ∷ [])) ≡ Some (Text (codes "y"))
if_asks_one_branch = refl

choose_gives_nodes : worth 1 (call 4 (all_a ∷ path (child (codes "b") ∷ []) ∷ long ∷ [])) ≡ Some (Nodes (2 ∷ 10 ∷ []))
choose_gives_nodes = refl

choose_asks_one_branch : worth_within 1 1 (call 4 (none ∷ long ∷ number 1 ∷ [])) ≡ Some (Number (Some (pos 1000000)))
choose_asks_one_branch = refl

-- ---- what surrounds the expression

-- instance(), instance(''), instance('z')/x, instance('y')
first_instance : worth 16 (call 18 []) ≡ Some (Nodes (1 ∷ []))
first_instance = refl

empty_id : worth 16 (call 18 (literal [] ∷ [])) ≡ Some (Nodes (1 ∷ []))
empty_id = refl

by_its_id : worth 1 (from (call 18 (literal (codes "z") ∷ [])) (child (codes "x") ∷ [])) ≡ Some (Nodes (16 ∷ []))
by_its_id = refl

no_such_instance : worth 1 (call 18 (literal (codes "y") ∷ [])) ≡ Some (Nodes [])
no_such_instance = refl

-- index('r'), index('s')
index_of_a_repeat : worth 1 (call 17 (literal (codes "r") ∷ [])) ≡ Some (Number (Some (pos 2000000)))
unfolding scale
index_of_a_repeat = refl

no_such_repeat : worth 1 (call 17 (literal (codes "s") ∷ [])) ≡ Some (Number None)
no_such_repeat = refl

-- event('position'), event('inserted-nodes')[2], event('x')
a_property : worth 1 (call 13 (literal (codes "position") ∷ [])) ≡ Some (Text (codes "after"))
a_property = refl

a_property_of_nodes : worth 1 (filter_by (call 13 (literal (codes "inserted-nodes") ∷ [])) (number 2 ∷ [])) ≡ Some (Nodes (8 ∷ []))
unfolding scale
a_property_of_nodes = refl

no_such_property : worth 1 (call 13 (literal (codes "x") ∷ [])) ≡ Some (Nodes [])
no_such_property = refl

-- //a[. = current()]: the context node of the whole, also inside a predicate
the_whole_s_context_node : worth 6 (from_root (below axis.Child (simple (codes "a")) (two (path (here false ∷ [])) operator.Equal (call 10 []) ∷ []) ∷ [])) ≡ Some (Nodes (6 ∷ []))
the_whole_s_context_node = refl

-- ---- functions of plain values

-- concat(//a, 'x', 1)
arguments_become_plain : worth 1 (call 6 (all_a ∷ literal (codes "x") ∷ number 1 ∷ [])) ≡ Some (Text (codes "1x1"))
unfolding scale digits
arguments_become_plain = refl

a_long_result : worth_within 2 1 (call 6 (all_a ∷ literal (codes "x") ∷ literal (codes "y") ∷ [])) ≡ None
a_long_result = refl

-- ---- what bindings select

a_text_stands_for_its_parent : bound_nodes (visits nodes) (4 ∷ 5 ∷ 12 ∷ []) ≡ 4 ∷ 11 ∷ []
a_text_stands_for_its_parent = refl

the_first_stands_for_its_parent : first_bound (visits nodes) (5 ∷ 6 ∷ []) ≡ 4 ∷ []
the_first_stands_for_its_parent = refl

the_first_stands_for_its_document : first_bound (visits nodes) (14 ∷ 16 ∷ []) ≡ 15 ∷ []
the_first_stands_for_its_document = refl

a_root_stands_for_its_document : bound_nodes (visits nodes) (0 ∷ 3 ∷ 14 ∷ []) ≡ 1 ∷ 3 ∷ 15 ∷ []
a_root_stands_for_its_document = refl
