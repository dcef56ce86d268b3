-- What expressions read and look at, over the shape of a small forest.
use Rattle.std.proofs.Common.{◌≡◌, true, false, [], ◌∷◌, refl, codes}
use Rattle.xf_num.specs.Number.{scale}
use Rattle.xf_name.specs.declared.axis.Axis.TheVariants as axis
use Rattle.xf_def_syntax.specs.declared.expr.Test.TheVariants as test
use Rattle.xf_def_syntax.specs.declared.expr.Operator.TheVariants as operator
use Rattle.xf_def_xpath.specs.Asked.{Trace, WalkTrace}
use Rattle.xf_def_xpath.specs.Examples.{reads, looks, simple, step, below, child, up, here, path, from_root, from, filter_by, number, literal, call, minus, two}

abbrev a : WalkTrace
a = child (codes "a")

abbrev all_a : Trace
all_a = from_root (below axis.Child (simple (codes "a")) [] ∷ [])

abbrev text : WalkTrace
text = step axis.Child test.Text []

-- ---- reading

-- ../c: the whole counts as turned into a text
a_path_reads_its_node : reads 2 (path (up false ∷ child (codes "c") ∷ [])) ≡ 13 ∷ []
a_path_reads_its_node = refl

a_path_looks_at_lists : looks 2 (path (up false ∷ child (codes "c") ∷ [])) ≡ 1 ∷ 13 ∷ []
a_path_looks_at_lists = refl

-- a: the first node alone; a = 1: all; sum(a): all
the_first_is_read : reads 2 (path (a ∷ [])) ≡ 4 ∷ []
the_first_is_read = refl

all_are_compared : reads 2 (two (path (a ∷ [])) operator.Equal (number 1)) ≡ 4 ∷ 6 ∷ 8 ∷ []
all_are_compared = refl

all_are_added : reads 1 (call 42 (all_a ∷ [])) ≡ 4 ∷ 6 ∷ 8 ∷ 11 ∷ []
all_are_added = refl

lists_of_all_are_looked_at : looks 1 (call 42 (all_a ∷ [])) ≡ 0 ∷ 1 ∷ 2 ∷ 4 ∷ 6 ∷ 8 ∷ 10 ∷ 11 ∷ 13 ∷ []
lists_of_all_are_looked_at = refl

-- a = true(), boolean(a), not(a), count(a), name(a) read nothing
nothing_beside_a_truth : reads 2 (two (path (a ∷ [])) operator.Equal (call 44 [])) ≡ []
nothing_beside_a_truth = refl

nothing_beside_a_comparison : reads 2 (two (two (number 1) operator.Less (number 2)) operator.Equal (path (a ∷ []))) ≡ []
nothing_beside_a_comparison = refl

all_beside_choose : reads 2 (two (path (a ∷ [])) operator.Equal (call 4 (call 44 [] ∷ call 44 [] ∷ call 14 [] ∷ []))) ≡ 4 ∷ 6 ∷ 8 ∷ []
all_beside_choose = refl

nothing_for_a_truth : reads 2 (two (path (a ∷ [])) operator.Or (call 27 (path (a ∷ []) ∷ []))) ≡ []
nothing_for_a_truth = refl

nothing_for_a_name : reads 2 (call 24 (path (a ∷ []) ∷ [])) ≡ []
nothing_for_a_name = refl

-- count(../preceding-sibling::b) + 1
nothing_for_a_place : reads 11 (two (call 8 (path (up false ∷ step axis.PrecedingSibling (simple (codes "b")) [] ∷ []) ∷ [])) operator.Add (number 1)) ≡ []
nothing_for_a_place = refl

one_list_for_a_place : looks 11 (two (call 8 (path (up false ∷ step axis.PrecedingSibling (simple (codes "b")) [] ∷ []) ∷ [])) operator.Add (number 1)) ≡ 1 ∷ []
one_list_for_a_place = refl

-- ---- every part is asked

-- if(false(), a, ../c), true() or b = 1, string(@k)
both_branches : reads 2 (call 16 (call 14 [] ∷ path (a ∷ []) ∷ path (up false ∷ child (codes "c") ∷ []) ∷ [])) ≡ 4 ∷ 13 ∷ []
both_branches = refl

both_of_choose : reads 2 (call 4 (call 14 [] ∷ call 37 (path (a ∷ []) ∷ []) ∷ call 37 (path (up false ∷ child (codes "c") ∷ []) ∷ []) ∷ [])) ≡ 4 ∷ 13 ∷ []
both_of_choose = refl

skipped_operands : reads 1 (two (call 44 []) operator.Or (two (path (child (codes "c") ∷ [])) operator.Equal (number 1))) ≡ 13 ∷ []
skipped_operands = refl

an_attribute_is_read : reads 2 (call 37 (path (step axis.Attribute (simple (codes "k")) [] ∷ []) ∷ [])) ≡ 3 ∷ []
an_attribute_is_read = refl

an_attribute_has_no_list : looks 2 (path (step axis.Attribute (simple (codes "k")) [] ∷ [])) ≡ 2 ∷ []
an_attribute_has_no_list = refl

-- string-length(), concat(a, ../c), -a
the_context_node_is_read : reads 6 (call 38 []) ≡ 6 ∷ []
the_context_node_is_read = refl

each_argument_is_read : reads 2 (call 6 (path (a ∷ []) ∷ path (up false ∷ child (codes "c") ∷ []) ∷ [])) ≡ 4 ∷ 13 ∷ []
each_argument_is_read = refl

the_operand_is_read : reads 2 (minus 1 (path (a ∷ []))) ≡ 4 ∷ []
the_operand_is_read = refl

-- instance('z')/x
an_instance_is_looked_up : looks 1 (from (call 18 (literal (codes "z") ∷ [])) (child (codes "x") ∷ [])) ≡ 14 ∷ 15 ∷ 16 ∷ []
an_instance_is_looked_up = refl

-- ---- predicates

-- a[2], a[last()], (//a)[2]
a_place_is_exact : reads 2 (path (step axis.Child (simple (codes "a")) (number 2 ∷ []) ∷ [])) ≡ 6 ∷ []
unfolding scale
a_place_is_exact = refl

the_last_is_exact : reads 2 (path (step axis.Child (simple (codes "a")) (call 19 [] ∷ []) ∷ [])) ≡ 8 ∷ []
unfolding scale
the_last_is_exact = refl

of_all_the_second : reads 2 (filter_by all_a (number 2 ∷ [])) ≡ 6 ∷ []
unfolding scale
of_all_the_second = refl

-- ---- loose sets

-- a/text(): the parents are read, and the set covers them all
texts_read_their_parents : reads 2 (path (a ∷ text ∷ [])) ≡ 4 ∷ 6 ∷ 8 ∷ []
texts_read_their_parents = refl

-- count(a/text())
texts_are_not_counted_unread : reads 2 (call 8 (path (a ∷ text ∷ []) ∷ [])) ≡ 4 ∷ 6 ∷ 8 ∷ []
texts_are_not_counted_unread = refl

-- node()[2]: on a loose set a predicate keeps every node, and all are read
a_predicate_on_a_loose_set : reads 2 (path (step axis.Child test.Node (number 2 ∷ []) ∷ [])) ≡ 2 ∷ 4 ∷ 6 ∷ 8 ∷ []
a_predicate_on_a_loose_set = refl

-- a/text()/..: each is asked, though one would do
each_of_a_loose_set : reads 1 (path (child (codes "b") ∷ a ∷ text ∷ up false ∷ up false ∷ [])) ≡ 2 ∷ 4 ∷ 6 ∷ 8 ∷ 10 ∷ 11 ∷ []
each_of_a_loose_set = refl

-- following-sibling::node() reads the parent
siblings_read_the_parent : reads 6 (call 8 (path (step axis.FollowingSibling test.Node [] ∷ []) ∷ [])) ≡ 2 ∷ []
siblings_read_the_parent = refl

-- a/text()/following-sibling::node()/../../../c: each text stands for those beside it
texts_stand_for_those_beside : reads 2 (path (a ∷ text ∷ step axis.FollowingSibling test.Node [] ∷ up false ∷ up false ∷ up false ∷ child (codes "c") ∷ [])) ≡ 4 ∷ 6 ∷ 8 ∷ 13 ∷ []
texts_stand_for_those_beside = refl

-- self::node() is exact
a_test_of_itself_is_exact : reads 6 (call 8 (path (step axis.Self_ test.Node [] ∷ []) ∷ [])) ≡ []
a_test_of_itself_is_exact = refl

-- count(//a): `//` alone reads nothing
below_reads_nothing : reads 1 (call 8 (all_a ∷ [])) ≡ []
below_reads_nothing = refl

-- count(.//.), count(.//ancestor::b), count(.//..)
a_pair_reads_where_it_begins : reads 2 (call 8 (path (here false ∷ here true ∷ []) ∷ [])) ≡ 2 ∷ []
a_pair_reads_where_it_begins = refl

a_pair_upward : reads 2 (call 8 (path (here false ∷ below axis.Ancestor (simple (codes "b")) [] ∷ []) ∷ [])) ≡ 2 ∷ []
a_pair_upward = refl

-- .//../a[2]: loose from the pair on
loose_from_the_pair_on : reads 2 (path (here false ∷ up true ∷ step axis.Child (simple (codes "a")) (number 2 ∷ []) ∷ [])) ≡ 2 ∷ 4 ∷ 6 ∷ 8 ∷ []
loose_from_the_pair_on = refl

-- (a/text() | ../c)
a_union_with_a_loose_set : reads 2 (two (path (a ∷ text ∷ [])) operator.Union (path (up false ∷ child (codes "c") ∷ []))) ≡ 4 ∷ 6 ∷ 8 ∷ 13 ∷ []
a_union_with_a_loose_set = refl
