-- Location paths on a small forest.
use Rattle.std.proofs.Common.{◌≡◌, ℕ, true, false, List, [], ◌∷◌, Some, refl, codes}
use Rattle.xf_num.specs.Number.{scale}
use Rattle.xf_name.specs.declared.axis.Axis.{Axis}
use Rattle.xf_name.specs.declared.axis.Axis.TheVariants as axis
use Rattle.xf_def_syntax.specs.declared.expr.Test.TheVariants as test
use Rattle.xf_def_syntax.specs.declared.expr.Operator.TheVariants as operator
use Rattle.xf_def_xpath.specs.declared.value.Value.TheVariants.{Nodes}
use Rattle.xf_def_xpath.specs.Asked.{Trace, WalkTrace}
use Rattle.xf_def_xpath.specs.Examples.{worth, simple, step, below, child, up, here, path, from_root, filter_by, number, call, two}

abbrev a : List ℕ
a = codes "a"

-- a step to the nth a
abbrev nth : Axis → List ℕ → ℕ → WalkTrace
nth on local n = step on (simple local) (number n ∷ [])

-- ---- abbreviations

-- //a
abbrev all_a : Trace
all_a = from_root (below axis.Child (simple a) [] ∷ [])

all_that_are_below : worth 13 all_a ≡ Some (Nodes (4 ∷ 6 ∷ 8 ∷ 11 ∷ []))
all_that_are_below = refl

-- //a[1]: the first in each parent
the_first_in_each : worth 1 (from_root (below axis.Child (simple a) (number 1 ∷ []) ∷ [])) ≡ Some (Nodes (4 ∷ 11 ∷ []))
unfolding scale
the_first_in_each = refl

-- (//a)[1]: the first of all
the_first_of_all : worth 1 (filter_by all_a (number 1 ∷ [])) ≡ Some (Nodes (4 ∷ []))
unfolding scale
the_first_of_all = refl

-- /descendant::a[1]: likewise
the_first_descendant : worth 1 (from_root (nth axis.Descendant a 1 ∷ [])) ≡ Some (Nodes (4 ∷ []))
unfolding scale
the_first_descendant = refl

-- (//a)[last()]
the_last_of_all : worth 1 (filter_by all_a (call 19 [] ∷ [])) ≡ Some (Nodes (11 ∷ []))
unfolding scale
the_last_of_all = refl

-- /
the_root : worth 16 (from_root []) ≡ Some (Nodes (14 ∷ []))
the_root = refl

-- //.. from d: the parents of all nodes, texts included
parents_of_all : worth 1 (path (here false ∷ up true ∷ [])) ≡ Some (Nodes (0 ∷ 1 ∷ 2 ∷ 4 ∷ 6 ∷ 8 ∷ 10 ∷ 11 ∷ []))
parents_of_all = refl

-- ---- positions

-- a[2]
second_a : worth 2 (path (nth axis.Child a 2 ∷ [])) ≡ Some (Nodes (6 ∷ []))
unfolding scale
second_a = refl

-- b/a[2]: one for each b that has two
second_of_each : worth 1 (path (child (codes "b") ∷ nth axis.Child a 2 ∷ [])) ≡ Some (Nodes (6 ∷ []))
unfolding scale
second_of_each = refl

-- (b/a)[4]
fourth_of_all : worth 1 (filter_by (path (child (codes "b") ∷ child a ∷ [])) (number 4 ∷ [])) ≡ Some (Nodes (11 ∷ []))
unfolding scale
fourth_of_all = refl

-- preceding-sibling::a[1]: the nearest
nearest_before : worth 8 (path (nth axis.PrecedingSibling a 1 ∷ [])) ≡ Some (Nodes (6 ∷ []))
unfolding scale
nearest_before = refl

-- (preceding-sibling::a)[1]: the first in document order
first_before : worth 8 (filter_by (path (step axis.PrecedingSibling (simple a) [] ∷ [])) (number 1 ∷ [])) ≡ Some (Nodes (4 ∷ []))
unfolding scale
first_before = refl

-- following-sibling::a[1]
nearest_after : worth 4 (path (nth axis.FollowingSibling a 1 ∷ [])) ≡ Some (Nodes (6 ∷ []))
unfolding scale
nearest_after = refl

-- ancestor::*[1], ancestor::*[last()]: the parent is the nearest
nearest_above : worth 4 (path (step axis.Ancestor test.AnyName (number 1 ∷ []) ∷ [])) ≡ Some (Nodes (2 ∷ []))
unfolding scale
nearest_above = refl

farthest_above : worth 4 (path (step axis.Ancestor test.AnyName (call 19 [] ∷ []) ∷ [])) ≡ Some (Nodes (1 ∷ []))
unfolding scale
farthest_above = refl

-- b/a/ancestor::*[1]/preceding-sibling::b[1]
along_and_back : worth 1 (path (child (codes "b") ∷ child a ∷ step axis.Ancestor test.AnyName (number 1 ∷ []) ∷ nth axis.PrecedingSibling (codes "b") 1 ∷ [])) ≡ Some (Nodes (2 ∷ []))
unfolding scale
along_and_back = refl

-- a[position() > 1][1]: the second predicate counts what the first left
each_counts_what_is_left : worth 2 (path (step axis.Child (simple a) (two (call 29 []) operator.Greater (number 1) ∷ number 1 ∷ []) ∷ [])) ≡ Some (Nodes (6 ∷ []))
unfolding scale
each_counts_what_is_left = refl

-- a[1][position() > 1]
in_the_other_order : worth 2 (path (step axis.Child (simple a) (number 1 ∷ two (call 29 []) operator.Greater (number 1) ∷ []) ∷ [])) ≡ Some (Nodes [])
unfolding scale
in_the_other_order = refl

-- a[position() = last() - 1]
last_but_one : worth 2 (path (step axis.Child (simple a) (two (call 29 []) operator.Equal (two (call 19 []) operator.Subtract (number 1)) ∷ []) ∷ [])) ≡ Some (Nodes (6 ∷ []))
unfolding scale
last_but_one = refl

-- a[. = 2], a[2 = 2], a[0], a[../c]
by_value : worth 2 (path (step axis.Child (simple a) (two (path (here false ∷ [])) operator.Equal (number 2) ∷ []) ∷ [])) ≡ Some (Nodes (6 ∷ []))
unfolding scale
by_value = refl

by_a_truth : worth 2 (path (step axis.Child (simple a) (two (number 2) operator.Equal (number 2) ∷ []) ∷ [])) ≡ Some (Nodes (4 ∷ 6 ∷ 8 ∷ []))
by_a_truth = refl

by_no_position : worth 2 (path (step axis.Child (simple a) (number 0 ∷ []) ∷ [])) ≡ Some (Nodes [])
unfolding scale
by_no_position = refl

by_a_path : worth 1 (path (step axis.Child (simple (codes "b")) (path (up false ∷ child (codes "c") ∷ []) ∷ []) ∷ [])) ≡ Some (Nodes (2 ∷ 10 ∷ []))
by_a_path = refl

-- ---- axes and tests

-- b/@k, b/@*, b/k
an_attribute : worth 1 (path (child (codes "b") ∷ step axis.Attribute (simple (codes "k")) [] ∷ [])) ≡ Some (Nodes (3 ∷ []))
an_attribute = refl

any_attribute : worth 1 (path (child (codes "b") ∷ step axis.Attribute test.AnyName [] ∷ [])) ≡ Some (Nodes (3 ∷ []))
any_attribute = refl

an_attribute_is_no_child : worth 1 (path (child (codes "b") ∷ child (codes "k") ∷ [])) ≡ Some (Nodes [])
an_attribute_is_no_child = refl

-- @k/self::k: the principal kind of the self axis is the element
an_attribute_has_no_name_on_self : worth 2 (path (step axis.Attribute (simple (codes "k")) [] ∷ step axis.Self_ (simple (codes "k")) [] ∷ [])) ≡ Some (Nodes [])
an_attribute_has_no_name_on_self = refl

-- @k/..
the_owner_of_an_attribute : worth 3 (path (up false ∷ [])) ≡ Some (Nodes (2 ∷ []))
the_owner_of_an_attribute = refl

-- b/a/text(), node(), comment()
texts : worth 10 (path (child a ∷ step axis.Child test.Text [] ∷ [])) ≡ Some (Nodes (12 ∷ []))
texts = refl

children : worth 2 (path (step axis.Child test.Node [] ∷ [])) ≡ Some (Nodes (4 ∷ 6 ∷ 8 ∷ []))
children = refl

no_comments : worth 2 (path (step axis.Descendant test.Nothing [] ∷ [])) ≡ Some (Nodes [])
no_comments = refl

-- ancestor-or-self::b, a name of another namespace
itself_too : worth 2 (path (step axis.AncestorOrSelf (simple (codes "b")) [] ∷ [])) ≡ Some (Nodes (2 ∷ []))
itself_too = refl

another_namespace : worth 2 (path (step axis.Child (test.InSpace 1) [] ∷ [])) ≡ Some (Nodes [])
another_namespace = refl

-- two paths that meet: each node once
each_once : worth 1 (path (child (codes "b") ∷ child a ∷ up false ∷ [])) ≡ Some (Nodes (2 ∷ 10 ∷ []))
each_once = refl
