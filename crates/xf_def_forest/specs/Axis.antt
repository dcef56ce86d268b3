-- The axes (XPath 1.0, section 2.2): relations between two visits by parent and order.
use Rattle.std.specs.Prelude.{ℕ, Bool, true, false, not, ◌&&◌, ◌||◌, List, [], ◌∷◌, map, filter, find, reverse, Option, Some, None, ◌==◌, if◌then◌else◌}
use Rattle.xf_name.specs.declared.axis.Axis.{Axis}
use Rattle.xf_name.specs.declared.axis.Axis.TheVariants.{Child, Attribute, Self_, Parent, Ancestor, AncestorOrSelf, Descendant, DescendantOrSelf, FollowingSibling, PrecedingSibling}
use Rattle.xf_def_forest.specs.Forest.{is_attribute}
use Rattle.xf_def_forest.specs.Visit.{Visit, has, is_first, same_parent}

-- both have the same parent, and neither is an attribute
abbrev pub are_siblings : Visit → Visit → Bool
are_siblings x y = same_parent x.above y.above && not (is_attribute x.content) && not (is_attribute y.content)

-- y is on the axis from x; of the siblings only those on one side of x are asked
abbrev pub is_on : Axis → Visit → Visit → Bool
is_on Child x y = is_first x.number y.above && not (is_attribute y.content)
is_on Attribute x y = is_first x.number y.above && is_attribute y.content
is_on Self_ x y = x.number == y.number
is_on Parent x y = is_first y.number x.above
is_on Ancestor x y = has y.number x.above
is_on AncestorOrSelf x y = has y.number x.above || (x.number == y.number)
is_on Descendant x y = has x.number y.above && not (is_attribute y.content)
is_on DescendantOrSelf x y = (has x.number y.above && not (is_attribute y.content)) || (x.number == y.number)
is_on FollowingSibling x y = are_siblings x y
is_on PrecedingSibling x y = are_siblings x y

-- the visits before the node with this number, and those after it
abbrev pub before : ℕ → List Visit → List Visit
before n [] = []
before n (y ∷ ys) = if y.number == n then [] else y ∷ before n ys

abbrev pub after : ℕ → List Visit → List Visit
after n [] = []
after n (y ∷ ys) = if y.number == n then ys else after n ys

-- the visits among which an axis looks
abbrev pub in_range : Axis → ℕ → List Visit → List Visit
in_range FollowingSibling n all = after n all
in_range PrecedingSibling n all = before n all
in_range axis n all = all

abbrev pub is_reverse : Axis → Bool
is_reverse Parent = true
is_reverse Ancestor = true
is_reverse AncestorOrSelf = true
is_reverse PrecedingSibling = true
is_reverse axis = false

-- what is on an axis from a visited node, in document order
abbrev pub on_axis : Axis → List Visit → Visit → List Visit
on_axis axis all x = filter (is_on axis x) (in_range axis x.number all)

-- in the order of the axis: the nearest first on a reverse axis
abbrev pub in_proximity : {X : Type 0} → Axis → List X → List X
in_proximity axis found = if is_reverse axis then reverse found else found

abbrev pub axis_from : Axis → List Visit → Option Visit → List Visit
axis_from axis all None = []
axis_from axis all (Some x) = in_proximity axis (on_axis axis all x)

-- the nodes of an axis from a node, in proximity order
abbrev pub axis_of : Axis → ℕ → List Visit → List ℕ
axis_of axis n all = map (λ x. x.number) (axis_from axis all (find (λ x. x.number == n) all))
