-- How the calls walk the shape of a forest (XPath 1.0, section 2): where a step meets the texts that it has in place of others.
use Rattle.std.specs.Prelude.{ℕ, Bool, true, false, not, ◌&&◌, ◌++◌, ◌==◌, List, [], ◌∷◌, Option, Some, None, if◌then◌else◌}
use Rattle.std.specs.List.{list_all}
use Rattle.xf_name.specs.declared.axis.Axis.{Axis}
use Rattle.xf_name.specs.declared.axis.Axis.TheVariants.{Child, Descendant, DescendantOrSelf}
use Rattle.xf_def_syntax.specs.declared.expr.Test.{Test}
use Rattle.xf_def_forest.specs.declared.content.Node.{Node}
use Rattle.xf_def_forest.specs.declared.content.Content.{Content}
use Rattle.xf_def_forest.specs.Forest.{content_at}
use Rattle.xf_def_forest.specs.Visit.{visits}
use Rattle.xf_def_forest.specs.Shape.{has_elements, text_number}
use Rattle.xf_def_xpath.specs.Asked.{has_list}
use Rattle.xf_def_xpath.specs.AskedSteps.{is_kind}
use Rattle.xf_def_xpath.specs.Tests.{meets}
use Rattle.xf_def_forest.specs.declared.node.NodeId.{NodeId}
use Rattle.xf_eval_shape.specs.declared.spot.Spot.{Spot}
use Rattle.xf_eval_shape.specs.declared.spot.Spot.TheVariants.{Node as Own, TextOf}
use Rattle.xf_eval_shape.specs.Spots.{is_leaf, stands}

abbrev pub has_list_in : Option Content → Bool
has_list_in None = false
has_list_in (Some content) = has_list content

-- texts stand in place of others on this axis from a node
abbrev pub has_texts : List Node → ℕ → Axis → Bool
has_texts nodes n Child = has_list_in (content_at n nodes) && not (has_elements (visits nodes) n)
has_texts nodes n Descendant = has_list_in (content_at n nodes)
has_texts nodes n DescendantOrSelf = has_list_in (content_at n nodes)
has_texts nodes n axis = false

abbrev pub meets_in : Axis → Test → Option Content → Bool
meets_in axis asked None = false
meets_in axis asked (Some content) = meets axis asked content

abbrev pub if_so : Bool → ℕ → List ℕ
if_so b n = if b then n ∷ [] else []

-- what the shape has in place of a node of the forest that is on the axis, and behind it
abbrev pub piece : List Node → Axis → Test → ℕ → List ℕ
piece nodes axis asked n = if_so (stands nodes n && meets_in axis asked (content_at n nodes)) n ++ if_so (is_leaf nodes n && is_kind asked) (text_number n)

-- ---- lists of nodes of the shape

abbrev pub is_own : Spot → Bool
is_own (Own node) = true
is_own other = false

abbrev pub are_owned : List Spot → Bool
are_owned spots = list_all is_own spots

abbrev pub text_if : Bool → NodeId → List Spot
text_if b owner = if b then TextOf owner ∷ [] else []

abbrev pub is_other : ℕ → Spot → Bool
is_other n (Own node) = not (node.number == n)
is_other n other = true

abbrev pub spot_if : Bool → Spot → List Spot
spot_if b spot = if b then spot ∷ [] else []
