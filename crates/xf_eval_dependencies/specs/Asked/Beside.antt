-- Steps to siblings, and the texts at which they begin: a text of the shape that stands for several is beside itself.
use Rattle.std.specs.Prelude.{ℕ, Bool, true, false, List}
use Rattle.xf_name.specs.declared.axis.Axis.{Axis}
use Rattle.xf_name.specs.declared.axis.Axis.TheVariants.{FollowingSibling, PrecedingSibling}
use Rattle.xf_def_forest.specs.declared.content.Node.{Node}
use Rattle.xf_def_forest.specs.Forest.{content_at}
use Rattle.xf_def_forest.specs.Visit.{Visit}
use Rattle.xf_def_xpath.specs.Asked.{found}
use Rattle.xf_def_xpath.specs.AskedSteps.{if_text}
use Rattle.xf_eval_shape.specs.declared.spot.Spot.{Spot}
use Rattle.xf_eval_shape.specs.declared.spot.Spot.TheVariants.{Node as Own, TextOf, Outside}
use Rattle.xf_eval_shape.specs.Spots.{is_text_in}

abbrev pub goes_beside : Axis → Bool
goes_beside FollowingSibling = true
goes_beside PrecedingSibling = true
goes_beside axis = false

-- the node, where it is a text
abbrev pub text_of : List Visit → ℕ → List ℕ
text_of all n = if_text (found n all)

abbrev pub is_text_spot : List Node → Spot → Bool
is_text_spot nodes (Own node) = is_text_in (content_at node.number nodes)
is_text_spot nodes (TextOf owner) = true
is_text_spot nodes (Outside node) = false
