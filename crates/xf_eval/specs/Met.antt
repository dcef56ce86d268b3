-- Whether a node meets a test on an axis, by what it is (XPath 1.0, section 2.3).
use Rattle.std.specs.Prelude.{Bool, false, Option, Some, None}
use Rattle.xf_name.specs.declared.axis.Axis.{Axis}
use Rattle.xf_def_syntax.specs.declared.expr.Test.{Test}
use Rattle.xf_def_forest.specs.declared.content.Content.{Content}
use Rattle.xf_def_xpath.specs.Tests.{meets}
use Rattle.xf_name.specs.declared.axis.Axis.TheVariants as axis
use Rattle.xf_tree_contents.specs.declared.sought.Principal.{Principal}
use Rattle.xf_tree_contents.specs.declared.sought.Principal.TheVariants.{Element, Attribute}

-- the principal node kind of an axis
abbrev pub principal_in : Axis → Principal
principal_in axis.Attribute = Attribute
principal_in other = Element

-- one that does not stand in the forest meets none
abbrev pub is_met : Axis → Test → Option Content → Bool
is_met axis asked None = false
is_met axis asked (Some content) = meets axis asked content
