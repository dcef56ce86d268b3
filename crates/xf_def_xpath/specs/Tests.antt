-- Node tests (XPath 1.0, section 2.3).
use Rattle.std.specs.Prelude.{ℕ, Bool, true, false, ◌&&◌, Option, Some, None, bytes_eq, ◌==◌}
use Rattle.xf_name.specs.declared.axis.Axis.{Axis}
use Rattle.xf_name.specs.declared.axis.Axis.TheVariants as axis
use Rattle.xf_name.specs.declared.qname.QName.{QName}
use Rattle.xf_def_syntax.specs.declared.expr.Test.{Test}
use Rattle.xf_def_syntax.specs.declared.expr.Test.TheVariants.{Name, InSpace, AnyName, Text, Node, Nothing}
use Rattle.xf_def_forest.specs.declared.content.Name as node_name
use Rattle.xf_def_forest.specs.declared.content.Content.{Content}
use Rattle.xf_def_forest.specs.Forest.{is_element, is_attribute, is_text, name_in}

-- the principal kind of an axis: attributes on the attribute axis, elements on the others
abbrev pub is_principal : Axis → Content → Bool
is_principal axis.Attribute content = is_attribute content
is_principal other content = is_element content

-- the same namespace and local part; prefixes do not count
abbrev pub has_name : QName → Option node_name.Name → Bool
has_name name None = false
has_name name (Some own) = (name.space == own.meaning.space) && bytes_eq name.local own.meaning.local

abbrev pub is_in_space : ℕ → Option node_name.Name → Bool
is_in_space space None = false
is_in_space space (Some own) = space == own.meaning.space

-- the node meets the test on the axis
abbrev pub meets : Axis → Test → Content → Bool
meets axis (Name name) content = is_principal axis content && has_name name (name_in content)
meets axis (InSpace space) content = is_principal axis content && is_in_space space (name_in content)
meets axis AnyName content = is_principal axis content
meets axis Text content = is_text content
meets axis Node content = true
meets axis Nothing content = false
