-- What is sought among the nodes of an axis: nodes of a kind, of a namespace or of a name as it is resolved (XPath 1.0, section 2.3).
use Rattle.std.specs.Prelude.{ℕ, Bool, true, false, ◌&&◌, ◌==◌, bytes_eq, filter, List, Option, Some, None}
use Rattle.xf_name.specs.declared.axis.Axis.{Axis}
use Rattle.xf_name.specs.declared.qname.QName.{QName}
use Rattle.xf_def_forest.specs.declared.content.Node.{Node}
use Rattle.xf_def_forest.specs.declared.content.Content.{Content}
use Rattle.xf_def_forest.specs.declared.content.Name as node_name
use Rattle.xf_def_forest.specs.Axis.{axis_of}
use Rattle.xf_def_forest.specs.Visit.{visits}
use Rattle.xf_def_forest.specs.Forest.{content_at, is_element, is_attribute, is_text, name_in}
use Rattle.xf_tree_contents.specs.declared.sought.Principal.{Principal}
use Rattle.xf_tree_contents.specs.declared.sought.Principal.TheVariants.{Element, Attribute}
use Rattle.xf_tree_contents.specs.declared.sought.Sought.{Sought}
use Rattle.xf_tree_contents.specs.declared.sought.Sought.TheVariants.{Any, Texts, All, InSpace, Named, Nothing}

-- elements, or attributes
abbrev pub is_of : Principal → Content → Bool
is_of Element content = is_element content
is_of Attribute content = is_attribute content

abbrev pub is_in_space : ℕ → Option node_name.Name → Bool
is_in_space space None = false
is_in_space space (Some own) = space == own.meaning.space

-- the same namespace and local part; prefixes do not count
abbrev pub has_name : QName → Option node_name.Name → Bool
has_name asked None = false
has_name asked (Some own) = (asked.space == own.meaning.space) && bytes_eq asked.local own.meaning.local

-- a node with this content is sought
abbrev pub is_sought : Sought → Content → Bool
is_sought Any content = true
is_sought Texts content = is_text content
is_sought (All principal) content = is_of principal content
is_sought (InSpace principal space) content = is_of principal content && is_in_space space (name_in content)
is_sought (Named principal asked) content = is_of principal content && has_name asked.now (name_in content)
is_sought Nothing content = false

-- a node of the forest is sought
abbrev pub is_met : Sought → Option Content → Bool
is_met sought None = false
is_met sought (Some content) = is_sought sought content

-- the nodes on an axis that are sought, in proximity order
abbrev pub met_on : Axis → Sought → List Node → ℕ → List ℕ
met_on axis sought nodes from = filter (λ n. is_met sought (content_at n nodes)) (axis_of axis from (visits nodes))
