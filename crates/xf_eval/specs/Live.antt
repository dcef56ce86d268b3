-- Which nodes an expression may be asked with: those that stand in the forest (XPath 1.0, section 5).
use Rattle.std.specs.Prelude.{ℕ, ◌≡◌, true, List, [], unwrap_or}
use Rattle.std.specs.List.{list_all}
use Rattle.xf_def_forest.specs.declared.content.Node.{Node}
use Rattle.xf_def_forest.specs.Forest.{has_number}
use Rattle.xf_def_xpath.specs.declared.context.Context.{Context}
use Rattle.xf_def_xpath.specs.declared.value.Value.TheVariants.{Nodes}
use Rattle.xf_def_xpath.specs.Given.{Given, document_of, property_of}
use Rattle.xf_def_xpath.specs.Binding.{as_list}
use Rattle.xf_def_xpath.specs.Conversions.{nodes_of}

-- each of these nodes stands in the forest
abbrev pub AllLive : List ℕ → List Node → Type 0
AllLive ns nodes = list_all (λ n. has_number n nodes) ns ≡ true

-- the document elements of the instances and the nodes that the event tells stand in the forest
pub record AroundStands (given : Given) (nodes : List Node) : Type 0 where
  pub documents : (model : ℕ) (id : List ℕ) → AllLive (as_list (document_of model id given.documents)) nodes
  pub event : (name : List ℕ) → AllLive (nodes_of (unwrap_or (property_of name given.event) (Nodes []))) nodes

-- so do the nodes of the context
pub record IsReady (given : Given) (nodes : List Node) (context : Context) : Type 0 where
  pub around : AroundStands given nodes
  pub node : has_number context.node.number nodes ≡ true
  pub current : has_number context.current.number nodes ≡ true
