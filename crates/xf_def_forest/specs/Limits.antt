-- The limits of a forest. A change is refused where its result would pass one; of several the first in this order is named.
use Rattle.std.specs.Prelude.{ℕ, suc, ◌+◌, Bool, not, ◌&&◌, List, length, count_by, sum_by, Option, Some, None, Result, Ok, Err, nat_lt, if◌then◌else◌}
use Rattle.std.specs.List.{list_any}
use Rattle.xf_base.specs.Limits.{node_limit, text_limit, all_limit, depth_limit}
use Rattle.xf_def_forest.specs.declared.content.Node.{Node}
use Rattle.xf_def_forest.specs.declared.content.Name.{Name}
use Rattle.xf_def_forest.specs.declared.content.Content.{Content}
use Rattle.xf_def_forest.specs.declared.fault.TreeFault.{TreeFault}
use Rattle.xf_def_forest.specs.declared.fault.TreeFault.TheVariants.{Nodes, NodeText, AllText, Depth}
use Rattle.xf_def_forest.specs.Forest.{is_root, is_element, own_text, name_in}

pub record Limits : Type 0 where
  -- elements, attributes and texts in the forest, detached trees included
  pub nodes : ℕ
  -- bytes of one text or attribute
  pub text : ℕ
  -- bytes of texts, attributes, prefixes and local names in the forest
  pub all : ℕ
  -- elements from the top of a tree down
  pub depth : ℕ

-- the limits of every forest
abbrev pub limits : Limits
limits = record { nodes = node_limit; text = text_limit; all = all_limit; depth = depth_limit }

-- a root is no node that counts
abbrev pub node_count : List Node → ℕ
node_count nodes = count_by (λ x. not (is_root x.content)) nodes

abbrev pub name_size : Option Name → ℕ
name_size None = 0
name_size (Some name) = length name.prefix + length name.meaning.local

abbrev pub size_of : Content → ℕ
size_of content = name_size (name_in content) + length (own_text content)

-- the bytes of all texts, attributes, prefixes and local names
abbrev pub all_size : List Node → ℕ
all_size nodes = sum_by (λ x. size_of x.content) nodes

abbrev pub has_long_text : ℕ → List Node → Bool
has_long_text limit nodes = list_any (λ x. nat_lt limit (length (own_text x.content))) nodes

-- an element of a detached tree would be too deep below so many elements
abbrev pub is_too_deep : ℕ → ℕ → List Node → Bool
is_too_deep limit above tree = list_any (λ x. is_element x.content && nat_lt limit (above + suc x.depth)) tree

-- the limit that is passed by these nodes, which have come in place of others
abbrev pub passed_by_all : Limits → List Node → Option TreeFault
passed_by_all l nodes =
    if nat_lt l.nodes (node_count nodes) then Some Nodes
    else if nat_lt l.all (all_size nodes) then Some AllText
    else None

-- the limit that is passed where a text of so many bytes has come in
abbrev pub passed_by_text : Limits → ℕ → List Node → Option TreeFault
passed_by_text l size nodes =
    if nat_lt l.nodes (node_count nodes) then Some Nodes
    else if nat_lt l.text size then Some NodeText
    else if nat_lt l.all (all_size nodes) then Some AllText
    else None

-- the limit that is passed where this tree has come in as a detached one
abbrev pub passed_by_tree : Limits → List Node → List Node → Option TreeFault
passed_by_tree l tree nodes =
    if nat_lt l.nodes (node_count nodes) then Some Nodes
    else if has_long_text l.text tree then Some NodeText
    else if nat_lt l.all (all_size nodes) then Some AllText
    else if is_too_deep l.depth 0 tree then Some Depth
    else None

-- the value, or the refusal
abbrev pub unless : {X : Type 0} → Option TreeFault → X → Result X TreeFault
unless None value = Ok value
unless (Some fault) value = Err fault
