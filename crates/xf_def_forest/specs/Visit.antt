-- A forest as the list of its visits in document order (XPath 1.0, section 5): each node with its ancestors, the parent first.
use Rattle.std.specs.Prelude.{ℕ, Bool, true, false, not, ◌&&◌, List, [], ◌∷◌, map, filter, find, Option, Some, None, nat_lt, ◌==◌, if◌then◌else◌}
use Rattle.std.specs.List.{list_any}
use Rattle.xf_def_forest.specs.declared.content.Node.{Node}
use Rattle.xf_def_forest.specs.declared.content.Content.{Content}
use Rattle.xf_def_forest.specs.Forest.{is_attribute}

pub record Visit : Type 0 where
  pub number : ℕ
  -- the numbers of its ancestors, the parent first
  pub above : List ℕ
  pub content : Content

-- of the nodes that are open, those that stay open before a node of this depth: they are less deep
abbrev pub still_above : ℕ → List Node → List Node
still_above depth [] = []
still_above depth (y ∷ ys) = if nat_lt y.depth depth then y ∷ ys else still_above depth ys

abbrev pub numbers : List Node → List ℕ
numbers nodes = map (λ x. x.number) nodes

abbrev pub visit : List Node → Node → Visit
visit above x = record { number = x.number; above = numbers (still_above x.depth above); content = x.content }

abbrev pub visits_from : List Node → List Node → List Visit
visits_from above [] = []
visits_from above (x ∷ xs) = visit above x ∷ visits_from (x ∷ still_above x.depth above) xs

-- the visits of all nodes
abbrev pub visits : List Node → List Visit
visits nodes = visits_from [] nodes

-- ---- where a visited node stands

abbrev pub has : ℕ → List ℕ → Bool
has n ns = list_any (λ m. n == m) ns

abbrev pub has_parent : List ℕ → Bool
has_parent [] = false
has_parent (n ∷ ns) = true

abbrev pub is_first : ℕ → List ℕ → Bool
is_first n [] = false
is_first n (m ∷ ms) = n == m

abbrev pub first_of : List ℕ → Option ℕ
first_of [] = None
first_of (n ∷ ns) = Some n

-- both have the same parent: two tops have none
abbrev pub same_parent : List ℕ → List ℕ → Bool
same_parent [] above = false
same_parent (n ∷ ns) above = is_first n above

abbrev pub above_in : Option Visit → List ℕ
above_in None = []
above_in (Some x) = x.above

-- the ancestors of a node, the parent first
abbrev pub ancestors_of : ℕ → List Visit → List ℕ
ancestors_of n all = above_in (find (λ x. x.number == n) all)

abbrev pub parent_of : ℕ → List Visit → Option ℕ
parent_of n all = first_of (ancestors_of n all)

-- the top of the tree in which a node stands: its last ancestor, or the node itself
abbrev pub last_of : ℕ → List ℕ → ℕ
last_of n [] = n
last_of n (m ∷ ms) = last_of m ms

abbrev pub top_of : ℕ → List Visit → ℕ
top_of n all = last_of n (ancestors_of n all)

-- the children of a node: an attribute is none, though the element is its parent
abbrev pub children_of : ℕ → List Visit → List ℕ
children_of n all = map (λ x. x.number) (filter (λ x. is_first n x.above && not (is_attribute x.content)) all)

abbrev pub attributes_of : ℕ → List Visit → List ℕ
attributes_of n all = map (λ x. x.number) (filter (λ x. is_first n x.above && is_attribute x.content) all)
