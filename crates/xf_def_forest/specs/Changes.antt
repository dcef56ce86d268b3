-- Changes of a forest as functions on its list: trees that come, move and go.
use Rattle.std.specs.Prelude.{ℕ, zero, suc, ◌+◌, ◌-◌, Bool, ◌&&◌, ◌||◌, not, List, [], ◌∷◌, ◌++◌, map, length, count_by, Option, Some, None, Result, nat_lt, ◌==◌, if◌then◌else◌}
use Rattle.std.specs.List.{position_or_len}
use Rattle.xf_def_forest.specs.declared.content.Node.{Node}
use Rattle.xf_def_forest.specs.declared.content.Content.{Content}
use Rattle.xf_def_forest.specs.declared.content.Content.TheVariants.{Root}
use Rattle.xf_def_forest.specs.declared.fault.TreeFault.{TreeFault}
use Rattle.xf_def_forest.specs.declared.fault.TreeFault.TheVariants.{Depth}
use Rattle.xf_def_forest.specs.Forest.{Forest, is_root, is_element, is_attribute, content_at, past, tree_of}
use Rattle.xf_def_forest.specs.Visit.{Visit, visits, has, is_first, parent_of, ancestors_of, children_of, attributes_of}
use Rattle.xf_def_forest.specs.Limits.{Limits, passed_by_all, is_too_deep, unless}
use Rattle.xf_def_forest.specs.Plant.{is_less, written_of, numbered_from}

-- ---- parts of the list

abbrev pub shifted : ℕ → ℕ → Node → Node
shifted from to x = record x { depth = to + (x.depth - from) }

-- a tree, its top at this depth
abbrev pub moved_to : ℕ → List Node → List Node
moved_to depth [] = []
moved_to depth (x ∷ xs) = map (shifted x.depth depth) (x ∷ xs)

-- the nodes without the tree of this one
abbrev pub without_tree : ℕ → List Node → List Node
without_tree n [] = []
without_tree n (x ∷ xs) = if x.number == n then past x.depth xs else x ∷ without_tree n xs

abbrev pub is_detached_top : Node → Bool
is_detached_top x = (x.depth == 0) && not (is_root x.content)

-- the nodes of the instances: those before the first detached tree
abbrev pub in_instances : List Node → List Node
in_instances [] = []
in_instances (x ∷ xs) = if is_detached_top x then [] else x ∷ in_instances xs

-- the nodes of the detached trees
abbrev pub in_detached : List Node → List Node
in_detached [] = []
in_detached (x ∷ xs) = if is_detached_top x then x ∷ xs else in_detached xs

-- the number of the root with a place among the roots, from 0
abbrev pub root_of : ℕ → List Node → Option ℕ
root_of place [] = None
root_of zero (x ∷ xs) = if is_root x.content then Some x.number else root_of zero xs
root_of (suc place) (x ∷ xs) = if is_root x.content then root_of place xs else root_of (suc place) xs

-- ---- a new root, and a copy

-- with a new root behind the others, over the detached tree of this node; the number is the root's
abbrev pub with_root : ℕ → Forest → ℕ × Forest
with_root top forest =
    let rest = without_tree top forest.nodes in (
      forest.next,
      record {
        nodes = in_instances rest ++ record { number = forest.next; depth = 0; content = Root } ∷ moved_to 1 (tree_of top forest.nodes) ++ in_detached rest;
        next = suc forest.next;
      },
    )

-- the contents of a tree with their depths, as those of a new one
abbrev pub contents_in : List Node → List (ℕ × Content)
contents_in tree = map (λ x. (x.depth, x.content)) (moved_to 0 tree)

-- with a copy of the node's tree as a new detached tree behind all others; the number is that of its top. No text of it is longer and no
-- element of it deeper than one that stands.
abbrev pub copied : Limits → ℕ → Forest → Result (ℕ × Forest) TreeFault
copied l n forest =
    let nodes = forest.nodes ++ numbered_from forest.next (contents_in (tree_of n forest.nodes)) in
    unless (passed_by_all l nodes) (forest.next, record { nodes = nodes; next = forest.next + length (tree_of n forest.nodes) })

-- ---- detach

-- the parent of a node, and its place: how many children stand before it, or for an attribute how many attributes
abbrev pub place_among : ℕ → List ℕ → ℕ
place_among n ns = position_or_len (λ m. m == n) ns

abbrev pub place_in : List Visit → ℕ → ℕ → ℕ
place_in all n parent = if has n (attributes_of parent all) then place_among n (attributes_of parent all) else place_among n (children_of parent all)

abbrev pub with_place : List Visit → ℕ → Option ℕ → Option (ℕ × ℕ)
with_place all n None = None
with_place all n (Some parent) = Some (parent, place_in all n parent)

abbrev pub standing : ℕ → List Node → Option (ℕ × ℕ)
standing n nodes = with_place (visits nodes) n (parent_of n (visits nodes))

-- a tree cut off stands last
abbrev pub detached : ℕ → Forest → Forest
detached n forest = record forest { nodes = without_tree n forest.nodes ++ moved_to 0 (tree_of n forest.nodes) }

-- ---- attach

abbrev pub at_place : {X : Type 0} → ℕ → X → (ℕ → X) → X
at_place zero here later = here
at_place (suc place) here later = later place

-- among the nodes after a parent, whose children have this depth, a tree before the child with a place, or behind them all
abbrev pub with_child : ℕ → ℕ → List Node → List Node → List Node
with_child depth place tree [] = tree
with_child depth place tree (y ∷ ys) =
    if nat_lt y.depth depth then tree ++ y ∷ ys
    else if nat_lt depth y.depth || is_attribute y.content then y ∷ with_child depth place tree ys
    else at_place place (tree ++ y ∷ ys) (λ left. y ∷ with_child depth left tree ys)

-- among the nodes after an element, whose attributes have this depth, an attribute before the one with a place, or behind them all
abbrev pub with_attribute : ℕ → ℕ → List Node → List Node → List Node
with_attribute depth place tree [] = tree
with_attribute depth place tree (y ∷ ys) =
    if (y.depth == depth) && is_attribute y.content then at_place place (tree ++ y ∷ ys) (λ left. y ∷ with_attribute depth left tree ys)
    else tree ++ y ∷ ys

abbrev pub with_part : ℕ → ℕ → List Node → List Node → List Node
with_part depth place [] nodes = nodes
with_part depth place (x ∷ xs) nodes =
    if is_attribute x.content then with_attribute depth place (moved_to depth (x ∷ xs)) nodes
    else with_child depth place (moved_to depth (x ∷ xs)) nodes

-- the nodes with a tree below this parent
abbrev pub with_below : ℕ → ℕ → List Node → List Node → List Node
with_below parent place tree [] = []
with_below parent place tree (x ∷ xs) =
    if x.number == parent then x ∷ with_part (suc x.depth) place tree xs else x ∷ with_below parent place tree xs

-- how many elements a child of this node is below
abbrev pub elements_above : ℕ → List Visit → ℕ
elements_above parent all = count_by (λ x. is_element x.content && has x.number (parent ∷ ancestors_of parent all)) all

-- the tree of a node stands below a parent, before the child or for an attribute before the attribute with a place
abbrev pub placed : ℕ → ℕ → ℕ → Forest → Forest
placed n parent place forest = record forest { nodes = with_below parent place (tree_of n forest.nodes) (without_tree n forest.nodes) }

-- an attribute of this element, with a written name that is less than that of a content
abbrev pub is_lesser : ℕ → Content → Visit → Bool
is_lesser parent content x = is_first parent x.above && is_attribute x.content && is_less (written_of x.content) (written_of content)

-- where a node with this content comes below a parent: at a place that is given, or as an attribute by the bytes of its written name
abbrev pub place_of : ℕ → ℕ → List Visit → Option Content → ℕ
place_of parent place all None = place
place_of parent place all (Some content) = if is_attribute content then count_by (is_lesser parent content) all else place

-- the tree of a detached node comes below a parent, unless an element would be too deep
abbrev pub attached : Limits → ℕ → ℕ → ℕ → Forest → Result Forest TreeFault
attached l n parent place forest =
    unless (if is_too_deep l.depth (elements_above parent (visits forest.nodes)) (tree_of n forest.nodes) then Some Depth else None)
    (placed n parent (place_of parent place (visits forest.nodes) (content_at n forest.nodes)) forest)
