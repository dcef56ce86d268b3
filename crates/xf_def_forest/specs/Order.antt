-- Document order (XPath 1.0, section 5): the order of the list.
use Rattle.std.specs.Prelude.{ℕ, suc, Bool, false, List, [], ◌∷◌, map, filter, length, option_map, Option, Some, None, ◌==◌, if◌then◌else◌}
use Rattle.xf_def_forest.specs.declared.content.Node.{Node}
use Rattle.xf_def_forest.specs.Forest.{has_number, is_root}
use Rattle.xf_def_forest.specs.Visit.{Visit, visits, has}
use Rattle.xf_def_forest.specs.Axis.{before}

-- the first node stands before the second one
abbrev pub is_before : ℕ → ℕ → List Node → Bool
is_before first second [] = false
is_before first second (x ∷ xs) = if x.number == first then has_number second xs else is_before first second xs

-- how many nodes stand before this one: of two nodes the one with the lesser rank stands before the other
abbrev pub rank_of : ℕ → List Node → ℕ
rank_of n nodes = length (before n (visits nodes))

-- a set of nodes in document order, each once; what stands in no tree is not in it
abbrev pub in_order : List Visit → List ℕ → List ℕ
in_order all ns = map (λ x. x.number) (filter (λ x. has x.number ns) all)

-- the instance of which this node is the root: its place among the roots, from 0
abbrev pub instance_of : ℕ → List Node → Option ℕ
instance_of n [] = None
instance_of n (x ∷ xs) =
    if is_root x.content then if x.number == n then Some 0 else option_map suc (instance_of n xs)
    else instance_of n xs
