-- When a list of nodes is that of trees: its numbers differ, its depths are those of trees, attributes stand first, and roots have nothing
-- above them (XPath 1.0, section 5). No change of a forest takes this away; laws over a forest ask for no more.
use Rattle.std.specs.Prelude.{ℕ, suc, ◌≡◌, Bool, true, false, not, ◌&&◌, ◌||◌, List, [], ◌∷◌, nat_lt, nat_le, ◌==◌, Option, Some, if◌then◌else◌}
use Rattle.std.specs.List.{list_any, list_all}
use Rattle.std.specs.Str.{bytes_eq}
use Rattle.xf_def_forest.specs.declared.content.Node.{Node}
use Rattle.xf_def_forest.specs.declared.content.Name.{Name}
use Rattle.xf_def_forest.specs.Forest.{Forest, is_root, is_element, is_attribute, is_text, has_number}
use Rattle.xf_def_forest.specs.Texts.{KeptText, Keeping}

-- ---- numbers

-- no number comes twice
abbrev pub are_apart : List Node → Bool
are_apart [] = true
are_apart (x ∷ xs) = not (has_number x.number xs) && are_apart xs

-- all are less than the next number, so that it is new
abbrev pub are_below : ℕ → List Node → Bool
are_below next nodes = list_all (λ x. nat_lt x.number next) nodes

-- ---- depths

-- how deep the node after this one may be: attributes and texts have nothing below them
abbrev pub reach : Node → ℕ
reach x = if is_attribute x.content || is_text x.content then x.depth else suc x.depth

abbrev pub are_depths_from : ℕ → List Node → Bool
are_depths_from most [] = true
are_depths_from most (x ∷ xs) = nat_le x.depth most && are_depths_from (reach x) xs

-- each node is at most one deeper than the one before
abbrev pub are_depths : List Node → Bool
are_depths nodes = are_depths_from 0 nodes

-- ---- attributes

-- an attribute stands right after its element or after another attribute of it; a detached one is a top
abbrev pub stands_first : Node → Node → Bool
stands_first x y = not (is_attribute y.content) || (y.depth == 0) || (is_element x.content && (suc x.depth == y.depth)) || (is_attribute x.content && (x.depth == y.depth))

abbrev pub are_first : List Node → Bool
are_first [] = true
are_first (x ∷ []) = true
are_first (x ∷ y ∷ ys) = stands_first x y && are_first (y ∷ ys)

-- both have a name, in the same namespace and with the same local part
abbrev pub have_same_name : Option Name → Option Name → Bool
have_same_name (Some a) (Some b) = (a.meaning.space == b.meaning.space) && bytes_eq a.meaning.local b.meaning.local
have_same_name a b = false

-- ---- roots

-- a root has nothing above it
abbrev pub are_tops : List Node → Bool
are_tops nodes = list_all (λ x. not (is_root x.content) || (x.depth == 0)) nodes

-- ---- a forest

-- no number of a kept text stands in the forest or comes twice, and all are less than the next one
abbrev pub are_kept_apart : List KeptText → Bool
are_kept_apart [] = true
are_kept_apart (t ∷ ts) = not (list_any (λ u. u.number == t.number) ts) && are_kept_apart ts

-- what the list needs to be that of trees, whatever the names of the nodes
pub record HasTrees (forest : Forest) : Type 0 where
  pub apart : are_apart forest.nodes ≡ true
  pub below : are_below forest.next forest.nodes ≡ true
  pub depths : are_depths forest.nodes ≡ true
  pub tops : are_tops forest.nodes ≡ true
  pub first : are_first forest.nodes ≡ true

-- the same of a forest with its kept texts
pub record AreTrees (k : Keeping) : Type 0 where
  pub apart : are_apart k.forest.nodes ≡ true
  pub below : are_below k.forest.next k.forest.nodes ≡ true
  pub depths : are_depths k.forest.nodes ≡ true
  pub tops : are_tops k.forest.nodes ≡ true
  pub first : are_first k.forest.nodes ≡ true
  pub kept_apart : are_kept_apart k.kept ≡ true
  pub kept_outside : list_any (λ t. has_number t.number k.forest.nodes) k.kept ≡ false
  pub kept_below : list_all (λ t. nat_lt t.number k.forest.next) k.kept ≡ true
