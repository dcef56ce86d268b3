-- What each change needs of the forest, besides that the nodes named stand in it.
use Rattle.std.specs.Prelude.{ℕ, ◌≡◌, ◌⊎◌, Bool, true, false, not, ◌&&◌, List, [], length, nat_lt, nat_le, ◌==◌, Option, Some, is_some, option_and_then, if◌then◌else◌}
use Rattle.std.specs.List.{list_any, list_all}
use Rattle.xf_def_forest.specs.declared.content.Node.{Node}
use Rattle.xf_def_forest.specs.declared.content.Kind.{Kind}
use Rattle.xf_def_forest.specs.declared.content.Kind.TheVariants.{Root, Element, Attribute}
use Rattle.xf_def_forest.specs.Forest.{Forest, is_root, is_attribute, name_in, content_at, kind_at, has_number, tree_of}
use Rattle.xf_def_forest.specs.Visit.{Visit, visits, is_first, parent_of, children_of}
use Rattle.xf_def_forest.specs.Shape.{has_elements}
use Rattle.xf_def_forest.specs.Texts.{Keeping, KeptText, Before, attribute_text, element_texts}
use Rattle.xf_def_forest.specs.WellFormed.{have_same_name}

abbrev pub is_top : ℕ → List Node → Bool
is_top n nodes = list_any (λ x. (x.number == n) && (x.depth == 0)) nodes

-- a copy is made of any node but a root
abbrev pub MayCopy : ℕ → Forest → Type 0
MayCopy n forest = list_any (λ x. (x.number == n) && not (is_root x.content)) forest.nodes ≡ true

-- a root comes over a detached element
pub record MayRoot (n : ℕ) (forest : Forest) : Type 0 where
  pub detached : is_top n forest.nodes ≡ true
  pub kind : kind_at n forest.nodes ≡ Some Element

-- a tree is cut off where its top has a parent and is no text
pub record MayDetach (n : ℕ) (forest : Forest) : Type 0 where
  pub below : is_some (parent_of n (visits forest.nodes)) ≡ true
  pub kind : (kind_at n forest.nodes ≡ Some Element) ⊎ (kind_at n forest.nodes ≡ Some Attribute)

-- an element has no attribute of this name
abbrev pub lacks_name : ℕ → ℕ → Forest → Bool
lacks_name n parent forest =
    not (list_any (λ x. is_first parent x.above && is_attribute x.content && have_same_name (name_in x.content) (option_and_then name_in (content_at n forest.nodes))) (visits forest.nodes))

-- an element goes below an element at a place that it has, or below a root without one; an attribute goes to an element that has none of its name
pub data MayStand (n parent place : ℕ) (forest : Forest) : Type 0 where
  in_element : kind_at n forest.nodes ≡ Some Element → kind_at parent forest.nodes ≡ Some Element
      → nat_le place (length (children_of parent (visits forest.nodes))) ≡ true → MayStand n parent place forest
  in_root : kind_at n forest.nodes ≡ Some Element → kind_at parent forest.nodes ≡ Some Root
      → children_of parent (visits forest.nodes) ≡ [] → place ≡ 0 → MayStand n parent place forest
  as_attribute : kind_at n forest.nodes ≡ Some Attribute → kind_at parent forest.nodes ≡ Some Element
      → lacks_name n parent forest ≡ true → MayStand n parent place forest

pub record MayAttach (n parent place : ℕ) (forest : Forest) : Type 0 where
  pub detached : is_top n forest.nodes ≡ true
  pub outside : has_number parent (tree_of n forest.nodes) ≡ false
  pub stands : MayStand n parent place forest

-- a text can be set at an attribute, or at an element without element children
pub record IsSettable (n : ℕ) (forest : Forest) : Type 0 where
  pub kind : (kind_at n forest.nodes ≡ Some Attribute) ⊎ (kind_at n forest.nodes ≡ Some Element)
  pub childless : has_elements (visits forest.nodes) n ≡ false

-- an element goes below an element or a root, and an attribute below an element
abbrev pub goes_below : Option Kind → Option Kind → Bool
goes_below (Some Element) (Some Element) = true
goes_below (Some Element) (Some Root) = true
goes_below (Some Attribute) (Some Element) = true
goes_below other above = false

-- a tree comes back to where it was cut off
pub record MayPlace (n parent : ℕ) (forest : Forest) : Type 0 where
  pub detached : is_top n forest.nodes ≡ true
  pub outside : has_number parent (tree_of n forest.nodes) ≡ false
  pub kinds : goes_below (kind_at n forest.nodes) (kind_at parent forest.nodes) ≡ true

-- all these are numbers of kept texts
abbrev pub are_kept : List ℕ → List KeptText → Bool
are_kept ns kept = list_all (λ n. list_any (λ t. t.number == n) kept) ns

abbrev pub are_kept_of : ℕ → List ℕ → List KeptText → Bool
are_kept_of owner ns kept = list_all (λ n. list_any (λ t. (t.number == n) && (t.owner == owner)) kept) ns

-- the texts of what was before are still kept
abbrev pub MayGiveUp : Before → Keeping → Type 0
MayGiveUp (attribute_text text) k = Unit {0}
MayGiveUp (element_texts ns) k = are_kept ns k.kept ≡ true

abbrev pub FitsNode : ℕ → Before → Keeping → Type 0
FitsNode n (attribute_text text) k = kind_at n k.forest.nodes ≡ Some Attribute
FitsNode n (element_texts ns) k = (kind_at n k.forest.nodes ≡ Some Element) × (are_kept_of n ns k.kept ≡ true)

-- what was before at this node is put back there
pub record MayPutBack (n : ℕ) (before : Before) (k : Keeping) : Type 0 where
  pub fits : FitsNode n before k
  pub childless : has_elements (visits k.forest.nodes) n ≡ false

abbrev pub is_new : ℕ → ℕ → Bool
is_new number n = not (nat_lt n number)

-- a new node has no older node above it, and is no root; an older one has no new one above it
abbrev pub goes_or_stays : ℕ → Visit → Bool
goes_or_stays number x =
    if is_new number x.number then not (is_root x.content) && list_all (is_new number) x.above else list_all (λ n. not (is_new number n)) x.above

-- what is new stands in trees of its own
pub record MayDropFrom (number : ℕ) (forest : Forest) : Type 0 where
  pub known : nat_le number forest.next ≡ true
  pub whole : list_all (goes_or_stays number) (visits forest.nodes) ≡ true
