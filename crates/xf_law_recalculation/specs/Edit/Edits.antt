-- What is so of the data of now beside those of before stays so where a text is set, with its mark.
use Rattle.std.specs.Prelude.{ℕ, ◌≡◌, true, false, not, ◌&&◌, ◌||◌, ◌==◌, ◌⊎◌, List, [], map, filter, Some, if◌then◌else◌}
use Rattle.xf_def_forest.specs.Changes.{without_tree}
use Rattle.xf_def_forest.specs.Forest.{Forest, is_text, has_number, tree_of}
use Rattle.xf_def_forest.specs.declared.content.Node.{Node}
use Rattle.xf_def_forest.specs.Needs.{IsSettable}
use Rattle.xf_def_forest.specs.Same.{IsRenumbering, renumbered_visit}
use Rattle.xf_def_forest.specs.Settle.{with_numbered_text}
use Rattle.xf_def_forest.specs.Visit.{Visit, visits, has, is_first}
use Rattle.xf_def_forest.specs.WellFormed.{HasTrees}
use Rattle.xf_def_forest.specs.Shape.{erased, has_elements}
use Rattle.xf_def_xpath.specs.Asked.{found}
use Rattle.xf_def_xpath.specs.Agree.{numbers_of, are_apart}
use Rattle.xf_law_recalculation.specs.Marks.Marks.{SameNodes}

-- right after a recalculation nothing is marked
abbrev pub SameAtFirst : Type 0
SameAtFirst = (all : List Visit) → SameNodes [] [] all all

-- the numbers of both do not count, where the marks go with them
abbrev pub SameRenumbered : Type 0
SameRenumbered = (s : ℕ → ℕ) (texts lists : List ℕ) (now before : List Visit) → IsRenumbering s → ((k : ℕ) → has (s k) texts ≡ has k texts) → ((k : ℕ) → has (s k) lists ≡ has k lists) →
    SameNodes texts lists now before → SameNodes texts lists (map (renumbered_visit s) now) (map (renumbered_visit s) before)

-- ---- a text that is set

-- without the text of a node: its own, and the texts in it
abbrev pub blanked : ℕ → Visit → Visit
blanked n y = if y.number == n then erased y else y

abbrev pub without_text_of : ℕ → List Visit → List Visit
without_text_of n all = filter (λ y. not (is_text y.content && is_first n y.above)) (map (blanked n) all)

-- the node has another text, and all else is as it was; a text that comes in has a number that no node of before has, unless it stood there
pub record IsRetexted (n : ℕ) (now after before : List Visit) : Type 0 where
  pub apart : are_apart (numbers_of now) ≡ true
  pub apart_after : are_apart (numbers_of after) ≡ true
  pub rest : without_text_of n after ≡ without_text_of n now
  pub solid : (x : Visit) × (found n now ≡ Some x) × (is_text x.content ≡ false)
  pub childless : has_elements now n ≡ false
  pub fresh : (k : ℕ) (y : Visit) → found k after ≡ Some y → is_text y.content ≡ true → is_first n y.above ≡ true → (has k (numbers_of before) ≡ false) ⊎ (found k now ≡ Some y)

-- with the node marked, in whatever order
abbrev pub MarksMore : List ℕ → ℕ → List ℕ → Type 0
MarksMore texts n more = (k : ℕ) → has k more ≡ ((k == n) || has k texts)

abbrev pub TextMarked : Type 0
TextMarked = (texts lists more : List ℕ) (n : ℕ) (now after before : List Visit) → MarksMore texts n more → IsRetexted n now after before →
    are_apart (numbers_of before) ≡ true → SameNodes texts lists now before → SameNodes more lists after before

-- a text that is set with a number that no node of before has: as an event sets one, and as a recalculation writes one
abbrev pub TextSet : Type 0
TextSet = (texts lists more : List ℕ) (number n next : ℕ) (text : List ℕ) (forest : Forest) (before : List Visit) → MarksMore texts n more →
    HasTrees forest → HasTrees (record { nodes = with_numbered_text number n text forest.nodes; next = next }) → IsSettable n forest →
    are_apart (numbers_of before) ≡ true → has number (numbers_of before) ≡ false →
    SameNodes texts lists (visits forest.nodes) before → SameNodes more lists (visits (with_numbered_text number n text forest.nodes)) before

-- ---- a list that got or lost nodes

abbrev pub without_nodes : List ℕ → List Visit → List Visit
without_nodes moved all = filter (λ y. not (has y.number moved)) all

-- a node that came or went stands in the node of that list, in another that did, or in none, and is no text of the first
abbrev pub StandsUnder : ℕ → List ℕ → Visit → Type 0
StandsUnder n moved y = ((is_text y.content && is_first n y.above) ≡ false) × ((m : ℕ) → is_first m y.above ≡ true → ((m == n) || has m moved) ≡ true)

-- nodes came or went, none of which stands in before and after, and all else is as it was
pub record IsRelisted (n : ℕ) (moved : List ℕ) (now after before : List Visit) : Type 0 where
  pub apart : are_apart (numbers_of now) ≡ true
  pub apart_after : are_apart (numbers_of after) ≡ true
  pub rest : without_nodes moved after ≡ without_nodes moved now
  pub fresh : (k : ℕ) → has k moved ≡ true → has k (numbers_of after) ≡ true → has k (numbers_of before) ≡ false
  pub went : (k : ℕ) (y : Visit) → found k now ≡ Some y → has k moved ≡ true → StandsUnder n moved y
  pub came : (k : ℕ) (y : Visit) → found k after ≡ Some y → has k moved ≡ true → StandsUnder n moved y

-- as a tree is planted in a list or cut off from it, with the list marked
abbrev pub ListMarked : Type 0
ListMarked = (texts lists more moved : List ℕ) (n : ℕ) (now after before : List Visit) → MarksMore lists n more → IsRelisted n moved now after before →
    are_apart (numbers_of before) ≡ true → SameNodes texts lists now before → SameNodes texts more after before

-- an element or an attribute that stands in this node
abbrev pub StandsIn : ℕ → ℕ → List Node → Type 0
StandsIn n p nodes = (x : Visit) × (found n (visits nodes) ≡ Some x) × (is_first p x.above ≡ true) × (is_text x.content ≡ false)

-- its tree is not there any more
abbrev pub TreeCut : Type 0
TreeCut = (texts lists more : List ℕ) (n p : ℕ) (forest : Forest) (before : List Visit) → MarksMore lists p more → HasTrees forest → StandsIn n p forest.nodes →
    are_apart (numbers_of before) ≡ true → SameNodes texts lists (visits forest.nodes) before → SameNodes texts more (visits (without_tree n forest.nodes)) before

-- its tree was not there, and no node of before has a number of it
abbrev pub TreePlanted : Type 0
TreePlanted = (texts lists more : List ℕ) (n p : ℕ) (forest : Forest) (before : List Visit) → MarksMore lists p more → HasTrees forest → StandsIn n p forest.nodes →
    are_apart (numbers_of before) ≡ true → ((k : ℕ) → has_number k (tree_of n forest.nodes) ≡ true → has k (numbers_of before) ≡ false) →
    SameNodes texts lists (visits (without_tree n forest.nodes)) before → SameNodes texts more (visits forest.nodes) before
