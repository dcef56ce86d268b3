-- When two forests agree on what an expression reads and looks at: the premises of the law that it then has one value.
use Rattle.std.specs.Prelude.{ℕ, ◌≡◌, Bool, true, not, ◌&&◌, List, [], ◌∷◌, map, filter, Some, option_map}
use Rattle.xf_def_forest.specs.Forest.{is_text}
use Rattle.xf_def_forest.specs.Visit.{Visit, has, is_first}
use Rattle.xf_def_xpath.specs.Asked.{has_list, found}

-- ---- visits of a forest, and where two agree

abbrev pub numbers_of : List Visit → List ℕ
numbers_of all = map (λ x. x.number) all

-- no number comes twice
abbrev pub are_apart : List ℕ → Bool
are_apart [] = true
are_apart (n ∷ ns) = not (has n ns) && are_apart ns

abbrev pub untexted : List Visit → List Visit
untexted all = filter (λ y. not (is_text y.content)) all

-- the list of a node, without the texts in it
abbrev pub list_of : List Visit → ℕ → List Visit
list_of all n = filter (λ y. is_first n y.above) (untexted all)

-- what the visits of a forest keep: their numbers differ, above each node stands its parent, which is no text, and parents have lists
pub record AreVisits (all : List Visit) : Type 0 where
  pub apart : are_apart (numbers_of all) ≡ true
  pub closed : (k n : ℕ) (ns : List ℕ) (x : Visit) → found k all ≡ Some x → x.above ≡ n ∷ ns → option_map (λ z. z.above) (found n (untexted all)) ≡ Some ns
  pub parents : (k n : ℕ) (ns : List ℕ) (x z : Visit) → found k all ≡ Some x → x.above ≡ n ∷ ns → found n all ≡ Some z → has_list z.content ≡ true

-- nodes that stand in both are what they are, and those that are no texts keep their order
pub record HaveOneFrame (first second : List Visit) : Type 0 where
  pub order : filter (λ n. has n (numbers_of (untexted second))) (numbers_of (untexted first)) ≡ filter (λ n. has n (numbers_of (untexted first))) (numbers_of (untexted second))
  pub contents : (n : ℕ) (x y : Visit) → found n first ≡ Some x → found n second ≡ Some y → x.content ≡ y.content

-- the lists that are looked at are the same
abbrev pub AgreeOnLists : List ℕ → List Visit → List Visit → Type 0
AgreeOnLists looks first second = (n : ℕ) → has n looks ≡ true → list_of first n ≡ list_of second n

-- the string values of the nodes that are read are the same; of these the nodes of a list count
abbrev pub AgreeOnStrings : List ℕ → List Visit → (ℕ → List ℕ) → (ℕ → List ℕ) → Type 0
AgreeOnStrings reads all first second = (n : ℕ) → has n (numbers_of all) ≡ true → has n reads ≡ true → first n ≡ second n
