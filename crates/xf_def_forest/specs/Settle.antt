-- Texts that are settled, as a recalculation leaves them (XForms 1.1, section 4.3.2): a text that stands already stays as it is, and one that
-- comes in has a number that was reserved for it, so that the order in which they come in does not matter.
use Rattle.std.specs.Prelude.{ℕ, ◌≡◌, ◌+◌, ◌<◌, Bool, true, false, ◌&&◌, List, [], ◌∷◌, ◌++◌, ◌==◌, if◌then◌else◌}
use Rattle.std.specs.List.{list_any}
use Rattle.std.specs.Str.{bytes_eq}
use Rattle.xf_def_forest.specs.declared.content.Node.{Node}
use Rattle.xf_def_forest.specs.Forest.{Forest, own_text, has_number, tree_of}
use Rattle.xf_def_forest.specs.Shape.{as_texts}
use Rattle.xf_def_forest.specs.Texts.{Keeping, Before, one_text, with_texts, with_attribute_text, is_attribute_at, texts_in, value_in, before_of, taken_from}

-- ---- numbers

-- so many numbers are reserved: no new node takes them
abbrev pub reserved : ℕ → Forest → Forest
reserved count forest = record forest { next = forest.next + count }

-- a number that was reserved, and that no node and no kept text has
pub record IsFree (number : ℕ) (k : Keeping) : Type 0 where
  pub reserved : number < k.forest.next
  pub unused : has_number number k.forest.nodes ≡ false
  pub unkept : list_any (λ t. t.number == number) k.kept ≡ false

-- ---- a text with a given number

-- the nodes with another text at a node: where it is an element's, the text has this number
abbrev pub with_numbered_text : ℕ → ℕ → List ℕ → List Node → List Node
with_numbered_text number n text nodes = if is_attribute_at n nodes then with_attribute_text n text nodes else with_texts n (one_text number text) nodes

-- what the node had before, and the forest with it; no limit is asked
abbrev pub numbered_text_set : ℕ → ℕ → List ℕ → Keeping → Before × Keeping
numbered_text_set number n text k = (
  before_of n k.forest.nodes,
  record {
    forest = record k.forest { nodes = with_numbered_text number n text k.forest.nodes };
    kept = k.kept ++ taken_from n k.forest.nodes;
  },
)

-- ---- a text that stands

-- these are the texts, one by one
abbrev pub are_texts : List (List ℕ) → List Node → Bool
are_texts [] [] = true
are_texts [] (x ∷ xs) = false
are_texts (text ∷ texts) [] = false
are_texts (text ∷ texts) (x ∷ xs) = bytes_eq (own_text x.content) text && are_texts texts xs

-- an attribute has this text, or an element has it as its only text, or no text where it is empty
abbrev pub has_text : ℕ → List ℕ → List Node → Bool
has_text n text nodes = if is_attribute_at n nodes then bytes_eq (value_in (tree_of n nodes)) text else are_texts (as_texts text) (texts_in (tree_of n nodes))

-- the nodes with this text at a node: where it does not stand there already, one with this number comes in
abbrev pub with_settled_text : ℕ → ℕ → List ℕ → List Node → List Node
with_settled_text number n text nodes = if has_text n text nodes then nodes else with_numbered_text number n text nodes
