-- The text of an attribute or of an element without element children (XForms 1.1, section 10.2), and the texts whose place it takes:
-- they are kept outside the forest, so that a setting can be undone.
use Rattle.std.specs.Prelude.{ℕ, suc, ◌+◌, Bool, not, ◌&&◌, List, [], ◌∷◌, ◌++◌, map, filter, length, Result, nat_lt, ◌==◌, if◌then◌else◌}
use Rattle.std.specs.List.{list_any}
use Rattle.xf_def_forest.specs.declared.content.Node.{Node}
use Rattle.xf_def_forest.specs.declared.content.Content.{Content}
use Rattle.xf_def_forest.specs.declared.content.Content.TheVariants.{Attribute, Text}
use Rattle.xf_def_forest.specs.declared.fault.TreeFault.{TreeFault}
use Rattle.xf_def_forest.specs.Forest.{Forest, is_attribute, is_text, own_text, below, past, tree_of}
use Rattle.xf_def_forest.specs.Visit.{has, numbers}
use Rattle.xf_def_forest.specs.Limits.{Limits, passed_by_text, unless}
use Rattle.xf_def_forest.specs.Changes.{in_instances}

-- a text that was taken from an element, its owner
pub record KeptText : Type 0 where
  pub number : ℕ
  pub owner : ℕ
  pub text : List ℕ

-- a forest, and the texts kept beside it in the order in which they were taken
pub record Keeping : Type 0 where
  pub forest : Forest
  pub kept : List KeptText

-- what a node had before its text was set
pub data Before : Type 0 where
  -- the text of an attribute
  attribute_text : List ℕ → Before
  -- the numbers of the texts of an element
  element_texts : List ℕ → Before

-- ---- the nodes with other texts at one node

abbrev pub text_node : ℕ → List ℕ → Node
text_node number text = record { number = number; depth = 0; content = Text text }

-- one text, or none where it is empty
abbrev pub one_text : ℕ → List ℕ → List Node
one_text number [] = []
one_text number (c ∷ cs) = text_node number (c ∷ cs) ∷ []

abbrev pub at_depth : ℕ → Node → Node
at_depth depth x = record x { depth = depth }

-- after an element of this depth: its attributes, the texts in place of its whole content, and what stands past it
abbrev pub with_content : ℕ → List Node → List Node → List Node
with_content depth texts xs = filter (λ y. is_attribute y.content) (below depth xs) ++ map (at_depth (suc depth)) texts ++ past depth xs

-- the element with this number has these texts
abbrev pub with_texts : ℕ → List Node → List Node → List Node
with_texts n texts [] = []
with_texts n texts (x ∷ xs) = if x.number == n then x ∷ with_content x.depth texts xs else x ∷ with_texts n texts xs

abbrev pub with_value : List ℕ → Content → Content
with_value text (Attribute name old) = Attribute name text
with_value text content = content

abbrev pub valued : ℕ → List ℕ → Node → Node
valued n text x = if x.number == n then record x { content = with_value text x.content } else x

-- the attribute with this number has this text
abbrev pub with_attribute_text : ℕ → List ℕ → List Node → List Node
with_attribute_text n text nodes = map (valued n text) nodes

abbrev pub is_attribute_at : ℕ → List Node → Bool
is_attribute_at n nodes = list_any (λ x. (x.number == n) && is_attribute x.content) nodes

-- ---- set a text

abbrev pub texts_in : List Node → List Node
texts_in nodes = filter (λ x. is_text x.content) nodes

abbrev pub value_in : List Node → List ℕ
value_in [] = []
value_in (x ∷ xs) = own_text x.content

abbrev pub kept_from : ℕ → List Node → List KeptText
kept_from owner texts = map (λ x. record { number = x.number; owner = owner; text = own_text x.content }) texts

abbrev pub before_of : ℕ → List Node → Before
before_of n nodes = if is_attribute_at n nodes then attribute_text (value_in (tree_of n nodes)) else element_texts (numbers (texts_in (tree_of n nodes)))

-- the texts that leave the forest when the text of this node is set
abbrev pub taken_from : ℕ → List Node → List KeptText
taken_from n nodes = if is_attribute_at n nodes then [] else kept_from n (texts_in (tree_of n nodes))

abbrev pub new_texts : ℕ → List ℕ → Forest → List Node
new_texts n text forest = if is_attribute_at n forest.nodes then [] else one_text forest.next text

abbrev pub with_text : ℕ → List ℕ → Forest → Forest
with_text n text forest = record {
  nodes = (if is_attribute_at n forest.nodes then with_attribute_text n text forest.nodes else with_texts n (new_texts n text forest) forest.nodes);
  next = forest.next + length (new_texts n text forest);
}

-- with another text at a node, and what it had before
abbrev pub text_set : Limits → ℕ → List ℕ → Keeping → Result (Before × Keeping) TreeFault
text_set l n text k =
    let after = with_text n text k.forest in
    unless (passed_by_text l (length text) after.nodes)
    (before_of n k.forest.nodes, record { forest = after; kept = k.kept ++ taken_from n k.forest.nodes })

-- ---- undo it

abbrev pub is_of : List ℕ → KeptText → Bool
is_of ns t = has t.number ns

abbrev pub back : List KeptText → List Node
back texts = map (λ t. text_node t.number t.text) texts

abbrev pub without : List ℕ → List KeptText → List KeptText
without ns kept = filter (λ t. not (is_of ns t)) kept

-- the texts are given up: they are kept no more
abbrev pub given_up : Before → Keeping → Keeping
given_up (attribute_text text) k = k
given_up (element_texts ns) k = record k { kept = without ns k.kept }

-- the node has again what it had: the kept texts with their numbers, or the attribute's text
abbrev pub put_back : ℕ → Before → Keeping → Keeping
put_back n (attribute_text text) k = record k { forest = record k.forest { nodes = with_attribute_text n text k.forest.nodes } }
put_back n (element_texts ns) k = record {
  forest = record k.forest { nodes = with_texts n (back (filter (is_of ns) k.kept)) k.forest.nodes };
  kept = without ns k.kept;
}

-- ---- drop

-- only the instances are left
abbrev pub without_detached : Keeping → Keeping
without_detached k = record { forest = record k.forest { nodes = in_instances k.forest.nodes }; kept = [] }

-- no node is left with this number or a later one, and it is the next number again: the one change that compares numbers by size
abbrev pub without_from : ℕ → Keeping → Keeping
without_from number k = record {
  forest = record { nodes = filter (λ x. nat_lt x.number number) k.forest.nodes; next = number };
  kept = [];
}
