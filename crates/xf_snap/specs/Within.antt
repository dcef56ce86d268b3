-- Which snapshots have bytes: those within the limits of a form and within the sizes of their fields.
use Rattle.std.specs.Prelude.{ℕ, suc, ◌+◌, ◌-◌, ◌^◌, ◌<◌, ◌≤◌, Bool, true, false, ◌&&◌, List, length, sum, sum_by, nat_le, nat_lt, IsTrue}
use Rattle.std.specs.List.{list_all}
use Rattle.std.specs.Str.{is_utf8}
use Rattle.xf_base.specs.Limits.{part_limit}
use Rattle.xf_name.specs.declared.qname.QName.{QName}
use Rattle.xf_def_forest.specs.declared.bare.Bare.{Bare, fold-Bare}
use Rattle.xf_def_forest.specs.declared.bare.Bare.TheOpen.{Bare-F, BareElement-F}
use Rattle.xf_def_forest.specs.declared.bare.BareElement.{BareElement, fold-BareElement}
use Rattle.xf_def_forest.specs.declared.bare.BareAttribute.{BareAttribute}
use Rattle.xf_def_forest.specs.Limits.{limits}
use Rattle.xf_snap.specs.declared.snap.Snap.{Snap}

-- ---- how deep a tree may be, and how long its texts and local names

abbrev pub is_fit_name : QName → Bool
is_fit_name name = nat_le (length name.local) part_limit

abbrev pub is_fit_attribute : BareAttribute → Bool
is_fit_attribute attribute = is_fit_name attribute.name && nat_le (length attribute.text) limits.text

abbrev pub fit_level : Bare-F (ℕ → Bool) (ℕ → Bool) → ℕ → Bool
fit_level (Bare-F.Text text) = λ depth. nat_le (length text) limits.text
fit_level (Bare-F.Element element) = element

abbrev pub fit_element : BareElement-F (ℕ → Bool) (ℕ → Bool) → ℕ → Bool
fit_element e = λ depth. nat_lt 0 depth && is_fit_name e.name && list_all is_fit_attribute e.attributes && list_all (λ child. child (depth - 1)) e.children

-- the tree is at most so many elements deep, and each text and each local name is no longer than it may be
abbrev pub is_fit : Bare → ℕ → Bool
is_fit = fold-Bare (ℕ → Bool) (ℕ → Bool) fit_level fit_element

abbrev pub is_fit_part : BareElement → ℕ → Bool
is_fit_part = fold-BareElement (ℕ → Bool) (ℕ → Bool) fit_level fit_element

-- ---- what the types of a snapshot keep: numbers of 16 bits, and texts that are UTF-8

abbrev pub is_typed_name : QName → Bool
is_typed_name name = nat_lt name.space (2 ^ 16) && nat_lt name.prefix (2 ^ 16) && is_utf8 name.local

abbrev pub is_typed_attribute : BareAttribute → Bool
is_typed_attribute attribute = is_typed_name attribute.name && is_utf8 attribute.text

abbrev pub typed_level : Bare-F Bool Bool → Bool
typed_level (Bare-F.Text text) = is_utf8 text
typed_level (Bare-F.Element element) = element

abbrev pub typed_element : BareElement-F Bool Bool → Bool
typed_element e = is_typed_name e.name && list_all is_typed_attribute e.attributes && list_all (λ child. child) e.children

abbrev pub is_typed : Bare → Bool
is_typed = fold-Bare Bool Bool typed_level typed_element

abbrev pub is_typed_part : BareElement → Bool
is_typed_part = fold-BareElement Bool Bool typed_level typed_element

-- ---- how much a tree has

abbrev pub node_level : Bare-F ℕ ℕ → ℕ
node_level (Bare-F.Text text) = 1
node_level (Bare-F.Element element) = element

abbrev pub node_element : BareElement-F ℕ ℕ → ℕ
node_element e = suc (length e.attributes + sum e.children)

-- its elements, attributes and texts
abbrev pub tree_nodes : Bare → ℕ
tree_nodes = fold-Bare ℕ ℕ node_level node_element

abbrev pub element_nodes : BareElement → ℕ
element_nodes = fold-BareElement ℕ ℕ node_level node_element

abbrev pub attribute_size : BareAttribute → ℕ
attribute_size attribute = length attribute.name.local + length attribute.text

abbrev pub size_level : Bare-F ℕ ℕ → ℕ
size_level (Bare-F.Text text) = length text
size_level (Bare-F.Element element) = element

abbrev pub size_element : BareElement-F ℕ ℕ → ℕ
size_element e = length e.name.local + (sum_by attribute_size e.attributes + sum e.children)

-- the bytes of its texts and local names; prefixes are not in it
abbrev pub tree_size : Bare → ℕ
tree_size = fold-Bare ℕ ℕ size_level size_element

abbrev pub element_size : BareElement → ℕ
element_size = fold-BareElement ℕ ℕ size_level size_element

-- ---- the whole

abbrev pub element_level : Bare-F Bool Bool → Bool
element_level (Bare-F.Text text) = false
element_level (Bare-F.Element element) = element

-- the tree is an element
abbrev pub is_element : Bare → Bool
is_element = fold-Bare Bool Bool element_level (λ e. true)

-- within the limits of a form as far as a snapshot shows them, and within the sizes of its fields
pub record IsWithin (snap : Snap) : Type 0 where
  pub accepted : snap.accepted < 2 ^ 63
  pub elements : IsTrue (list_all is_element snap.documents)
  pub fit : IsTrue (list_all (λ tree. is_fit tree limits.depth) snap.documents)
  pub nodes : sum_by tree_nodes snap.documents ≤ limits.nodes
  pub size : sum_by tree_size snap.documents ≤ limits.all
  pub few_documents : length snap.documents < 2 ^ 16
  pub few_indexes : length snap.indexes < 2 ^ 16
  pub few_cases : length snap.cases < 2 ^ 16
  pub small_cases : IsTrue (list_all (λ place. nat_lt place (2 ^ 16)) snap.cases)

-- what the types keep
pub record IsTyped (snap : Snap) : Type 0 where
  pub documents : IsTrue (list_all is_typed snap.documents)
  pub indexes : IsTrue (list_all (λ index. nat_lt index (2 ^ 32)) snap.indexes)
