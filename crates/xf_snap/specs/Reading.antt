-- Reading a snapshot from left to right.
use Rattle.std.specs.Prelude.{ℕ, zero, suc, ◌+◌, ◌^◌, Bool, true, false, ◌&&◌, List, [], ◌∷◌, length, take, drop, sum_by, nat_le, nat_lt, if◌then◌else◌, Option, Some, None}
use Rattle.std.specs.List.{list_all}
use Rattle.std.specs.Str.{is_utf8}
use Rattle.xf_name.specs.declared.qname.QName.{QName}
use Rattle.xf_def_forest.specs.declared.bare.Bare.{Bare}
use Rattle.xf_def_forest.specs.declared.bare.Bare.TheVariants as bare
use Rattle.xf_def_forest.specs.declared.bare.BareElement.{BareElement, roll-BareElement}
use Rattle.xf_def_forest.specs.declared.bare.BareAttribute.{BareAttribute}
use Rattle.xf_def_forest.specs.Limits.{limits}
use Rattle.xf_snap.specs.declared.snap.Snap.{Snap}
use Rattle.xf_snap.specs.Numbers.{from_two, from_four, from_eight}
use Rattle.xf_snap.specs.Within.{is_element, tree_nodes, tree_size}

infixl 10 ◌>>=◌
abbrev pub ◌>>=◌ : {A B : Type 0} → Option A → (A → Option B) → Option B
None >>= f = None
(Some x) >>= f = f x

-- what stands at the front of some bytes, with the bytes behind it
abbrev pub Front : Type 0 → Type 0
Front X = Option (X × List ℕ)

-- a number of so many bytes
abbrev pub number_at : ℕ → (List ℕ → ℕ) → List ℕ → Front ℕ
number_at size from bytes = if nat_le size (length bytes) then Some (from bytes, drop size bytes) else None

abbrev pub two_at : List ℕ → Front ℕ
two_at bytes = number_at 2 from_two bytes

abbrev pub four_at : List ℕ → Front ℕ
four_at bytes = number_at 4 from_four bytes

abbrev pub eight_at : List ℕ → Front ℕ
eight_at bytes = number_at 8 from_eight bytes

abbrev pub byte_at : List ℕ → Front ℕ
byte_at [] = None
byte_at (byte ∷ bytes) = Some (byte, bytes)

-- a text of so many bytes
abbrev pub text_of : ℕ → List ℕ → Front (List ℕ)
text_of size bytes = if nat_le size (length bytes) && is_utf8 (take size bytes) then Some (take size bytes, drop size bytes) else None

-- a text behind its length
unfoldable pub text_at : List ℕ → Front (List ℕ)
text_at bytes = do
  size ← four_at bytes
  if nat_le size.0 limits.text then text_of size.0 size.1 else None

unfoldable pub name_at : List ℕ → Front QName
name_at bytes = do
  space ← two_at bytes
  prefix ← two_at space.1
  size ← byte_at prefix.1
  local ← text_of size.0 size.1
  Some (record { space = space.0; prefix = prefix.0; local = local.0 }, local.1)

unfoldable pub attribute_at : List ℕ → Front BareAttribute
attribute_at bytes = do
  name ← name_at bytes
  text ← text_at name.1
  Some (record { name = name.0; text = text.0 }, text.1)

-- so many, one behind the other
unfoldable pub several : {X : Type 0} → (List ℕ → Front X) → ℕ → List ℕ → Front (List X)
several read zero bytes = Some ([], bytes)
several read (suc count) bytes = do
  first ← read bytes
  others ← several read count first.1
  Some (first.0 ∷ others.0, others.1)

-- an element, where a tree in it is read so
unfoldable pub element_over : (List ℕ → Front Bare) → List ℕ → Front BareElement
element_over tree bytes = do
  name ← name_at bytes
  attributes_count ← two_at name.1
  attributes ← several attribute_at attributes_count.0 attributes_count.1
  children_count ← four_at attributes.1
  children ← several tree children_count.0 children_count.1
  Some (roll-BareElement (record { name = name.0; attributes = attributes.0; children = children.0 }), children.1)

-- a tree by its kind, where an element is read so
unfoldable pub tree_over : (List ℕ → Front BareElement) → List ℕ → Front Bare
tree_over element [] = None
tree_over element (zero ∷ bytes) = do
  top ← element bytes
  Some (bare.Element top.0, top.1)
tree_over element (suc zero ∷ bytes) = do
  text ← text_at bytes
  Some (bare.Text text.0, text.1)
tree_over element (suc (suc kind) ∷ bytes) = None

-- an element at most so many elements deep
unfoldable pub element_at : ℕ → List ℕ → Front BareElement
element_at zero bytes = None
element_at (suc depth) bytes = element_over (tree_over (element_at depth)) bytes

abbrev pub tree_at : ℕ → List ℕ → Front Bare
tree_at depth bytes = tree_over (element_at depth) bytes

-- trees at most as deep as a form's, behind their number
unfoldable pub documents_at : List ℕ → Front (List Bare)
documents_at bytes = do
  count ← two_at bytes
  several (tree_at limits.depth) count.0 count.1

-- numbers of four bytes behind their number, and numbers of two
unfoldable pub indexes_at : List ℕ → Front (List ℕ)
indexes_at bytes = do
  count ← two_at bytes
  several four_at count.0 count.1

unfoldable pub cases_at : List ℕ → Front (List ℕ)
cases_at bytes = do
  count ← two_at bytes
  several two_at count.0 count.1

-- nothing stands behind it
abbrev pub ended : {X : Type 0} → X → List ℕ → Option X
ended x [] = Some x
ended x (byte ∷ bytes) = None

-- all of the bytes
unfoldable pub snap_at : List ℕ → Option Snap
snap_at bytes = do
  accepted ← eight_at bytes
  documents ← documents_at accepted.1
  indexes ← indexes_at documents.1
  cases ← cases_at indexes.1
  ended (record { accepted = accepted.0; documents = documents.0; indexes = indexes.0; cases = cases.0 }) cases.1

-- the whole is within the limits; each text and each depth was while it was read
abbrev pub keeps_limits : Snap → Bool
keeps_limits snap =
    nat_lt snap.accepted (2 ^ 63) && list_all is_element snap.documents
    && nat_le (sum_by tree_nodes snap.documents) limits.nodes && nat_le (sum_by tree_size snap.documents) limits.all

-- the snapshot that bytes are, if they are one
abbrev pub snap_in : List ℕ → Option Snap
snap_in bytes = snap_at bytes >>= λ snap. if keeps_limits snap then Some snap else None
