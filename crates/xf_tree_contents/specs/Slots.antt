-- What the entries of the slab stand for, by the table of names.
use Rattle.std.specs.Prelude.{ℕ, Bool, true, false, ◌+◌, List, map, min, Option, Some, None, IsSome, option_map, slice_get}
use Rattle.slab.specs.Slab.{Slab, get, slab_len}
use Rattle.xf_def_forest.specs.declared.content.Content.{Content}
use Rattle.xf_def_forest.specs.declared.content.Content.TheVariants.{Root, Element, Attribute, Text}
use Rattle.xf_def_forest.specs.declared.content.Kind.{Kind}
use Rattle.xf_def_forest.specs.declared.content.Kind.TheVariants as kind
use Rattle.xf_def_forest.specs.Texts.{with_value}
use Rattle.xf_tree_contents.specs.declared.names.Known.{Known}
use Rattle.xf_tree_contents.specs.declared.slots.Entry.{Entry}
use Rattle.xf_tree_contents.specs.declared.sought.Principal.{Principal}
use Rattle.xf_tree_contents.specs.declared.bearers.Bearers.{Bearers}
use Rattle.xf_tree_contents.specs.declared.sought.Principal.TheVariants as principal
use Rattle.xf_tree_contents.specs.Names.{NameTable}
use Rattle.xf_tree_contents.specs.Slot.{Slot}
use Rattle.xf_tree_contents.specs.Bearers.{IsNoted}
use Rattle.xf_tree_contents.specs.Keys.{content_in}

-- the content of this kind, with the name that was found and a text
abbrev pub content_by : Kind → Option Known → List ℕ → Content
content_by kind.Root known text = Root
content_by kind.Text known text = Text text
content_by kind.Element None text = Root
content_by kind.Element (Some known) text = Element known.name
content_by kind.Attribute None text = Root
content_by kind.Attribute (Some known) text = Attribute known.name text

abbrev pub slot_of : List Known → Entry → Slot
slot_of names e = record { number = e.number; owner = e.owner; content = content_by e.kind (slice_get names e.name) e.text }

-- the slab of what the entries stand for, with room for nodes of any names
abbrev pub slots_of : Slab Entry → NameTable → Slab Slot
slots_of slab table = record { slots = map (option_map (slot_of table.names)) slab.slots; vacant_key = slab.vacant_key; capacity = min slab.capacity (slab_len slab + table.room) }

-- an element or attribute has a name that was found
abbrev pub HasName : Kind → Option Known → Type 0
HasName kind.Root known = Unit {0}
HasName kind.Text known = Unit {0}
HasName kind.Element known = IsSome known
HasName kind.Attribute known = IsSome known

abbrev pub IsNamed : List Known → Option Entry → Type 0
IsNamed names None = Unit {0}
IsNamed names (Some e) = HasName e.kind (slice_get names e.name)

-- the name of each element and attribute is one of the table
abbrev pub AreNamed : Slab Entry → NameTable → Type 0
AreNamed slab table = (key : ℕ) → IsNamed table.names (get slab key)

-- besides, each element is noted by its local name
pub record AreHeld (slab : Slab Entry) (table : NameTable) (bearers : Bearers) : Type 0 where
  pub named : AreNamed slab table
  pub noted : (key : ℕ) → IsNoted bearers (content_in (get (slots_of slab table) key)) key

-- the number of the name of an element or attribute
abbrev pub number_by : Kind → ℕ → Option ℕ
number_by kind.Root number = None
number_by kind.Text number = None
number_by kind.Element number = Some number
number_by kind.Attribute number = Some number

abbrev pub name_number : Option Entry → Option ℕ
name_number None = None
name_number (Some e) = number_by e.kind e.name

-- a kind is the principal one
abbrev pub is_of_kind : Principal → Kind → Bool
is_of_kind principal.Element kind.Element = true
is_of_kind principal.Element other = false
is_of_kind principal.Attribute kind.Attribute = true
is_of_kind principal.Attribute other = false

-- a number, or none
abbrev pub number_where : Bool → ℕ → Option ℕ
number_where true n = Some n
number_where false n = None

-- ---- slots

-- with another text, where it is an attribute's
abbrev pub valued_slot : List ℕ → Slot → Slot
valued_slot text s = record { number = s.number; owner = s.owner; content = with_value text s.content }

abbrev pub owned_slot : ℕ → Slot → Slot
owned_slot owner s = record { number = s.number; owner = owner; content = s.content }
