-- The literal tree that JSON spells (RFC 8259): an element is an array of its name, then an object of its attributes or none, then
-- texts and elements.
use Rattle.std.specs.Prelude.{ℕ, List, [], ◌∷◌, ◌++◌, Option, Some, None, option_map, option_and_then, Result, Ok, Err, if◌then◌else◌}
use Rattle.std.specs.Str.{is_utf8}
use Rattle.serde_json.specs.Data.{Data, string, array, object, Items, no_items, item, Members, no_members, member}
use Rattle.serde_json.specs.Read.{read}
use Rattle.xf_name.specs.declared.lit.Pair.{Pair}
use Rattle.xf_name.specs.declared.lit.Lit.{Lit}
use Rattle.xf_name.specs.declared.lit.Lit.TheVariants.{Text, Element}
use Rattle.xf_name.specs.declared.lit.LitElement.{LitElement, roll-LitElement}
use Rattle.xf_json.specs.declared.fault.JsonFault.{JsonFault}
use Rattle.xf_json.specs.declared.fault.JsonFault.TheVariants.{NotJson, NotElement}

-- trees, and before them a text that is not empty
abbrev pub after_text : List ℕ → List Lit → List Lit
after_text [] trees = trees
after_text (b ∷ bs) trees = Text (b ∷ bs) ∷ trees

-- the attributes that members spell: the value of each is a string
abbrev pub attributes_in : Members → Option (List Pair)
attributes_in no_members = Some []
attributes_in (member name (string text) rest) = option_map (λ pairs. record { name = name; text = text } ∷ pairs) (attributes_in rest)
attributes_in (member name value rest) = None

abbrev pub element : List ℕ → List Pair → List Lit → LitElement
element name attributes children = roll-LitElement (record { name = name; attributes = attributes; children = children })

abbrev mutual
  -- the element whose array has these items
  pub element_in : Items → Option LitElement
  element_in (item (string name) (item (object members) rest)) = option_and_then (λ attributes. option_map (element name attributes) (children_in [] rest)) (attributes_in members)
  element_in (item (string name) rest) = option_map (element name []) (children_in [] rest)
  element_in items = None

  -- the children that items spell, where a text stands before them: texts side by side are one, and an empty one is none
  pub children_in : List ℕ → Items → Option (List Lit)
  children_in text no_items = Some (after_text text [])
  children_in text (item (string more) rest) = children_in (text ++ more) rest
  children_in text (item (array items) rest) = option_and_then (λ child. option_map (λ trees. after_text text (Element child ∷ trees)) (children_in [] rest)) (element_in items)
  children_in text (item value rest) = None

abbrev pub lit_of : Data → Option Lit
lit_of (array items) = option_map Element (element_in items)
lit_of value = None

-- the value that bytes spell, which are UTF-8
abbrev pub value_in : List ℕ → Option Data
value_in bytes = if is_utf8 bytes then read bytes else None

abbrev pub lit_or_fault : Option Lit → Result Lit JsonFault
lit_or_fault None = Err NotElement
lit_or_fault (Some lit) = Ok lit

abbrev pub read_or_fault : Option Data → Result Lit JsonFault
read_or_fault None = Err NotJson
read_or_fault (Some value) = lit_or_fault (lit_of value)

-- the tree that bytes spell, or why they spell none
abbrev pub lit_in : List ℕ → Result Lit JsonFault
lit_in bytes = read_or_fault (value_in bytes)
