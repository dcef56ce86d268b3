-- The JSON that stands for a literal tree (RFC 8259).
use Rattle.std.specs.Prelude.{ℕ, List, [], ◌∷◌, Bool, true, ◌&&◌}
use Rattle.std.specs.Cmp.Lexicographic.{slice_cmp}
use Rattle.std.specs.Ordering.{nat_cmp, is_lt}
use Rattle.serde_json.specs.Data.{Data, string, array, object, Items, item, Members, no_members, put}
use Rattle.serde_json.specs.View.{items_of}
use Rattle.serde_json.specs.Written.{compact_text}
use Rattle.xf_name.specs.declared.lit.Pair.{Pair}
use Rattle.xf_name.specs.declared.lit.Lit.{Lit, fold-Lit}
use Rattle.xf_name.specs.declared.lit.Lit.TheOpen.{Lit-F, LitElement-F}
use Rattle.xf_name.specs.declared.lit.LitElement.{LitElement, fold-LitElement}

-- members, and attributes that go in one after another: in the order of the bytes of their names, a later one in the place of an
-- earlier one of its name
abbrev pub with_pairs : Members → List Pair → Members
with_pairs members [] = members
with_pairs members (p ∷ ps) = with_pairs (put p.name (string p.text) members) ps

-- an object of the attributes where there are some, and what follows
abbrev pub with_object : List Pair → Items → Items
with_object [] items = items
with_object (p ∷ ps) items = item (object (with_pairs no_members (p ∷ ps))) items

-- one level, with the value of each part in its place
abbrev pub lit_value : Lit-F Data Data → Data
lit_value (Lit-F.Text text) = string text
lit_value (Lit-F.Element value) = value

abbrev pub element_value : LitElement-F Data Data → Data
element_value e = array (item (string e.name) (with_object e.attributes (items_of e.children)))

-- the value of a tree: a text is a string, and an element is an array of its name, its attributes and its children
abbrev pub value_of : Lit → Data
value_of = fold-Lit Data Data lit_value element_value

abbrev pub value_of_element : LitElement → Data
value_of_element = fold-LitElement Data Data lit_value element_value

-- the text of a tree, with no blanks
abbrev pub text_of : Lit → List ℕ
text_of lit = compact_text (value_of lit)

-- the names rise strictly by their bytes, from a name before them on
abbrev pub rise_from : List ℕ → List Pair → Bool
rise_from name [] = true
rise_from name (p ∷ ps) = is_lt (slice_cmp nat_cmp name p.name) && rise_from p.name ps

abbrev pub are_rising : List Pair → Bool
are_rising [] = true
are_rising (p ∷ ps) = rise_from p.name ps
