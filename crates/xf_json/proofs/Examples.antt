-- The definitions at small trees.
use Rattle.std.proofs.Common.{◌≡◌, List, ℕ, [], ◌∷◌, Some, None, Ok, Err, refl}
use Rattle.std.specs.Prelude.{codes, true, false}
use Rattle.serde_json.specs.Data.{unsigned, number, null, string, array, object, no_items, item, no_members, member}
use Rattle.xf_name.specs.declared.lit.Pair.{Pair}
use Rattle.xf_name.specs.declared.lit.Lit.TheVariants.{Text, Element}
use Rattle.xf_json.specs.declared.fault.JsonFault.TheVariants.{NotJson, NotElement}
use Rattle.xf_json.specs.Element.{attributes_in, element, element_in, children_in, read_or_fault}
use Rattle.xf_json.specs.Printed.{with_pairs, element_value, are_rising}

abbrev a : List ℕ
a = codes "a"

abbrev b : List ℕ
b = codes "b"

abbrev pair_ab : Pair
pair_ab = record { name = a; text = b }

abbrev pair_ba : Pair
pair_ba = record { name = b; text = a }

-- texts side by side are one, also round an empty one
joined : children_in [] (item (string a) (item (string []) (item (string b) no_items))) ≡ Some (Text (codes "ab") ∷ [])
joined = refl

-- an empty text alone is none
dropped : children_in [] (item (string []) no_items) ≡ Some []
dropped = refl

-- texts round an element stay apart
apart : element_in (item (string a) (item (string a) (item (array (item (string b) no_items)) (item (string b) no_items)))) ≡ Some (element a [] (Text a ∷ Element (element b [] []) ∷ Text b ∷ []))
apart = refl

-- an object behind the name is the attributes, and one further on is none
attributes_first : element_in (item (string a) (item (object (member a (string b) no_members)) no_items)) ≡ Some (element a (pair_ab ∷ []) [])
attributes_first = refl

object_later : element_in (item (string a) (item (string b) (item (object no_members) no_items))) ≡ None
object_later = refl

-- the value of an attribute is a string
number_value : attributes_in (member a (number (unsigned 1)) no_members) ≡ None
number_value = refl

-- an element begins with its name
no_name : element_in no_items ≡ None
no_name = refl

null_child : element_in (item (string a) (item null no_items)) ≡ None
null_child = refl

-- the faults
bare_text : read_or_fault (Some (string a)) ≡ Err NotElement
bare_text = refl

no_value : read_or_fault None ≡ Err NotJson
no_value = refl

smallest : read_or_fault (Some (array (item (string a) no_items))) ≡ Ok (Element (element a [] []))
smallest = refl

-- attributes are printed in order, the later of two of one name
sorted : with_pairs no_members (pair_ba ∷ pair_ab ∷ record { name = b; text = b } ∷ []) ≡ member a (string b) (member b (string b) no_members)
sorted = refl

no_object : element_value (record { name = a; attributes = []; children = string b ∷ [] }) ≡ array (item (string a) (item (string b) no_items))
no_object = refl

rising : are_rising (pair_ab ∷ pair_ba ∷ []) ≡ true
rising = refl

not_rising : are_rising (pair_ab ∷ pair_ab ∷ []) ≡ false
not_rising = refl
