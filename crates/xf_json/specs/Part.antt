-- How the steps of reading stand to what a part of a value spells.
use Rattle.std.specs.Prelude.{◌≡◌, ℕ, zero, suc, [], Result, Ok, Err, Option, Some, None, option_map}
use Rattle.serde_json.specs.Data.{Data, Items, no_items, item}
use Rattle.serde_json.specs.View.{view}
use Rattle.serde_json.specs.declared.value.Value.{Value}
use Rattle.xf_json.specs.Element.{element_in, element, children_in}
use Rattle.xf_json.specs.declared.fault.JsonFault.{JsonFault}
use Rattle.xf_json.specs.declared.fault.JsonFault.TheVariants.{NotJson, NotElement, Memory}
use Rattle.xf_json.specs.declared.reading.Head.{Head}

-- inside a value only an element can be missed
abbrev pub FailsPart : {X : Type 0} → JsonFault → Option X → Type 0
FailsPart NotJson spelled = ⊥
FailsPart NotElement spelled = spelled ≡ None
FailsPart Memory spelled = Unit {0}

abbrev pub GivesPart : {X : Type 0} → Result X JsonFault → Option X → Type 0
GivesPart (Ok x) spelled = spelled ≡ Some x
GivesPart (Err fault) spelled = FailsPart fault spelled

-- bytes fail to be a value, and what kind of value it is comes later
abbrev pub FailsValue : JsonFault → Option Data → Type 0
FailsValue NotJson spelled = spelled ≡ None
FailsValue NotElement spelled = ⊥
FailsValue Memory spelled = Unit {0}

abbrev pub GivesValue : Result Value JsonFault → Option Data → Type 0
GivesValue (Ok value) spelled = spelled ≡ Some (view value)
GivesValue (Err fault) spelled = FailsValue fault spelled

-- the items from a place on
abbrev pub items_from : ℕ → Items → Items
items_from zero items = items
items_from (suc n) no_items = no_items
items_from (suc n) (item value rest) = items_from n rest

-- the element is that of the head and of the children after it
abbrev pub GivesHead : Result Head JsonFault → Items → Type 0
GivesHead (Ok h) items = element_in items ≡ option_map (element h.name h.attributes) (children_in [] (items_from h.from items))
GivesHead (Err fault) items = FailsPart fault (element_in items)
