-- The numbers of a form's elements (XForms 1.1, section 3). An element has among its kind the number of those that stand before it in
-- document order. An id names the first element outside instances that has it, what is passed over apart.
use Rattle.std.specs.Prelude.{ℕ, suc, List, [], ◌∷◌, take, Option, Some, None, option_map, unwrap_or, if◌then◌else◌}
use Rattle.xf_form_vocabulary.specs.Attributes.{Shown, text_in}
use Rattle.xf_form_refusals.specs.declared.classes.Class.{Class}
use Rattle.xf_form_refusals.specs.declared.classes.Class.TheVariants as class
use Rattle.xf_form_refusals.specs.Classes.{is_called}
use Rattle.xf_form_refusals.specs.Limits.{count_of}
use Rattle.xf_form_refusals.specs.Rows.{Seen}

-- the number among its kind of the element at a place in the form
abbrev pub number_among : Class → List Seen → ℕ → ℕ
number_among c all place = count_of c (take place all)

-- the number of an element
abbrev pub number_of : List Seen → ℕ → ℕ
number_of all place = number_among class.Numbered all place

-- ---- ids

-- the place of the first element with an id, where the first of these has the place
abbrev pub place_from : ℕ → List Seen → List ℕ → Option ℕ
place_from place [] id = None
place_from place (r ∷ rs) id = if is_called class.Numbered id r then Some place else place_from (suc place) rs id

abbrev pub place_called : List Seen → List ℕ → Option ℕ
place_called all id = place_from 0 all id

-- a form in which an attribute names nothing is refused
abbrev pub place_named : List Seen → List ℕ → ℕ
place_named all id = unwrap_or (place_called all id) 0

-- the number among its kind of the element with an id
abbrev pub named : Class → List Seen → List ℕ → ℕ
named c all id = number_among c all (place_named all id)

-- the same of the element that an attribute names, where it is written
abbrev pub named_at : Class → List Seen → List Shown → ℕ → Option ℕ
named_at c all known code = option_map (named c all) (text_in code known)
