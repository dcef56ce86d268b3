-- The places of calculates among those of their model, on a few entries.
use Rattle.std.proofs.Common.{◌≡◌, ℕ, List, [], ◌∷◌, refl}
use Rattle.xf_def_model.specs.declared.property.Property.{Property}
use Rattle.xf_def_model.specs.declared.property.Property.TheVariants.{Calculate, Readonly, Relevant, Kind}
use Rattle.xf_def_model.specs.Applied.{Entry}
use Rattle.xf_binds.specs.Placed.{placed_from, places_from}

abbrev entry : ℕ → Property → Entry
entry node property = record { node = node; property = property; bind = 0; position = 1; size = 1 }

-- calculates of the nodes 2, 4 and 6 among others
abbrev some_entries : List Entry
some_entries = entry 2 Relevant ∷ entry 2 Calculate ∷ entry 3 Kind ∷ entry 4 Calculate ∷ entry 4 Readonly ∷ entry 6 Calculate ∷ []

-- each has as many calculates before it
calculates_alone_count : places_from 0 some_entries ≡ 0 ∷ 0 ∷ 1 ∷ 1 ∷ 2 ∷ 2 ∷ []
calculates_alone_count = refl

from_a_number_on : places_from 5 (entry 6 Calculate ∷ entry 7 Calculate ∷ []) ≡ 5 ∷ 6 ∷ []
from_a_number_on = refl

the_second_calculate : placed_from 0 some_entries 4 ≡ record { entry = entry 4 Calculate; place = 1 } ∷ []
the_second_calculate = refl

-- the node has a type, and no calculate
another_property_has_no_turn : placed_from 0 some_entries 3 ≡ []
another_property_has_no_turn = refl
