-- The element that an id names: the first one in document order that has it. An empty id is none.
use Rattle.std.specs.Prelude.{◌≡◌, ℕ, suc, Bool, true, false, not, ◌&&◌, nat_eq, List, [], ◌∷◌, length, Option, Some, None, if◌then◌else◌}
use Rattle.std.specs.HashMap.{get_by, HashMap}
use Rattle.std.specs.Str.{bytes_eq}
use denote.Ref.{Bor}
use Rattle.xf_def_ui.specs.Interface.{Element, Interface}

-- an element with the second has the first as its id
abbrev pub is_named : List ℕ → List ℕ → Bool
is_named id own = not (nat_eq (length own) 0) && bytes_eq id own

-- among these, of which the first has the number
abbrev pub named_from : List ℕ → ℕ → List Element → Option ℕ
named_from id n [] = None
named_from id n (e ∷ es) = if is_named id e.id then Some n else named_from id (suc n) es

abbrev pub element_named : Interface → List ℕ → Option ℕ
element_named f id = named_from id 0 f.elements

-- ---- in a map

abbrev pub found : {S : Type 0} → HashMap (Bor (List ℕ)) ℕ S → List ℕ → Option ℕ
found all id = get_by (λ key. bytes_eq id key.now) all

-- what was found, else the number where it holds
abbrev pub first_or : Option ℕ → Bool → ℕ → Option ℕ
first_or (Some old) holds n = Some old
first_or None true n = Some n
first_or None false n = None

abbrev pub AddsId : {S : Type 0} → HashMap (Bor (List ℕ)) ℕ S → HashMap (Bor (List ℕ)) ℕ S → List ℕ → ℕ → Type 0
AddsId old new name n = (id : List ℕ) → found new id ≡ first_or (found old id) (bytes_eq id name) n

abbrev pub AreNames : {S : Type 0} → HashMap (Bor (List ℕ)) ℕ S → Interface → Type 0
AreNames all f = (id : List ℕ) → found all id ≡ element_named f id
