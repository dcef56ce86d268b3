-- What a refresh tells (XForms 1.1, sections 4.3.4 and 4.4): the differences of the copies that stand in the list before and in the new
-- one, by element and chain of rows, in the order of the new list.
use Rattle.std.specs.Prelude.{ℕ, Bool, true, false, ◌&&◌, List, [], ◌∷◌, ◌++◌, find, Option, Some, None, bytes_eq, codes, ◌==◌, if◌then◌else◌}
use Rattle.std.specs.List.{flat_map}
use Rattle.xf_def_ui.specs.Copies.{Copy}

-- an event that tells of a difference
pub record Notification : Type 0 where
  -- the name of the event
  pub name : List ℕ
  -- the element to which it goes, and the chain of rows of its copy
  pub target : ℕ
  pub rows : List ℕ

-- ---- of one copy

-- both have the same value, or none
abbrev pub same_value : Option (List ℕ) → Option (List ℕ) → Bool
same_value None None = true
same_value (Some text) (Some other) = bytes_eq text other
same_value text other = false

-- a value that comes or goes is another one, an empty value too
abbrev pub value_names : Copy → Copy → List (List ℕ)
value_names old new = if same_value old.value new.value then [] else codes "xforms-value-changed" ∷ []

-- where the state is another one, the name of what it is now
abbrev pub state_names : List ℕ → List ℕ → Bool → Bool → List (List ℕ)
state_names on off true true = []
state_names on off true false = off ∷ []
state_names on off false true = on ∷ []
state_names on off false false = []

-- the events that tell how a copy differs from what it was, in their order
abbrev pub names_of : Copy → Copy → List (List ℕ)
names_of old new =
    value_names old new
    ++ state_names (codes "xforms-valid") (codes "xforms-invalid") old.valid new.valid
    ++ state_names (codes "xforms-readwrite") (codes "xforms-readonly") old.readwrite new.readwrite
    ++ state_names (codes "xforms-required") (codes "xforms-optional") old.required new.required
    ++ state_names (codes "xforms-enabled") (codes "xforms-disabled") old.enabled new.enabled

-- ---- of two lists

-- the copies are of the same element in the same rows
abbrev pub is_same_copy : Copy → Copy → Bool
is_same_copy one other = (one.element == other.element) && bytes_eq one.rows other.rows

-- events of these names to a copy
abbrev pub told : Copy → List (List ℕ) → List Notification
told c [] = []
told c (name ∷ names) = record { name = name; target = c.element; rows = c.rows } ∷ told c names

-- a copy that is new has no differences
abbrev pub told_since : Option Copy → Copy → List Notification
told_since None new = []
told_since (Some old) new = told new (names_of old new)

-- all of them, before any is dispatched
abbrev pub notifications : List Copy → List Copy → List Notification
notifications before now = flat_map (λ c. told_since (find (is_same_copy c) before) c) now
