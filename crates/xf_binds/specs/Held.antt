-- The entries and types that the binds of a model set, each with the truth that its value had, and where those of a node stand among them.
use Rattle.std.specs.Prelude.{ℕ, suc, ◌≡◌, Bool, false, ◌&&◌, List, [], ◌∷◌, map, find, Option, Some, None, is_some, option_map, slice_get, nat_eq, ◌==◌, if◌then◌else◌}
use Rattle.std.specs.List.{list_any}
use Rattle.indexmap.specs.IndexMap.{IndexMap, get}
use Rattle.xf_def_model.specs.declared.property.Property.{Property}
use Rattle.xf_def_model.specs.declared.property.Property.TheVariants.{Kind, Calculate, Relevant, Readonly, Required, Constraint}
use Rattle.xf_def_model.specs.Applied as applied
use Rattle.xf_def_model.specs.Applied.{is_property}
use Rattle.xf_def_model.specs.Pertinent.{is_same}
use Rattle.xf_def_model.specs.Properties.{sets_on}
use Rattle.xf_binds.specs.declared.entry.Entry.{Entry}
use Rattle.xf_binds.specs.declared.entry.Item.{Item}
use Rattle.xf_binds.specs.declared.entry.Seats.{Seats}

-- the places of nodes in memory do not count
abbrev pub entry_of : Entry → applied.Entry
entry_of e = record { node = e.node.number; property = e.property; bind = e.bind; position = e.position; size = e.size }

pub record Held : Type 0 where
  pub entry : applied.Entry
  -- None where it had no value yet
  pub truth : Option Bool

abbrev pub newly_held : applied.Entry → Held
newly_held e = record { entry = e; truth = None }

abbrev pub held_of : Item → Held
held_of item = record { entry = entry_of item.entry; truth = item.truth }

abbrev pub holds : List Item → List Held
holds items = map held_of items

abbrev pub entries_in : List Held → List applied.Entry
entries_in held = map (λ h. h.entry) held

-- entries with these truths, by their places: one past them has none
abbrev pub held_by : List applied.Entry → List (Option Bool) → List Held
held_by [] truths = []
held_by (e ∷ es) [] = newly_held e ∷ held_by es []
held_by (e ∷ es) (t ∷ truths) = record { entry = e; truth = t } ∷ held_by es truths

-- ---- one entry among them

abbrev pub held_on : ℕ → Property → Held → Bool
held_on n p h = sets_on n p h.entry

abbrev pub held_as : applied.Entry → Held → Bool
held_as e h = is_same e h.entry

-- the entry at the node that sets the property
abbrev pub held_at : List Held → ℕ → Property → Option Held
held_at held n p = find (held_on n p) held

-- the same attribute of the same bind for the same node
abbrev pub held_same : List Held → applied.Entry → Option Held
held_same held e = find (held_as e) held

-- the place of the entry at the node that sets the property
abbrev pub place_on : List applied.Entry → ℕ → Property → Option ℕ
place_on [] n p = None
place_on (e ∷ es) n p = if sets_on n p e then Some 0 else option_map suc (place_on es n p)

-- ---- where they stand

abbrev pub seat_of : Seats → Property → Option ℕ
seat_of s Kind = s.kind
seat_of s Calculate = s.calculate
seat_of s Relevant = s.relevant
seat_of s Readonly = s.readonly
seat_of s Required = s.required
seat_of s Constraint = s.constraint

abbrev pub no_seats : Seats
no_seats = record { kind = None; calculate = None; relevant = None; readonly = None; required = None; constraint = None }

abbrev pub seats_with : Seats → Property → ℕ → Seats
seats_with s Kind k = record s { kind = Some k }
seats_with s Calculate k = record s { calculate = Some k }
seats_with s Relevant k = record s { relevant = Some k }
seats_with s Readonly k = record s { readonly = Some k }
seats_with s Required k = record s { required = Some k }
seats_with s Constraint k = record s { constraint = Some k }

abbrev pub seat_in : Option Seats → Property → Option ℕ
seat_in None p = None
seat_in (Some s) p = seat_of s p

-- those of a node, where one without entries has none
abbrev pub seats_or : Option Seats → Seats
seats_or None = no_seats
seats_or (Some s) = s

abbrev pub is_seat : Option ℕ → ℕ → Bool
is_seat None i = false
is_seat (Some j) i = j == i

abbrev pub passes : {X : Type 0} → (X → Bool) → Option X → Bool
passes test None = false
passes test (Some x) = test x

-- the seat is the one place at which the property of the node is set: so no property of a node is set twice
abbrev pub IsSeated : {S : Type 0} → List Held → IndexMap ℕ Seats S → Type 0
IsSeated held seats = (n : ℕ) (p : Property) (i : ℕ) → is_seat (seat_in (get nat_eq seats n) p) i ≡ passes (held_on n p) (slice_get held i)

-- those of the first nodes stand in a list besides, by their numbers
abbrev pub AreNear : {S : Type 0} → IndexMap ℕ Seats S → List Seats → Type 0
AreNear seats near = (n : ℕ) (s : Seats) → slice_get near n ≡ Some s → s ≡ seats_or (get nat_eq seats n)

-- an entry sets the property on some node
abbrev pub is_set : Property → List applied.Entry → Bool
is_set p entries = list_any (λ e. is_property e.property p) entries

-- a property has a seat where it is set on some node
abbrev pub AreSet : List Held → Seats → Type 0
AreSet held last = (p : Property) → is_some (seat_of last p) ≡ is_set p (entries_in held)

-- where one entry at most is the same attribute of the same bind for the same node, this is it
abbrev pub IsOnly : List applied.Entry → applied.Entry → Option applied.Entry → Type 0
IsOnly entries e found = (test : applied.Entry → Bool) → list_any (λ old. is_same e old && test old) entries ≡ passes test found

-- no property of a node is set twice: each entry is found at its place
abbrev pub AreSingle : List applied.Entry → Type 0
AreSingle entries = (place : ℕ) (e : applied.Entry) → slice_get entries place ≡ Some e → place_on entries e.node e.property ≡ Some place
