-- The turns of calculates: each with its place among the calculates of its model, in an order of their nodes.
use Rattle.std.specs.Prelude.{ℕ, suc, ◌≡◌, Bool, false, List, [], ◌∷◌, map, Option, Some, None, if◌then◌else◌}
use Rattle.std.specs.List.{flat_map}
use Rattle.xf_def_model.specs.declared.property.Property.TheVariants.{Calculate}
use Rattle.xf_def_model.specs.Applied.{Entry, is_calculate}
use Rattle.xf_def_model.specs.Pertinent.{AllOf}
use Rattle.xf_def_model.specs.Properties.{sets_on}
use Rattle.xf_binds.specs.declared.turns.Turn.{Turn}
use Rattle.xf_binds.specs.declared.web.Asks.{Asks}
use Rattle.xf_binds.specs.Held.{entry_of, place_on}
use Rattle.xf_binds.specs.Turns.{AreInTurn}

-- a calculate with its place among them
pub record Placed : Type 0 where
  pub entry : Entry
  pub place : ℕ

abbrev pub placed_of : Turn → Placed
placed_of t = record { entry = entry_of t.entry; place = t.place }

abbrev pub is_calculate_at : Option Entry → Bool
is_calculate_at None = false
is_calculate_at (Some e) = is_calculate e

-- the place of the next calculate, where this entry may be one
abbrev pub place_after : ℕ → Entry → ℕ
place_after k e = if is_calculate e then suc k else k

-- with each entry how many calculates stand before it, counted from this number on
abbrev pub places_from : ℕ → List Entry → List ℕ
places_from k [] = []
places_from k (e ∷ es) = k ∷ places_from (place_after k e) es

-- the calculate of a node, where it has one: the first
abbrev pub placed_from : ℕ → List Entry → ℕ → List Placed
placed_from k [] n = []
placed_from k (e ∷ es) n = if sets_on n Calculate e then record { entry = e; place = k } ∷ [] else placed_from (place_after k e) es n

abbrev pub placed_at : Option Entry → Option ℕ → List Placed
placed_at None place = []
placed_at (Some e) None = []
placed_at (Some e) (Some k) = record { entry = e; place = k } ∷ []

-- those of nodes, one after the other
abbrev pub placed_on : List Entry → List ℕ → List Placed
placed_on entries ns = flat_map (λ n. placed_from 0 entries n) ns

-- the calculate of its node stands at its seat
abbrev pub IsSeatedIn : List Entry → Turn → Type 0
IsSeatedIn entries t = place_on entries t.entry.node.number Calculate ≡ Some t.seat

-- those of these nodes
pub record TellsTurns (entries : List Entry) (nodes : List ℕ) (turns : List Turn) : Type 0 where
  pub placed : map placed_of turns ≡ placed_on entries nodes
  pub seated : AllOf (IsSeatedIn entries) turns

-- those of all calculates, none before one that it reads
pub record AreInOrder (entries : List Entry) (web : List Asks) (turns : List Turn) : Type 0 where
  pub nodes : List ℕ
  pub in_turn : AreInTurn entries web nodes
  pub told : TellsTurns entries nodes turns

abbrev pub turns_or : Option (List Turn) → List Turn
turns_or None = []
turns_or (Some turns) = turns
