-- Which entries read a node, by their places.
use Rattle.std.specs.Prelude.{ℕ, ◌≡◌, Bool, false, List, [], Option, Some, None, nat_eq, slice_get}
use Rattle.indexmap.specs.IndexMap.{IndexMap, get}
use Rattle.xf_def_forest.specs.Visit.{has}
use Rattle.xf_def_model.specs.Applied.{Entry}
use Rattle.xf_binds.specs.declared.web.Asks.{Asks}
use Rattle.xf_binds.specs.Turns.{no_asks}

abbrev pub asks_or : Option Asks → Asks
asks_or None = no_asks
asks_or (Some asks) = asks

-- what the entry at a place asks
abbrev pub asks_at : List Asks → ℕ → Asks
asks_at web place = asks_or (slice_get web place)

abbrev pub reads_in : Option Entry → Asks → ℕ → Bool
reads_in None asks n = false
reads_in (Some e) asks n = has n asks.reads

-- the entry at a place reads the node
abbrev pub reads_at : List Entry → List Asks → ℕ → ℕ → Bool
reads_at entries web place n = reads_in (slice_get entries place) (asks_at web place) n

abbrev pub list_or : Option (List ℕ) → List ℕ
list_or None = []
list_or (Some places) = places

-- these places are those of the entries that read the node
pub record AreReaders (entries : List Entry) (web : List Asks) (n : ℕ) (places : List ℕ) : Type 0 where
  pub each : (place : ℕ) → has place places ≡ reads_at entries web place n

-- ---- an index from nodes to these places

abbrev pub readers_at : {S : Type 0} → IndexMap ℕ (List ℕ) S → ℕ → List ℕ
readers_at readers n = list_or (get nat_eq readers n)

abbrev pub TellsReaders : {S : Type 0} → List Entry → List Asks → IndexMap ℕ (List ℕ) S → Type 0
TellsReaders entries web readers = (n place : ℕ) → has place (readers_at readers n) ≡ reads_at entries web place n
