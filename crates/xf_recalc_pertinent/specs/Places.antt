-- Entries by their places: what the one at a place reads, and which nodes it gives another text.
use Rattle.std.specs.Prelude.{ℕ, Bool, false, ◌&&◌, List, ◌∷◌, Option, Some, None, slice_get, get_or}
use Rattle.xf_def_forest.specs.Visit.{has}
use Rattle.xf_def_model.specs.Applied.{Entry, is_calculate}
use Rattle.xf_binds.specs.declared.web.Asks.{Asks}
pub use Rattle.xf_binds.specs.Readers.{asks_at, reads_at, reads_in}

abbrev pub gives_in : Option Entry → Asks → ℕ → Bool
gives_in None asks n = false
gives_in (Some e) asks n = is_calculate e && has n (e.node ∷ asks.above)

-- the entry at a place is a calculate, of the node or of one below it: it gives the node another text
abbrev pub gives_at : List Entry → List Asks → ℕ → ℕ → Bool
gives_at entries web place n = gives_in (slice_get entries place) (asks_at web place) n

-- ---- marks by places

abbrev pub is_marked : List Bool → ℕ → Bool
is_marked marks place = get_or marks place false
