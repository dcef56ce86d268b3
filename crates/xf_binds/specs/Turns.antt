-- An order in which the calculates of a model may be evaluated (XForms 1.1, section 4.3.2 and appendix C), by the nodes on which they stand
-- and by what they ask: where these nodes stand in the data does not count.
use Rattle.std.specs.Prelude.{ℕ, ◌≡◌, Bool, true, false, List, [], ◌∷◌, map, filter, if◌then◌else◌}
use Rattle.std.specs.List.{list_any}
use Rattle.xf_def_forest.specs.Visit.{has}
use Rattle.xf_def_xpath.specs.Agree.{are_apart}
use Rattle.xf_def_model.specs.declared.property.Property.TheVariants.{Calculate}
use Rattle.xf_def_model.specs.Applied.{Entry, is_calculate}
use Rattle.xf_def_model.specs.Properties.{sets_on}
use Rattle.xf_binds.specs.declared.web.Asks.{Asks}

-- a type asks nothing
abbrev pub no_asks : Asks
no_asks = record { reads = []; looks = []; above = [] }

-- what the calculate of a node asks
abbrev pub asks_on : List Entry → List Asks → ℕ → Asks
asks_on [] web n = no_asks
asks_on (e ∷ es) [] n = no_asks
asks_on (e ∷ es) (asks ∷ web) n = if sets_on n Calculate e then asks else asks_on es web n

-- a calculated node with what its calculate asks
pub record Source : Type 0 where
  pub node : ℕ
  pub asks : Asks

abbrev pub source_on : List Entry → List Asks → ℕ → Source
source_on entries web n = record { node = n; asks = asks_on entries web n }

abbrev pub calculated_nodes : List Entry → List ℕ
calculated_nodes entries = map (λ e. e.node) (filter is_calculate entries)

-- a calculate that reads so depends on the node: it reads the node or an ancestor of it
abbrev pub depends : Source → List ℕ → Bool
depends source reads = list_any (λ m. has m reads) (source.node ∷ source.asks.above)

-- none depends on itself or on one that stands after it
abbrev pub ReadBack : List Source → Type 0
ReadBack [] = Unit {0}
ReadBack (first ∷ rest) = (list_any (λ source. depends source first.asks.reads) (first ∷ rest) ≡ false) × ReadBack rest

-- the nodes of all calculates, each once, in such an order
pub record AreInTurn (entries : List Entry) (web : List Asks) (nodes : List ℕ) : Type 0 where
  pub all : (n : ℕ) → has n nodes ≡ has n (calculated_nodes entries)
  pub once : are_apart nodes ≡ true
  pub read_back : ReadBack (map (source_on entries web) nodes)
