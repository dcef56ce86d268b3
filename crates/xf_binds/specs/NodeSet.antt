-- A list of nodes with the set of their numbers beside it.
use Rattle.std.specs.Prelude.{ℕ, ◌≡◌, List, nat_eq}
use Rattle.std.specs.HashSet.{contains}
use Rattle.indexmap.specs.IndexSet.{IndexSet}
use Rattle.xf_def_forest.specs.Visit.{has}

abbrev pub IsIndexed : {S : Type 0} → List ℕ → IndexSet ℕ S → Type 0
IsIndexed nodes numbers = (n : ℕ) → contains nat_eq numbers n ≡ has n nodes
