-- What a recalculation evaluates (XForms 1.1, section 4.3.2 and appendix C), by the graph over the calculates: the entries that a change
-- concerns, and those that read what a calculate gives that a change reaches.
use Rattle.std.specs.Prelude.{ℕ, ◌≡◌, Bool, true, ◌||◌, List, map, filter, Some, slice_get}
use Rattle.xf_def_forest.specs.Visit.{Visit}
use Rattle.xf_graph.specs.Edges.{Adjacency, has, has_edge}
use Rattle.xf_graph.specs.Pertinent as reach
use Rattle.xf_def_model.specs.Applied.{is_calculate}
use Rattle.xf_def_model.specs.Entries.{touches}
use Rattle.xf_def_model.specs.Pertinent.{Changes, Asking, AllOf, is_begun, reads_any, pertinent_of}
use Rattle.xf_binds_rebuild.specs.Links.{nodes_in}

-- the calculates of what is asked are the vertices of the graph, and a change concerns those at these vertices
pub record AreCalculates (all : List Visit) (changes : Changes) (asked calculates : List Asking) (graph : Adjacency) (changed : List ℕ) : Type 0 where
  pub each : AllOf (λ a. is_calculate a.entry ≡ true → (i : ℕ) × (slice_get calculates i ≡ Some a)) asked
  pub among : (i : ℕ) (a : Asking) → slice_get calculates i ≡ Some a → ((k : ℕ) × (slice_get asked k ≡ Some a)) × (is_calculate a.entry ≡ true)
  pub edges : (i j : ℕ) (source reader : Asking) → slice_get calculates i ≡ Some source → slice_get calculates j ≡ Some reader
      → has_edge graph i j ≡ touches all reader.reads source.entry.node
  pub within : (i j : ℕ) → has_edge graph i j ≡ true → (a : Asking) × (slice_get calculates i ≡ Some a)
  pub begun : (i : ℕ) (a : Asking) → slice_get calculates i ≡ Some a → has changed i ≡ is_begun all changes a

abbrev pub nodes_of_calculates : List Asking → List ℕ
nodes_of_calculates calculates = map (λ a. a.entry.node) calculates

-- a change concerns it, or it reads what a calculate at one of these vertices gives
abbrev pub is_met : List Visit → Changes → List Asking → List ℕ → Asking → Bool
is_met all changes calculates vertices a = is_begun all changes a || reads_any all a (nodes_in (nodes_of_calculates calculates) vertices)

-- where these vertices are what the change reaches
abbrev pub PertinentMet : Type 0
PertinentMet = (all : List Visit) (changes : Changes) (asked calculates : List Asking) (graph : Adjacency) (changed vertices : List ℕ) →
    AreCalculates all changes asked calculates graph changed → reach.IsPertinent graph changed vertices →
    pertinent_of all changes asked ≡ filter (is_met all changes calculates vertices) asked
