-- Where no cycle of calculates stands, the settled contents are the only ones in which each calculated node has what its expression gives.
use Rattle.std.proofs.Common.{◌≡◌, ℕ, zero, suc, ◌<◌, true, ◌==◌, List, [], ◌∷◌, length, refl, sym, ap, ◌∙◌, subst, arith}
use Rattle.std.specs.Prelude.{filter}
use Rattle.std.proofs.lemmas.Bool.{lt-ltb, ltb-true}
use Rattle.xf_def_forest.specs.Visit.{Visit}
use Rattle.xf_def_forest.specs.Shape.{shape}
use Rattle.xf_graph.specs.Edges.{Adjacency, has}
use Rattle.xf_graph.specs.Order.{IsOrder}
use Rattle.xf_graph.proofs.Laws.{HasOrder-from_acyclic}
use Rattle.xf_def_model.specs.Rules.{Scope}
use Rattle.xf_def_model.specs.Applied.{Entry}
use Rattle.xf_def_model.specs.Entries.{reads_of, touches}
use Rattle.xf_def_model.specs.Circular.{Reader, by_nodes, calculated, graph_over}
use Rattle.xf_def_model.specs.Settled.{Bounds, Contents, calculates, settled_contents}
use Rattle.xf_def_model.specs.Pertinent.{AllOf}
use Rattle.xf_def_model.specs.Stands.{IsSettled, Agrees, AreStanding, AreAcyclic}
use Rattle.xf_def_model.proofs.EachLemmas.{each_then}
use Rattle.xf_def_model.proofs.CircularLemmas.{StandsAt, stands-within, within-stands, stands-map, edge-found, size-of_graph, within-graph, stands-by_nodes, length-by_nodes, length-mapped}
use Rattle.xf_def_model.proofs.RankLemmas.{rank_in, rank-bounded, stands-by, rank-falls, few-below}
use Rattle.xf_def_model.proofs.RoundLaws.{FallsAt, settled-by_rank, stands-by_rank}

-- each element stands at a place
each_place : {X : Type 0} (P : X → Type 0) (xs : List X) → AllOf P xs → AllOf (λ x. (k : ℕ) × StandsAt xs k x × P x) xs
each_place P [] h = tt
each_place P (x ∷ xs) h = ((zero, refl, h.0), each_then _ _ (λ y s. (suc s.0, s.1, s.2)) xs (each_place P xs h.1))

node_in : List Reader → ℕ → ℕ
node_in [] k = 0
node_in (x ∷ xs) zero = x.node
node_in (x ∷ xs) (suc k) = node_in xs k

node-of : (xs : List Reader) (k : ℕ) (x : Reader) → StandsAt xs k x → node_in xs k ≡ x.node
unfolding node_in
node-of [] k x h = absurd h
node-of (y ∷ ys) zero x h = ap (λ (z : Reader). z.node) h
node-of (y ∷ ys) (suc k) x h = node-of ys k x h

module _ (b : Bounds) (scope : Scope) (entries : List Entry) (all : List Visit)
    (standing : AreStanding entries all) (acyclic : AreAcyclic scope entries all) where
  abbrev readers : List Reader
  readers = calculated scope (shape all) entries

  abbrev graph : Adjacency
  graph = graph_over scope (shape all) entries

  order : (vertices : List ℕ) × IsOrder graph vertices
  order = HasOrder-from_acyclic graph (within-graph (shape all) readers) acyclic

  abbrev vertices : List ℕ
  vertices = order.0

  -- how many calculates one after the other a node is away from what they all read, at most
  rank : ℕ → ℕ
  rank n = rank_in (node_in readers) vertices n

  size : length graph ≡ length (calculates entries)
  size =
      size-of_graph (shape all) readers
      ∙ length-mapped (λ (e : Entry). record { node = e.node; reads = reads_of scope (shape all) e }) (by_nodes (shape all) (calculates entries))
      ∙ length-by_nodes (shape all) (calculates entries) standing

  -- a place of a reader is a vertex
  is_vertex : (k : ℕ) (r : Reader) → StandsAt readers k r → has vertices k ≡ true
  is_vertex k r h = order.1.all k ∙ lt-ltb k (length graph) (let less = stands-within readers k r h in let same = size-of_graph (shape all) readers in omega (arith, less, same))

  below : (v : ℕ) → has vertices v ≡ true → v < length graph
  below v h = ltb-true v (length graph) (sym (order.1.all v) ∙ h)

  reader_of : Entry → Reader
  reader_of e = record { node = e.node; reads = reads_of scope (shape all) e }

  -- where the reader of an entry stands
  place_of : (e : Entry) (k : ℕ) → StandsAt (calculates entries) k e → length (filter (λ x. e.node == x.number) (shape all)) ≡ 1 → (j : ℕ) × StandsAt readers j (reader_of e)
  unfolding reader_of
  place_of e k h once =
      let s = stands-by_nodes (shape all) (calculates entries) e k h once in
      (s.0, stands-map (λ (f : Entry). record { node = f.node; reads = reads_of scope (shape all) f }) (by_nodes (shape all) (calculates entries)) s.0 e s.1)

  falls-for : (e s : Entry) (k j : ℕ) → StandsAt readers k (reader_of e) → StandsAt readers j (reader_of s) → touches (shape all) (reads_of scope (shape all) e) s.node ≡ true → rank s.node < rank e.node
  unfolding reader_of rank
  falls-for e s k j he hs touched =
      subst (λ n. rank_in (node_in readers) vertices s.node < rank_in (node_in readers) vertices n) (node-of readers k (reader_of e) he)
      (rank-falls (node_in readers) graph s.node k vertices order.1.reads_back (is_vertex k (reader_of e) he)
      (stands-by (node_in readers) s.node j vertices (is_vertex j (reader_of s) hs) (node-of readers j (reader_of s) hs))
      (λ v h same.
      let at = within-stands readers v (let less = below v h in let sizes = size-of_graph (shape all) readers in omega (arith, less, sizes)) in
      let node : at.0.node ≡ s.node = sym (node-of readers v at.0 at.1) ∙ same in
      edge-found (shape all) readers v k at.0 (reader_of e) at.1 he (subst (λ n. touches (shape all) (reads_of scope (shape all) e) n ≡ true) (sym node) touched)))

  falls : AllOf (FallsAt b scope entries all rank) (calculates entries)
  falls =
      let places = each_place _ (calculates entries) standing in
      each_then _ _ (λ e he. each_then _ _ (λ s hs touched.
      let pe = place_of e he.0 he.1 he.2 in let ps = place_of s hs.0 hs.1 hs.2 in
      falls-for e s pe.0 ps.0 pe.1 ps.1 touched) (calculates entries) places) (calculates entries) places

  low : AllOf (λ e. rank e.node < length (calculates entries)) (calculates entries)
  unfolding rank reader_of
  low =
      each_then _ _ (λ e he.
      let pe = place_of e he.0 he.1 he.2 in
      let less = rank-bounded (node_in readers) e.node vertices (stands-by (node_in readers) e.node pe.0 vertices (is_vertex pe.0 (reader_of e) pe.1) (node-of readers pe.0 (reader_of e) pe.1)) in
      let few = few-below (length graph) vertices order.1.once below in
      let same = size in
      omega (arith, less, few, same)) (calculates entries) (each_place _ (calculates entries) standing)

  module _ (agrees : Agrees b scope entries all) where
    pub settled-unique : (contents : Contents) → IsSettled b scope entries all contents → contents ≡ settled_contents b scope entries all
    settled-unique = settled-by_rank b scope entries all agrees rank falls low

    pub settled-stands : IsSettled b scope entries all (settled_contents b scope entries all)
    settled-stands = stands-by_rank b scope entries all agrees rank falls low
