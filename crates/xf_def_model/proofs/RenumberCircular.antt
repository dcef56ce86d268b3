-- Cycles of calculates go with a renumbering of the nodes: the graph is the same.
use Rattle.std.proofs.Common.{◌≡◌, ℕ, suc, ◌==◌, Bool, List, [], ◌∷◌, ◌++◌, map, Option, Some, None, option_map, refl, sym, ap, ◌∙◌, subst}
use Rattle.std.specs.Prelude.{filter, slice_get}
use Rattle.std.proofs.lemmas.List.{map-append}
use Rattle.std.proofs.lemmas.Option.{slice_get-map}
use Rattle.xf_def_forest.specs.Visit.{Visit}
use Rattle.xf_def_forest.specs.Same.{IsRenumbering, renumbered_visit}
use Rattle.xf_def_forest.proofs.RenumberLaws.{filter-through}
use Rattle.xf_graph.specs.Cycle.{IsChosen}
use Rattle.xf_def_xpath.specs.Binding.{as_list}
use Rattle.xf_def_model.specs.Rules.{Scope}
use Rattle.xf_def_model.specs.Applied.{Entry, is_calculate}
use Rattle.xf_def_model.specs.Entries.{reads_of, touches}
use Rattle.xf_def_model.specs.Circular.{Reader, by_nodes, calculated, places_from, places_of, dependents, graph_over, nodes_at, IsReported}
use Rattle.xf_def_model.specs.Same.{renumbered_entry, renumbered_scope, renumbered_reader}
use Rattle.xf_def_model.proofs.RenumberBinds.{flat-goes}
use Rattle.xf_def_model.proofs.RenumberEntries.{ScopeGoes, reads-renumbered, touches-renumbered}

module _ (f : ℕ → ℕ) (same : IsRenumbering f) where
  calculates-renumbered : (entries : List Entry) → filter is_calculate (map (renumbered_entry f) entries) ≡ map (renumbered_entry f) (filter is_calculate entries)
  calculates-renumbered entries = filter-through (renumbered_entry f) is_calculate is_calculate (λ e. refl) entries

  by_nodes-renumbered : (all : List Visit) (entries : List Entry) → by_nodes (map (renumbered_visit f) all) (map (renumbered_entry f) entries) ≡ map (renumbered_entry f) (by_nodes all entries)
  by_nodes-renumbered all entries =
      flat-goes (renumbered_visit f) (renumbered_entry f) (λ x. filter (λ e. e.node == x.number) entries) (λ x. filter (λ e. e.node == x.number) (map (renumbered_entry f) entries))
      (λ x. filter-through (renumbered_entry f) (λ e. e.node == f x.number) (λ e. e.node == x.number) (λ e. same e.node x.number) entries) all

  module _ (scope : Scope) (goes : ScopeGoes f scope) (all : List Visit) where
    abbrev others : List Visit
    others = map (renumbered_visit f) all

    each-reader : (es : List Entry)
        → map (λ (e : Entry). record { node = e.node; reads = reads_of (renumbered_scope f scope) others e }) (map (renumbered_entry f) es)
        ≡ map (renumbered_reader f) (map (λ (e : Entry). record { node = e.node; reads = reads_of scope all e }) es)
    each-reader [] = refl
    each-reader (e ∷ es) =
        ap (λ (r : List ℕ). record { node = f e.node; reads = r } ∷ map (λ (x : Entry). record { node = x.node; reads = reads_of (renumbered_scope f scope) others x }) (map (renumbered_entry f) es)) (reads-renumbered f same scope goes all e)
        ∙ ap (λ l. record { node = f e.node; reads = map f (reads_of scope all e) } ∷ l) (each-reader es)

    pub calculated-renumbered : (entries : List Entry) → calculated (renumbered_scope f scope) others (map (renumbered_entry f) entries) ≡ map (renumbered_reader f) (calculated scope all entries)
    calculated-renumbered entries =
        ap (λ es. map (λ (e : Entry). record { node = e.node; reads = reads_of (renumbered_scope f scope) others e }) (by_nodes others es)) (calculates-renumbered entries)
        ∙ ap (map (λ (e : Entry). record { node = e.node; reads = reads_of (renumbered_scope f scope) others e })) (by_nodes-renumbered all (filter is_calculate entries))
        ∙ each-reader (by_nodes all (filter is_calculate entries))

    places-through : (at : ℕ) (p q : Reader → Bool) → ((r : Reader) → p (renumbered_reader f r) ≡ q r) → (rs : List Reader) → places_from at p (map (renumbered_reader f) rs) ≡ places_from at q rs
    places-through at p q h [] = refl
    places-through at p q h (r ∷ rs) = rw (h r, places-through (suc at) p q h rs) refl

    sources-through : (rs sources : List Reader)
        → map (λ (source : Reader). places_of (λ (reader : Reader). touches others reader.reads source.node) (map (renumbered_reader f) rs)) (map (renumbered_reader f) sources)
        ≡ map (λ (source : Reader). places_of (λ (reader : Reader). touches all reader.reads source.node) rs) sources
    sources-through rs [] = refl
    sources-through rs (s ∷ ss) =
        ap (λ ps. ps ∷ map (λ (source : Reader). places_of (λ (reader : Reader). touches others reader.reads source.node) (map (renumbered_reader f) rs)) (map (renumbered_reader f) ss))
        (places-through 0 (λ reader. touches others reader.reads (f s.node)) (λ reader. touches all reader.reads s.node) (λ r. touches-renumbered f same all r.reads s.node) rs)
        ∙ ap (λ l. places_of (λ (reader : Reader). touches all reader.reads s.node) rs ∷ l) (sources-through rs ss)

    pub graph-renumbered : (entries : List Entry) → graph_over (renumbered_scope f scope) others (map (renumbered_entry f) entries) ≡ graph_over scope all entries
    graph-renumbered entries = ap (dependents others) (calculated-renumbered entries) ∙ sources-through (calculated scope all entries) (calculated scope all entries)

    as_list-renumbered : (n : Option ℕ) → as_list (option_map f n) ≡ map f (as_list n)
    as_list-renumbered None = refl
    as_list-renumbered (Some n) = refl

    nodes-map : (rs : List Reader) → map (λ (r : Reader). r.node) (map (renumbered_reader f) rs) ≡ map f (map (λ (r : Reader). r.node) rs)
    nodes-map [] = refl
    nodes-map (r ∷ rs) = ap (λ l. f r.node ∷ l) (nodes-map rs)

    nodes-renumbered : (rs : List Reader) (places : List ℕ) → nodes_at (map (renumbered_reader f) rs) places ≡ map f (nodes_at rs places)
    nodes-renumbered rs [] = refl
    nodes-renumbered rs (p ∷ ps) =
        rw (nodes-map rs, slice_get-map f (map (λ (r : Reader). r.node) rs) p, as_list-renumbered (slice_get (map (λ (r : Reader). r.node) rs) p))
        (ap (λ l. map f (as_list (slice_get (map (λ (r : Reader). r.node) rs) p)) ++ l) (nodes-renumbered rs ps)
        ∙ sym (map-append f (as_list (slice_get (map (λ (r : Reader). r.node) rs) p)) (nodes_at rs ps)))

    pub reported-renumbered : (entries : List Entry) (cycle : List ℕ) → IsReported scope all entries cycle → IsReported (renumbered_scope f scope) others (map (renumbered_entry f) entries) (map f cycle)
    reported-renumbered entries cycle r = (
      r.0,
      subst (λ g. IsChosen g r.0) (sym (graph-renumbered entries)) r.1,
      ap (map f) r.2 ∙ sym (ap (λ rs. nodes_at rs r.0) (calculated-renumbered entries) ∙ nodes-renumbered (calculated scope all entries) r.0),
    )
