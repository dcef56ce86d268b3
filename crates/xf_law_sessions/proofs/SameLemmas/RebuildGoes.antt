-- A rebuild goes with a renumbering: what binds set, exceptions and cycles with the same paths, and how much entries ask.
use Rattle.std.proofs.Common.{◌≡◌, ℕ, List, [], ◌∷◌, ◌++◌, map, nat_lt, Option, Some, None, option_map, Result, Ok, Err, refl, sym, ap, ◌∙◌}
use Rattle.std.specs.Prelude.{slice_get}
use Rattle.std.proofs.lemmas.List.{map-append}
use Rattle.std.proofs.lemmas.Option.{slice_get-map}
use Rattle.xf_def_forest.specs.Shape.{shape_of}
use Rattle.xf_def_forest.specs.Same.{renumbered, renumbered_visit}
use Rattle.xf_def_forest.specs.Visit.{Visit}
use Rattle.xf_def_forest.proofs.RenumberTexts.{shape_of-renumbered}
use Rattle.xf_def_xpath.specs.Binding.{as_list}
use Rattle.xf_def_model.specs.Applied.{Entry, Exception, twice, on_parent, applied}
use Rattle.xf_def_model.specs.Circular.{Reader, calculated, dependents, graph_over, nodes_at}
use Rattle.xf_def_model.specs.Entries.{edge_count}
use Rattle.xf_def_model.specs.Rules.{Scope}
use Rattle.xf_def_model.specs.Same.{renumbered_entry, renumbered_scope, renumbered_applied, renumbered_reader}
use Rattle.xf_def_model.proofs.RenumberEntries.{sets-go}
use Rattle.xf_def_model.proofs.RenumberApplied.{applied-renumbered}
use Rattle.xf_def_model.proofs.RenumberCircular.{calculated-renumbered, graph-renumbered}
use Rattle.xf_def_model.proofs.RenumberSettled.{edges-renumbered}
use Rattle.xf_def_machine.specs.declared.limit.LimitWord.{LimitWord}
use Rattle.xf_def_machine.specs.declared.limit.LimitWord.TheVariants.{Edges}
use Rattle.xf_def_machine.specs.Profile.{Profile}
use Rattle.xf_def_machine.specs.State.{State}
use Rattle.xf_def_machine.specs.Refusal.{Refused, circular, unless_passed, if_over}
use Rattle.xf_def_machine.specs.Refusal as refusal
use Rattle.xf_def_machine.specs.Flow.{◌>>=◌}
use Rattle.xf_def_machine.specs.Surround.{bind_scope}
use Rattle.xf_def_machine.specs.Primitives.{in_model}
use Rattle.xf_def_machine.specs.Properties.{path_in}
use Rattle.xf_def_machine.specs.Cycles.{reported_cycle}
use Rattle.xf_def_machine.specs.Behave.{asked_by_all, within_edges, rebuilt_with, unless_cycle, no_cycle, by_applied, rebuild}
use Rattle.xf_law_sessions.specs.Same.Going.{Runs, image, Counts, imaged, CountsAfter}
use Rattle.xf_law_sessions.specs.Same.Behaving.{HasTables, Behaves}
use Rattle.xf_law_sessions.proofs.SameLemmas.ScopeGoes.{asked-same, bind_scope-is, path-goes, rules-go}
use Rattle.xf_law_sessions.proofs.SameLemmas.GoingLaws.{in-model-goes}

-- ---- the nodes of a cycle

list-goes : (f : ℕ → ℕ) (o : Option ℕ) → as_list (option_map f o) ≡ map f (as_list o)
list-goes f None = refl
list-goes f (Some n) = refl

readers-go : (f : ℕ → ℕ) (rs : List Reader) → map (λ (r : Reader). r.node) (map (renumbered_reader f) rs) ≡ map f (map (λ (r : Reader). r.node) rs)
readers-go f [] = refl
readers-go f (r ∷ rs) = ap (λ l. f r.node ∷ l) (readers-go f rs)

nodes-go : (f : ℕ → ℕ) (rs : List Reader) (places : List ℕ) → nodes_at (map (renumbered_reader f) rs) places ≡ map f (nodes_at rs places)
nodes-go f rs [] = refl
nodes-go f rs (k ∷ ks) =
    let nodes = map (λ (r : Reader). r.node) rs in
    rw (readers-go f rs, slice_get-map f nodes k, list-goes f (slice_get nodes k))
    (ap (λ l. map f (as_list (slice_get nodes k)) ++ l) (nodes-go f rs ks) ∙ sym (map-append f (as_list (slice_get nodes k)) (nodes_at rs ks)))

module _ (p : Profile) (f : ℕ → ℕ) (first second : ℕ) (r : Runs p f first second) (model : ℕ) where
  paths-go : (s : State) (ns : List ℕ) → map (path_in (image f second s)) (map f ns) ≡ map (path_in s) ns
  paths-go s [] = refl
  paths-go s (n ∷ ns) =
      ap (λ text. text ∷ map (path_in (image f second s)) (map f ns)) (path-goes f r.renumbers second s n) ∙ ap (λ l. path_in s n ∷ l) (paths-go s ns)

  cycle-goes : (s : State) (readers : List Reader) (o : Option (List ℕ))
      → unless_cycle (image f second s) (map (renumbered_reader f) readers) o (image f second s) ≡ imaged f second (unless_cycle s readers o s)
  cycle-goes s readers None = refl
  cycle-goes s readers (Some places) =
      ap {A = List (List ℕ)} {B = Result State Refused} (λ paths. Err (record { why = circular paths; calls = s.calls }))
      (ap (map (path_in (image f second s))) (nodes-go f readers places) ∙ paths-go s (nodes_at readers places))

  no-cycle-goes : (entries : List Entry) (s : State) → HasTables s.form → no_cycle p model (map (renumbered_entry f) entries) (image f second s) ≡ imaged f second (no_cycle p model entries s)
  no-cycle-goes entries s tables =
      let t = image f second s in
      let others = map (renumbered_entry f) entries in
      let sc = bind_scope p s model in
      let all = shape_of s.forest.nodes in
      let goes = rules-go p f r.renumbers s tables model in
      let told : Scope → List Visit → Result State Refused = λ x v. unless_cycle t (calculated x v others) (reported_cycle (dependents v (calculated x v others))) t in
      ap (λ x. told x (shape_of (map (renumbered f) s.forest.nodes))) (bind_scope-is f r.renumbers second s p model)
      ∙ ap (told (renumbered_scope f sc)) (shape_of-renumbered f r.renumbers r.keeps_texts s.forest.nodes)
      ∙ ap (λ g. unless_cycle t (calculated (renumbered_scope f sc) (map (renumbered_visit f) all) others) (reported_cycle g) t) (graph-renumbered f r.renumbers sc goes all entries)
      ∙ ap (λ rs. unless_cycle t rs (reported_cycle (graph_over sc all entries)) t) (calculated-renumbered f r.renumbers sc goes all entries)
      ∙ cycle-goes s (calculated sc all entries) (reported_cycle (graph_over sc all entries))

  edges-go : (entries : List Entry) (s : State) → HasTables s.form
      → (within_edges p (image f second s) >>= no_cycle p model (map (renumbered_entry f) entries)) ≡ imaged f second (within_edges p s >>= no_cycle p model entries)
  edges-go entries s tables =
      ap (λ n. unless_passed (image f second s) (if_over (nat_lt p.edges n) Edges) (image f second s) >>= no_cycle p model (map (renumbered_entry f) entries)) (asked-same f 0 s.models)
      ∙ by (if_over (nat_lt p.edges (asked_by_all s)) Edges)
    where
      by : (words : List LimitWord) → (unless_passed (image f second s) words (image f second s) >>= no_cycle p model (map (renumbered_entry f) entries)) ≡ imaged f second (unless_passed s words s >>= no_cycle p model entries)
      by [] = no-cycle-goes entries s tables
      by (word ∷ words) = refl

  applied-goes : (s : State) → HasTables s.form → (a : Result (List Entry) Exception) → by_applied p model (renumbered_applied f a) (image f second s) ≡ imaged f second (by_applied p model a s)
  applied-goes s tables (Err (twice n)) =
      ap {A = List ℕ} {B = Result State Refused} (λ text. Err (record { why = refusal.twice text; calls = s.calls })) (path-goes f r.renumbers second s n)
  applied-goes s tables (Err (on_parent n)) =
      ap {A = List ℕ} {B = Result State Refused} (λ text. Err (record { why = refusal.on_parent text; calls = s.calls })) (path-goes f r.renumbers second s n)
  applied-goes s tables (Ok entries) =
      let t = image f second s in
      let others = map (renumbered_entry f) entries in
      let sc = bind_scope p s model in
      let all = shape_of s.forest.nodes in
      let asked = edge_count sc all entries in
      let is_asked : edge_count (bind_scope p t model) (shape_of (map (renumbered f) s.forest.nodes)) others ≡ asked =
      ap (λ x. edge_count x (shape_of (map (renumbered f) s.forest.nodes)) others) (bind_scope-is f r.renumbers second s p model)
      ∙ ap (λ v. edge_count (renumbered_scope f sc) v others) (shape_of-renumbered f r.renumbers r.keeps_texts s.forest.nodes)
      ∙ edges-renumbered f r.renumbers sc (rules-go p f r.renumbers s tables model) all entries in
      ap (λ n. within_edges p (in_model (rebuilt_with others n) model t) >>= no_cycle p model others) is_asked
      ∙ ap (λ u. within_edges p u >>= no_cycle p model others) (in-model-goes p f first second r (rebuilt_with entries asked) (rebuilt_with others asked) model (λ m. refl) s)
      ∙ edges-go entries (in_model (rebuilt_with entries asked) model s) tables

  -- ---- as many numbers are given as before

  cycle-counts : (before s : State) (readers : List Reader) (o : Option (List ℕ)) → Counts p first s → CountsAfter p first (unless_cycle before readers o s)
  cycle-counts before s readers None c = c
  cycle-counts before s readers (Some places) c = tt

  edges-count : (words : List LimitWord) (entries : List Entry) (s : State) → Counts p first s → CountsAfter p first (unless_passed s words s >>= no_cycle p model entries)
  edges-count [] entries s c =
      let readers = calculated (bind_scope p s model) (shape_of s.forest.nodes) entries in
      cycle-counts s s readers (reported_cycle (dependents (shape_of s.forest.nodes) readers)) c
  edges-count (word ∷ words) entries s c = tt

  applied-counts : (s : State) (a : Result (List Entry) Exception) → Counts p first s → CountsAfter p first (by_applied p model a s)
  applied-counts s (Err x) c = tt
  applied-counts s (Ok entries) c =
      let after = in_model (rebuilt_with entries (edge_count (bind_scope p s model) (shape_of s.forest.nodes) entries)) model s in
      edges-count (if_over (nat_lt p.edges (asked_by_all after)) Edges) entries after (record { next = c.next; within = c.within })

  pub rebuild-goes : Behaves p f first second (rebuild p model)
  rebuild-goes s tables c =
      let sc = bind_scope p s model in
      let nodes = s.forest.nodes in
      record {
        is = ap (λ x. by_applied p model (applied x (map (renumbered f) nodes)) (image f second s)) (bind_scope-is f r.renumbers second s p model)
            ∙ ap (λ a. by_applied p model a (image f second s))
            (applied-renumbered f r.renumbers r.keeps_texts sc (sets-go f s.form.rules (rules-go p f r.renumbers s tables model)) nodes)
            ∙ applied-goes s tables (applied sc nodes);
        counts = applied-counts s (applied sc nodes) c;
      }
