-- The cycle that the form machine reports is the one that is chosen, and none where there is none.
use Rattle.std.proofs.Common.{◌≡◌, ℕ, zero, suc, ◌+◌, ◌<◌, ◌≤◌, Bool, true, false, ◌⊎◌, inl, inr, List, [], ◌∷◌, length, nat_lt, Option, Some, None, refl, sym, ap, ◌∙◌, subst, arith}
use Rattle.std.specs.Prelude.{filter}
use Rattle.std.proofs.lemmas.Bool.{cases_Bool, cases_eq, cases_lt, false≢true}
use Rattle.xf_graph.specs.Edges.{Adjacency, has, has_edge, HasEdges, IsWithin}
use Rattle.xf_graph.specs.Order.{EachOnce, ReadsBack, IsOrder}
use Rattle.xf_graph.specs.Cycle.{ReadsAlong, IsCycle, IsAcyclic, IsNotAfter, IsChosenFrom, IsChosen}
use Rattle.xf_graph.proofs.HasLists.{has_first, has_later, has_cases}
use Rattle.xf_def_xpath.proofs.VisitFacts.{none-some, some-same}
use Rattle.xf_def_machine.specs.Cycles.{counted_from, walks, closes, first_in, or_later, cycle_from, first_cycle, reported_cycle}
use Rattle.xf_binds_rebuild.proofs.Walks.{along-way, walk-closes, finds}

-- ---- the shortest cycle has no vertex twice, so that it is no longer than the graph

module _ (graph : Adjacency) (s : ℕ) where
  suffix : (reader r : ℕ) (xs : List ℕ) → ReadsAlong graph reader xs s → EachOnce (reader ∷ xs) → has (reader ∷ xs) r ≡ true
      → (ys : List ℕ) × ReadsAlong graph r ys s × EachOnce (r ∷ ys) × (length ys ≤ length xs)
  suffix reader r [] along once h = elim (has_cases reader r [] h) [
    | inl e ↦ ([], subst (λ w. ReadsAlong graph w [] s) e along, subst (λ w. EachOnce (w ∷ [])) e once, omega arith)
    | inr q ↦ absurd (false≢true q)
  ]
  suffix reader r (next ∷ rest) along once h = elim (has_cases reader r (next ∷ rest) h) [
    | inl e ↦ (next ∷ rest, subst (λ w. ReadsAlong graph w (next ∷ rest) s) e along, subst (λ w. EachOnce (w ∷ next ∷ rest)) e once, omega arith)
    | inr q ↦ (let t = suffix next r rest along.1 once.1 q in (t.0, t.1, t.2, (let n = t.3 in omega arith)))
  ]

  erased : (reader : ℕ) (xs : List ℕ) → ReadsAlong graph reader xs s → (ys : List ℕ) × ReadsAlong graph reader ys s × EachOnce (reader ∷ ys) × (length ys ≤ length xs)
  erased reader [] along = ([], along, (refl, tt), omega arith)
  erased reader (next ∷ rest) along =
      let i = erased next rest along.1 in
      let n = i.3 in
      elim (cases_Bool (has (next ∷ i.0) reader)) [
        | inl h ↦ (let t = suffix next reader i.0 i.1 i.2 h in (t.0, t.1, t.2, (let m = t.3 in omega arith)))
        | inr h ↦ (next ∷ i.0, (along.0, i.1), (h, i.2), omega arith)
      ]

  below : IsWithin graph → (reader : ℕ) (xs : List ℕ) → ReadsAlong graph reader xs s → (v : ℕ) → has (reader ∷ xs) v ≡ true → v < length graph
  below within reader [] along v h = elim (has_cases reader v [] h) [
    | inl e ↦ subst (λ w. w < length graph) e (within s reader along).1
    | inr q ↦ absurd (false≢true q)
  ]
  below within reader (next ∷ rest) along v h = elim (has_cases reader v (next ∷ rest) h) [
    | inl e ↦ subst (λ w. w < length graph) e (within next reader along.0).1
    | inr q ↦ below within next rest along.1 v q
  ]

-- without a number
taken_out : (n : ℕ) (xs : List ℕ) → EachOnce xs
    → (ys : List ℕ) × EachOnce ys × ((v : ℕ) → has ys v ≡ true → (has xs v ≡ true) × (v ≡ n → ⊥)) × (length xs ≤ length ys + 1)
taken_out n [] once = ([], tt, (λ v h. absurd (false≢true h)), omega arith)
taken_out n (x ∷ xs) once = elim (cases_eq x n) [
  | inl e ↦ (xs, once.1, (λ v h. (has_later x v xs h, (λ i. false≢true (sym once.0 ∙ ap (has xs) (e ∙ sym i) ∙ h)))), omega arith)
  | inr ne ↦
      let i = taken_out n xs once.1 in
      let m = i.3 in
      let out : has i.0 x ≡ false = elim (cases_Bool (has i.0 x)) [ inl h ↦ absurd (false≢true (sym once.0 ∙ (i.2 x h).0)) | inr h ↦ h ] in (
        x ∷ i.0,
        (out, i.1),
        (λ v h. elim (has_cases x v i.0 h) [
          | inl e ↦ (subst (λ w. has (x ∷ xs) w ≡ true) e (has_first x xs), (λ j. ne (e ∙ j)))
          | inr q ↦ (has_later x v xs (i.2 v q).0, (i.2 v q).1)
        ]),
        omega arith,
      )
]

few : (n : ℕ) (xs : List ℕ) → EachOnce xs → ((v : ℕ) → has xs v ≡ true → v < n) → length xs ≤ n
few zero [] once h = omega arith
few zero (x ∷ xs) once h = (let l = h x (has_first x xs) in absurd (omega arith))
few (suc n) xs once h =
    let t = taken_out n xs once in
    let m = t.3 in
    let i = few n t.0 t.1 (λ v k. (let l = h v (t.2 v k).0 in let ne = (t.2 v k).1 in omega arith)) in
    omega arith

-- ---- what is found is a cycle

pub from-sound : (graph : Adjacency) (v more lengths : ℕ) (d : List ℕ) → cycle_from graph v more lengths ≡ Some d → (rest : List ℕ) × (d ≡ v ∷ rest) × ReadsAlong graph v rest v
from-sound graph v more zero d e = none-some e
from-sound graph v more (suc lengths) d e = by (first_in (filter (closes graph v) (walks graph more v))) refl e (from-sound graph v (suc more) lengths d)
  where
    by : (o : Option (List ℕ)) → first_in (filter (closes graph v) (walks graph more v)) ≡ o → or_later o (cycle_from graph v (suc more) lengths) ≡ Some d
        → (cycle_from graph v (suc more) lengths ≡ Some d → (rest : List ℕ) × (d ≡ v ∷ rest) × ReadsAlong graph v rest v)
        → (rest : List ℕ) × (d ≡ v ∷ rest) × ReadsAlong graph v rest v
    by None i j later = later j
    by (Some c) i j later = let w = walk-closes graph v more c i in let same : c ≡ d = some-same j in (w.0, sym same ∙ w.1, w.2)

-- ---- where no cycle stands none is found

pub none-reported : (graph : Adjacency) → IsAcyclic graph → reported_cycle graph ≡ None
none-reported graph none = all (counted_from 0 (length graph))
  where
    at : (v : ℕ) (o : Option (List ℕ)) → cycle_from graph v 0 (length graph) ≡ o → o ≡ None
    at v None e = refl
    at v (Some d) e = let c = from-sound graph v 0 (length graph) d e in absurd (none (v ∷ c.0) c.2)

    all : (vs : List ℕ) → first_cycle graph vs ≡ None
    all [] = refl
    all (v ∷ vs) = ap (λ o. or_later o (first_cycle graph vs)) (at v (cycle_from graph v 0 (length graph)) refl) ∙ all vs

-- ---- the chosen one is found

same_from_both : (xs ys : List ℕ) → length xs ≡ length ys → IsNotAfter xs ys → IsNotAfter ys xs → xs ≡ ys
same_from_both [] [] e p q = refl
same_from_both [] (y ∷ ys) e p q = absurd (omega (arith, e))
same_from_both (x ∷ xs) [] e p q = absurd (omega (arith, e))
same_from_both (x ∷ xs) (y ∷ ys) e (inl p) (inl q) = absurd (omega arith)
same_from_both (x ∷ xs) (y ∷ ys) e (inl p) (inr q) = absurd (omega (arith, q.0))
same_from_both (x ∷ xs) (y ∷ ys) e (inr p) (inl q) = absurd (omega (arith, p.0))
same_from_both (x ∷ xs) (y ∷ ys) e (inr p) (inr q) = let s = same_from_both xs ys (omega (arith, e)) p.1 q.1 in let f = p.0 in cc

abbrev rest_of : List ℕ → List ℕ
rest_of [] = []
rest_of (v ∷ vs) = vs

module _ (graph : Adjacency) (within : IsWithin graph) (first : ℕ) (rest : List ℕ) (c : IsChosenFrom graph first (first ∷ rest)) where
  few-chosen : length rest < length graph
  few-chosen =
      let i = erased graph first first rest c.cycle in
      let short = c.shortest (first ∷ i.0) i.1 (has_first first i.0) in
      let most = few (length graph) (first ∷ i.0) i.2 (below graph first within first i.0 i.1) in
      omega arith

  at-length : first_in (filter (closes graph first) (walks graph (length rest) first)) ≡ Some (first ∷ rest)
  at-length =
      let way = along-way graph first first rest c.cycle in
      let f = finds graph (λ from to edge. (within from to edge).0) (length rest) first (closes graph first) rest way.0 refl way.1 in
      let w = walk-closes graph first (length rest) (first ∷ f.0) f.1 in
      let tail : f.0 ≡ w.0 = ap rest_of w.1 in
      let along : ReadsAlong graph first f.0 first = subst (λ r. ReadsAlong graph first r first) (sym tail) w.2 in
      let long : length f.0 ≡ length rest = ap length tail ∙ w.3 in
      let early : IsNotAfter rest f.0 = elim (c.earliest (first ∷ f.0) along refl (ap suc long)) [ inl less ↦ absurd (omega arith) | inr h ↦ h.1 ] in
      f.1 ∙ ap (λ r. Some (first ∷ r)) (same_from_both f.0 rest long f.2 early)

  none-shorter : (more : ℕ) → more < length rest → (o : Option (List ℕ)) → first_in (filter (closes graph first) (walks graph more first)) ≡ o → o ≡ None
  none-shorter more less None e = refl
  none-shorter more less (Some d) e =
      let w = walk-closes graph first more d e in
      let n = w.3 in
      let short = c.shortest (first ∷ w.0) w.2 (has_first first w.0) in
      absurd (omega arith)

  found-from : (more lengths : ℕ) → more ≤ length rest → length rest < more + lengths → cycle_from graph first more lengths ≡ Some (first ∷ rest)
  found-from more zero low high = absurd (omega arith)
  found-from more (suc lengths) low high = elim (cases_eq more (length rest)) [
    | inl same ↦ ap (λ o. or_later o (cycle_from graph first (suc more) lengths)) (ap (λ m. first_in (filter (closes graph first) (walks graph m first))) same ∙ at-length)
    | inr ne ↦
        ap (λ o. or_later o (cycle_from graph first (suc more) lengths)) (none-shorter more (omega arith) (first_in (filter (closes graph first) (walks graph more first))) refl)
        ∙ found-from (suc more) lengths (omega arith) (omega arith)
  ]

  none-before : (v : ℕ) → v < first → (o : Option (List ℕ)) → cycle_from graph v 0 (length graph) ≡ o → o ≡ None
  none-before v less None e = refl
  none-before v less (Some d) e =
      let s = from-sound graph v 0 (length graph) d e in
      let l = c.least (v ∷ s.0) s.2 v (has_first v s.0) in
      absurd (omega arith)

  found-among : (from count : ℕ) → from ≤ first → first < from + count → first_cycle graph (counted_from from count) ≡ Some (first ∷ rest)
  found-among from zero low high = absurd (omega arith)
  found-among from (suc count) low high = elim (cases_eq from first) [
    | inl same ↦
        ap (λ o. or_later o (first_cycle graph (counted_from (suc from) count)))
        (ap (λ v. cycle_from graph v 0 (length graph)) same ∙ found-from 0 (length graph) (omega arith) (let n = few-chosen in omega arith))
    | inr ne ↦
        ap (λ o. or_later o (first_cycle graph (counted_from (suc from) count))) (none-before from (omega arith) (cycle_from graph from 0 (length graph)) refl)
        ∙ found-among (suc from) count (omega arith) (omega arith)
  ]

  found : reported_cycle graph ≡ Some (first ∷ rest)
  found = (let less = below graph first within first rest c.cycle first (has_first first rest) in found-among 0 (length graph) (omega arith) (omega arith))

pub chosen-reported : (graph : Adjacency) (cycle : List ℕ) → IsWithin graph → IsChosen graph cycle → reported_cycle graph ≡ Some cycle
chosen-reported graph [] within (first, c) = absurd c.cycle
chosen-reported graph (v ∷ rest) within (first, c) =
    let same : v ≡ first = c.begins in
    found graph within v rest (subst (λ w. IsChosenFrom graph w (v ∷ rest)) (sym same) c)

-- ---- where none is found none stands

both-none : (o p : Option (List ℕ)) → or_later o p ≡ None → (o ≡ None) × (p ≡ None)
both-none None p h = (refl, h)
both-none (Some c) p h = none-some (sym h)

none-at : (graph : Adjacency) (v k more lengths : ℕ) → more ≤ k → k < more + lengths → cycle_from graph v more lengths ≡ None → first_in (filter (closes graph v) (walks graph k v)) ≡ None
none-at graph v k more zero low high h = absurd (omega arith)
none-at graph v k more (suc lengths) low high h =
    let parts = both-none (first_in (filter (closes graph v) (walks graph more v))) (cycle_from graph v (suc more) lengths) h in
    elim (cases_eq more k) [
      | inl same ↦ ap (λ m. first_in (filter (closes graph v) (walks graph m v))) (sym same) ∙ parts.0
      | inr ne ↦ none-at graph v k (suc more) lengths (omega arith) (omega arith) parts.1
    ]

none-among : (graph : Adjacency) (v from count : ℕ) → from ≤ v → v < from + count → first_cycle graph (counted_from from count) ≡ None → cycle_from graph v 0 (length graph) ≡ None
none-among graph v from zero low high h = absurd (omega arith)
none-among graph v from (suc count) low high h =
    let parts = both-none (cycle_from graph from 0 (length graph)) (first_cycle graph (counted_from (suc from) count)) h in
    elim (cases_eq from v) [
      | inl same ↦ ap (λ w. cycle_from graph w 0 (length graph)) (sym same) ∙ parts.0
      | inr ne ↦ none-among graph v (suc from) count (omega arith) (omega arith) parts.1
    ]

pub none-acyclic : (graph : Adjacency) → IsWithin graph → reported_cycle graph ≡ None → IsAcyclic graph
none-acyclic graph within h [] c = c
none-acyclic graph within h (v ∷ rest) c =
    let i = erased graph v v rest c in
    let most = few (length graph) (v ∷ i.0) i.2 (below graph v within v i.0 i.1) in
    let less = below graph v within v i.0 i.1 v (has_first v i.0) in
    let way = along-way graph v v i.0 i.1 in
    let f = finds graph (λ from to edge. (within from to edge).0) (length i.0) v (closes graph v) i.0 way.0 refl way.1 in
    none-some (sym (none-at graph v (length i.0) 0 (length graph) (omega arith) (omega arith) (none-among graph v 0 (length graph) (omega arith) (omega arith) h)) ∙ f.1)

-- ---- graphs with the same edges

module _ (one other : Adjacency) (same : (from to : ℕ) → has_edge one from to ≡ has_edge other from to) where
  along-same : (reader s : ℕ) (xs : List ℕ) → ReadsAlong one reader xs s → ReadsAlong other reader xs s
  along-same reader s [] h = sym (same s reader) ∙ h
  along-same reader s (next ∷ rest) h = (sym (same next reader) ∙ h.0, along-same next s rest h.1)

  cycle-same : (cycle : List ℕ) → IsCycle one cycle → IsCycle other cycle
  cycle-same [] h = h
  cycle-same (first ∷ rest) h = along-same first first rest h

turned_edges : (one other : Adjacency) → ((from to : ℕ) → has_edge one from to ≡ has_edge other from to) → (from to : ℕ) → has_edge other from to ≡ has_edge one from to
turned_edges one other same from to = sym (same from to)

chosen-same : (one other : Adjacency) (same : (from to : ℕ) → has_edge one from to ≡ has_edge other from to) (cycle : List ℕ) → IsChosen one cycle → IsChosen other cycle
chosen-same one other same cycle (first, c) = (
  first,
  record {
    cycle = cycle-same one other same cycle c.cycle;
    begins = c.begins;
    least = λ way w. c.least way (cycle-same other one (turned_edges one other same) way w);
    shortest = λ way w. c.shortest way (cycle-same other one (turned_edges one other same) way w);
    earliest = λ way w. c.earliest way (cycle-same other one (turned_edges one other same) way w);
  },
)

within-same : (one other : Adjacency) → HasEdges one (length other) (has_edge other) → IsWithin one → IsWithin other
within-same one other edges within from to edge =
    let w = within from to (edges.edges from to ∙ edge) in
    (subst (λ n. from < n) edges.size w.0, subst (λ n. to < n) edges.size w.1)

-- what is told of one graph holds of the other
pub none-as_told : (one other : Adjacency) → HasEdges one (length other) (has_edge other) → IsAcyclic one → reported_cycle other ≡ None
none-as_told one other edges none = none-reported other (λ cycle c. none cycle (cycle-same other one (turned_edges one other edges.edges) cycle c))

pub cycle-as_told : (one other : Adjacency) (cycle : List ℕ) → HasEdges one (length other) (has_edge other) → IsWithin one → IsChosen one cycle → reported_cycle other ≡ Some cycle
cycle-as_told one other cycle edges within c =
    chosen-reported other cycle (within-same one other edges within) (chosen-same one other edges.edges cycle c)

order-same : (one other : Adjacency) (places : List ℕ) → HasEdges one (length other) (has_edge other) → ReadsBack one places → ReadsBack other places
order-same one other [] edges h = tt
order-same one other (v ∷ vs) edges h = ((λ source there. sym (edges.edges source v) ∙ h.0 source there), order-same one other vs edges h.1)

pub order-as_told : (one other : Adjacency) (places : List ℕ) → HasEdges one (length other) (has_edge other) → IsOrder one places → IsOrder other places
order-as_told one other places edges o = record {
  all = λ v. o.all v ∙ ap (nat_lt v) edges.size;
  once = o.once;
  reads_back = order-same one other places edges o.reads_back;
}
