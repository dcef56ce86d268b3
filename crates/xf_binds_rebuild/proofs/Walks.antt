-- The walks among which a cycle is searched: each is a way along the edges, all of one length are there, the least first.
use Rattle.std.proofs.Common.{◌≡◌, ℕ, zero, suc, ◌+◌, ◌<◌, ◌≤◌, Bool, true, false, cond, inl, inr, List, [], ◌∷◌, ◌++◌, map, length, Option, Some, None, option_map, refl, sym, ap, ◌∙◌, subst, arith}
use Rattle.std.specs.Prelude.{filter}
use Rattle.std.specs.List.{flat_map}
use Rattle.std.proofs.lemmas.Bool.{cases_eq, false≢true}
use Rattle.xf_graph.specs.Edges.{Adjacency, has_edge}
use Rattle.xf_graph.specs.Cycle.{ReadsAlong, IsNotAfter}
use Rattle.xf_def_xpath.proofs.VisitFacts.{none-some, some-same, filter-append}
use Rattle.xf_def_model.specs.Pertinent.{AllOf}
use Rattle.xf_def_model.proofs.EachLemmas.{each_then}
use Rattle.xf_def_machine.specs.Cycles.{counted_from, sources_of, walks, last_in, closes, first_in, or_later}

-- ---- lists

first-append : {X : Type 0} (xs ys : List X) → first_in (xs ++ ys) ≡ or_later (first_in xs) (first_in ys)
first-append [] ys = refl
first-append (x ∷ xs) ys = refl

first-map : {X Y : Type 0} (f : X → Y) (xs : List X) → first_in (map f xs) ≡ option_map f (first_in xs)
first-map f [] = refl
first-map f (x ∷ xs) = refl

filter-map : {X Y : Type 0} (p : Y → Bool) (f : X → Y) (xs : List X) → filter p (map f xs) ≡ map f (filter (λ x. p (f x)) xs)
filter-map p f [] = refl
filter-map p f (x ∷ xs) = by (p (f x)) (filter-map p f xs)
  where
    by : (b : Bool) → filter p (map f xs) ≡ map f (filter (λ y. p (f y)) xs)
        → cond b (f x ∷ filter p (map f xs)) (filter p (map f xs)) ≡ map f (cond b (x ∷ filter (λ y. p (f y)) xs) (filter (λ y. p (f y)) xs))
    by true e = ap (λ l. f x ∷ l) e
    by false e = e

first-sound : {X : Type 0} (P : X → Type 0) (p : X → Bool) (xs : List X) → AllOf P xs → (d : X) → first_in (filter p xs) ≡ Some d → P d × (p d ≡ true)
first-sound P p [] h d e = none-some e
first-sound P p (x ∷ xs) h d e = by (p x) refl e (first-sound P p xs h.1 d)
  where
    by : (b : Bool) → p x ≡ b → first_in (cond b (x ∷ filter p xs) (filter p xs)) ≡ Some d → (first_in (filter p xs) ≡ Some d → P d × (p d ≡ true)) → P d × (p d ≡ true)
    by true i j later = let s : x ≡ d = some-same j in (subst P s h.0, ap p (sym s) ∙ i)
    by false i j later = later j

all-append : {X : Type 0} (P : X → Type 0) (xs ys : List X) → AllOf P xs → AllOf P ys → AllOf P (xs ++ ys)
all-append P [] ys h k = k
all-append P (x ∷ xs) ys h k = (h.0, all-append P xs ys h.1 k)

all-flat : {X Y : Type 0} (P : Y → Type 0) (f : X → List Y) (xs : List X) → AllOf (λ x. AllOf P (f x)) xs → AllOf P (flat_map f xs)
all-flat P f [] h = tt
all-flat P f (x ∷ xs) h = all-append P (f x) (flat_map f xs) h.0 (all-flat P f xs h.1)

all-map : {X Y : Type 0} (P : X → Type 0) (Q : Y → Type 0) (f : X → Y) → ((x : X) → P x → Q (f x)) → (xs : List X) → AllOf P xs → AllOf Q (map f xs)
all-map P Q f h [] k = tt
all-map P Q f h (x ∷ xs) k = (h x k.0, all-map P Q f h xs k.1)

kept-each : {X : Type 0} (p : X → Bool) (xs : List X) → AllOf (λ x. p x ≡ true) (filter p xs)
kept-each p [] = tt
kept-each p (x ∷ xs) = by (p x) refl (kept-each p xs)
  where
    by : (b : Bool) → p x ≡ b → AllOf (λ y. p y ≡ true) (filter p xs) → AllOf (λ y. p y ≡ true) (cond b (x ∷ filter p xs) (filter p xs))
    by true e rest = (e, rest)
    by false e rest = rest

-- ---- ways

-- each reads from the next
abbrev pub IsWay : Adjacency → ℕ → List ℕ → Type 0
IsWay graph v [] = Unit {0}
IsWay graph v (next ∷ rest) = (has_edge graph next v ≡ true) × IsWay graph next rest

pub along-way : (graph : Adjacency) (v s : ℕ) (rest : List ℕ) → ReadsAlong graph v rest s → IsWay graph v rest × (has_edge graph s (last_in v rest) ≡ true)
along-way graph v s [] h = (tt, h)
along-way graph v s (next ∷ rest) h = let i = along-way graph next s rest h.1 in ((h.0, i.0), i.1)

pub way-along : (graph : Adjacency) (v s : ℕ) (rest : List ℕ) → IsWay graph v rest → has_edge graph s (last_in v rest) ≡ true → ReadsAlong graph v rest s
way-along graph v s [] w h = h
way-along graph v s (next ∷ rest) w h = (w.0, way-along graph next s rest w.1 h)

-- ---- each walk is a way

abbrev IsWalk : Adjacency → ℕ → ℕ → List ℕ → Type 0
IsWalk graph k v walk = (rest : List ℕ) × (walk ≡ v ∷ rest) × IsWay graph v rest × (length rest ≡ k)

walks-sound : (graph : Adjacency) (k v : ℕ) → AllOf (IsWalk graph k v) (walks graph k v)
walks-sound graph zero v = (([], refl, tt, refl), tt)
walks-sound graph (suc k) v =
    all-flat (IsWalk graph (suc k) v) (λ next. map (λ walk. v ∷ walk) (walks graph k next)) (sources_of graph v)
    (each_then (λ next. has_edge graph next v ≡ true) (λ next. AllOf (IsWalk graph (suc k) v) (map (λ walk. v ∷ walk) (walks graph k next))) (λ next edge.
    all-map (IsWalk graph k next) (IsWalk graph (suc k) v) (λ walk. v ∷ walk) (λ walk i. (next ∷ i.0, ap (λ l. v ∷ l) i.1, (edge, i.2), ap suc i.3)) (walks graph k next) (walks-sound graph k next))
    (sources_of graph v) (kept-each (λ u. has_edge graph u v) (counted_from 0 (length graph))))

-- one that closes is a cycle
pub walk-closes : (graph : Adjacency) (v more : ℕ) (c : List ℕ) → first_in (filter (closes graph v) (walks graph more v)) ≡ Some c
    → (rest : List ℕ) × (c ≡ v ∷ rest) × ReadsAlong graph v rest v × (length rest ≡ more)
walk-closes graph v more c e =
    let f = first-sound (IsWalk graph more v) (closes graph v) (walks graph more v) (walks-sound graph more v) c e in
    (f.0.0, f.0.1, way-along graph v v f.0.0 f.0.2 (ap (λ w. has_edge graph v (last_in v w)) (sym f.0.1) ∙ f.1), f.0.3)

-- ---- the first of those with a property is not after any

abbrev pub Found : Adjacency → ℕ → ℕ → (List ℕ → Bool) → List ℕ → Type 0
Found graph k v p rest = (best : List ℕ) × (first_in (filter p (walks graph k v)) ≡ Some (v ∷ best)) × IsNotAfter best rest

-- among the walks that go on at one of these
module _ (graph : Adjacency) (k v : ℕ) (p : List ℕ → Bool) (next : ℕ) (rest : List ℕ) (way : IsWay graph v (next ∷ rest)) (deeper : (u : ℕ) → u ≡ next → Found graph k u (λ w. p (v ∷ w)) rest) where
  abbrev In : List ℕ → Type 0
  In us = (best : List ℕ) × (first_in (filter p (flat_map (λ u. map (λ walk. v ∷ walk) (walks graph k u)) us)) ≡ Some (v ∷ best)) × IsNotAfter best (next ∷ rest)

  begun : (u : ℕ) (us : List ℕ) (o : Option (List ℕ)) → first_in (filter (λ w. p (v ∷ w)) (walks graph k u)) ≡ o
      → first_in (filter p (flat_map (λ x. map (λ walk. v ∷ walk) (walks graph k x)) (u ∷ us))) ≡ or_later (option_map (λ walk. v ∷ walk) o) (first_in (filter p (flat_map (λ x. map (λ walk. v ∷ walk) (walks graph k x)) us)))
  begun u us o i =
      let later = flat_map (λ x. map (λ walk. v ∷ walk) (walks graph k x)) us in
      ap first_in (filter-append p (map (λ walk. v ∷ walk) (walks graph k u)) later)
      ∙ first-append (filter p (map (λ walk. v ∷ walk) (walks graph k u))) (filter p later)
      ∙ ap (λ t. or_later t (first_in (filter p later)))
      (ap first_in (filter-map p (λ walk. v ∷ walk) (walks graph k u)) ∙ first-map (λ walk. v ∷ walk) (filter (λ w. p (v ∷ w)) (walks graph k u)) ∙ ap (option_map (λ walk. v ∷ walk)) i)

  here : (u : ℕ) (us : List ℕ) → u ≡ next → In (u ∷ us)
  here u us same = let i = deeper u same in (u ∷ i.0, begun u us (Some (u ∷ i.0)) i.1, inr (same, i.2))

  past : (u : ℕ) (us : List ℕ) → u < next → In us → In (u ∷ us)
  past u us less later = by (first_in (filter (λ w. p (v ∷ w)) (walks graph k u))) refl
    where
      by : (o : Option (List ℕ)) → first_in (filter (λ w. p (v ∷ w)) (walks graph k u)) ≡ o → In (u ∷ us)
      by None i = (later.0, begun u us None i ∙ later.1, later.2)
      by (Some d) i =
          let f = first-sound (IsWalk graph k u) (λ w. p (v ∷ w)) (walks graph k u) (walks-sound graph k u) d i in
          (d, begun u us (Some d) i, subst (λ w. IsNotAfter w (next ∷ rest)) (sym f.0.1) (inl less))

  step : (from count : ℕ) (b : Bool) → has_edge graph from v ≡ b → from ≤ next → next < from + suc count
      → (suc from ≤ next → next < suc from + count → In (filter (λ u. has_edge graph u v) (counted_from (suc from) count)))
      → In (cond b (from ∷ filter (λ u. has_edge graph u v) (counted_from (suc from) count)) (filter (λ u. has_edge graph u v) (counted_from (suc from) count)))
  step from count true i low high later = elim (cases_eq from next) [
    | inl same ↦ here from (filter (λ u. has_edge graph u v) (counted_from (suc from) count)) same
    | inr ne ↦ past from (filter (λ u. has_edge graph u v) (counted_from (suc from) count)) (omega arith) (later (omega arith) (omega arith))
  ]
  step from count false i low high later = elim (cases_eq from next) [
    | inl same ↦ absurd (false≢true (sym i ∙ ap (λ u. has_edge graph u v) same ∙ way.0))
    | inr ne ↦ later (omega arith) (omega arith)
  ]

  pub among : (from count : ℕ) → from ≤ next → next < from + count → In (filter (λ u. has_edge graph u v) (counted_from from count))
  among from zero low high = absurd (omega arith)
  among from (suc count) low high = step from count (has_edge graph from v) refl low high (among (suc from) count)

pub finds : (graph : Adjacency) → ((from to : ℕ) → has_edge graph from to ≡ true → from < length graph) → (k v : ℕ) (p : List ℕ → Bool) (rest : List ℕ)
    → IsWay graph v rest → length rest ≡ k → p (v ∷ rest) ≡ true → Found graph k v p rest
finds graph within zero v p [] way e h = ([], ap (λ b. first_in (cond b ((v ∷ []) ∷ []) [])) h, tt)
finds graph within zero v p (next ∷ rest) way e h = absurd (omega (arith, e))
finds graph within (suc k) v p [] way e h = absurd (omega (arith, e))
finds graph within (suc k) v p (next ∷ rest) way e h =
    among graph k v p next rest way (λ u same. finds graph within k u (λ w. p (v ∷ w)) rest (subst (λ x. IsWay graph x rest) (sym same) way.1) (omega (arith, e)) (ap (λ x. p (v ∷ x ∷ rest)) same ∙ h))
    0 (length graph) (omega arith) (let less = within next v way.0 in omega arith)
