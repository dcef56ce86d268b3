-- Vertices that are told to lie on no cycle.
use Rattle.std.proofs.Common.{◌≡◌, ℕ, ◌+◌, ◌<◌, true, cond, inl, inr, List, [], ◌∷◌, ◌++◌, reverse, length, slice_index_or, ◌==◌, sym, ap, ◌∙◌, subst, arith, append_assoc, length-append}
use Rattle.std.proofs.lemmas.List.{append-nil}
use Rattle.std.proofs.lemmas.Bool.{or_left, or_right, or_cases, false≢true}
use Rattle.xf_graph.specs.Edges.{Adjacency, has, has_edge}
use Rattle.xf_graph.specs.Cycle.{ReadsAlong}
use Rattle.xf_graph.specs.Search.{IsOnNoCycle, PutsSome, ArePeeled}
use Rattle.xf_graph.proofs.HasLists.{has_first, has_later, has-append, has-push_cases, has-push_old, has-push_new, reverse-cons, mark_at, mark_cases}
use Rattle.xf_graph.proofs.WalkState.{unmarked_cost, joined}
use Rattle.xf_graph.proofs.WalkMeasure.{unmarked_cost-falls, has-joined}
use Rattle.xf_graph.proofs.CycleLemmas.{turned, join_at}

-- a vertex that reads from such vertices alone
IsOnNoCycle-behind : (graph : Adjacency) (v : ℕ) → ((w : ℕ) → has_edge graph w v ≡ true → IsOnNoCycle graph w) → IsOnNoCycle graph v
IsOnNoCycle-behind graph v none [] edge = none v edge [] edge
IsOnNoCycle-behind graph v none (w ∷ ws) along =
    let t = turned graph (v ∷ w ∷ ws) w along (has_later v w (w ∷ ws) (has_first w ws)) in none w along.0 t.0 t.1

-- the same edges from the other end have the same cycles turned round
reversed : (graph other : Adjacency) → ((from to : ℕ) → has_edge other to from ≡ has_edge graph from to) → (x z : ℕ) (vs : List ℕ) → ReadsAlong graph x vs z → ReadsAlong other z (reverse vs) x
reversed graph other t x z [] edge = t z x ∙ edge
reversed graph other t x z (u ∷ us) along =
    subst (λ l. ReadsAlong other z l x) (sym (reverse-cons u us))
    (join_at other z u x (reverse us) [] (reversed graph other t u z us along.1) (t u x ∙ along.0))

pub ArePeeled-reversed : (graph other : Adjacency) (mark : ℕ → ℕ) → ((from to : ℕ) → has_edge other to from ≡ has_edge graph from to) → ArePeeled graph mark → ArePeeled other mark
ArePeeled-reversed graph other mark t peeled v = elim (peeled v) [
  | inl z ↦ inl z
  | inr none ↦ inr (λ rest along. none (reverse rest) (reversed other graph (λ from to. sym (t to from)) v v rest along))
]

pub ArePeeled-none : (graph : Adjacency) (mark : ℕ → ℕ) → ((v : ℕ) → mark v ≡ 0) → ArePeeled graph mark
ArePeeled-none graph mark none v = inl (none v)

module _ (graph behind : Adjacency) (mark marked : ℕ → ℕ) (at : ℕ) (old : ArePeeled graph mark) (t : (from to : ℕ) → has_edge behind to from ≡ has_edge graph from to)
    (all : (w : ℕ) → has_edge behind at w ≡ true → mark w ≡ 0 → ⊥) (set : (x : ℕ) → marked x ≡ cond (at == x) 1 (mark x)) where
  at_none : IsOnNoCycle graph at
  at_none = IsOnNoCycle-behind graph at (λ w edge. elim (old w) [ inl z ↦ absurd (all w (t w at ∙ edge) z) | inr none ↦ none ])

  pub ArePeeled-more : ArePeeled graph marked
  ArePeeled-more v = elim (mark_cases mark marked at 1 set v) [
    | inl q ↦ inr (subst (IsOnNoCycle graph) q.0 at_none)
    | inr q ↦ elim (old v) [ inl z ↦ inl (q.1 ∙ z) | inr none ↦ inr none ]
  ]

-- ---- the queue
pub PutsSome-none : (queue : List ℕ) → PutsSome [] queue queue
PutsSome-none queue = record { added = []; queue = sym (append-nil queue); few = omega arith; members = λ v h. absurd (false≢true h) }

pub PutsSome-passed : (vertices queue now : List ℕ) (x : ℕ) → PutsSome vertices queue now → PutsSome (vertices ++ x ∷ []) queue now
PutsSome-passed vertices queue now x so = record {
  added = so.added;
  queue = so.queue;
  few = let f = so.few in omega (arith, length-append vertices (x ∷ []));
  members = λ v h. has-push_old vertices x v (so.members v h);
}

pub PutsSome-more : (vertices queue now : List ℕ) (x : ℕ) → PutsSome vertices queue now → PutsSome (vertices ++ x ∷ []) queue (now ++ x ∷ [])
PutsSome-more vertices queue now x so = record {
  added = so.added ++ x ∷ [];
  queue = ap (λ q. q ++ x ∷ []) so.queue ∙ append_assoc queue so.added (x ∷ []);
  few = let f = so.few in omega (arith, length-append vertices (x ∷ []), length-append so.added (x ∷ []));
  members = λ v h. elim (has-push_cases so.added x v h) [
    | inl q ↦ has-push_old vertices x v (so.members v q)
    | inr e ↦ subst (λ y. has (vertices ++ x ∷ []) y ≡ true) e (has-push_new vertices x)
  ];
}

-- what stands in the queue was there at first or stands ahead of another
abbrev pub AreQueued : Adjacency → List ℕ → List ℕ → Type 0
AreQueued graph first queue = (v : ℕ) → has queue v ≡ true → has (first ++ joined graph) v ≡ true

pub AreQueued-first : (graph : Adjacency) (first : List ℕ) → AreQueued graph first first
AreQueued-first graph first v h = has-append first (joined graph) v ∙ or_left (has first v) (has (joined graph) v) h

pub AreQueued-less : (graph : Adjacency) (first queue : List ℕ) (x : ℕ) → AreQueued graph first (queue ++ x ∷ []) → AreQueued graph first queue
AreQueued-less graph first queue x known v h = known v (has-push_old queue x v h)

pub AreQueued-more : (graph : Adjacency) (first queue now : List ℕ) (x : ℕ) → AreQueued graph first (queue ++ x ∷ []) → PutsSome (slice_index_or graph x []) queue now → AreQueued graph first now
AreQueued-more graph first queue now x known so v h =
    elim (or_cases (has queue v) (has so.added v) (sym (has-append queue so.added v) ∙ (sym (ap (λ l. has l v) so.queue) ∙ h))) [
      | inl q ↦ known v (has-push_old queue x v q)
      | inr q ↦ has-append first (joined graph) v ∙ or_right (has first v) (has (joined graph) v) (has-joined graph x v (so.members v q))
    ]

abbrev pub to_peel : Adjacency → List ℕ → (ℕ → ℕ) → List ℕ → ℕ
to_peel graph first mark queue = unmarked_cost graph mark (first ++ joined graph) + length queue

pub to_peel-less : (graph : Adjacency) (first queue : List ℕ) (mark : ℕ → ℕ) (x : ℕ) → to_peel graph first mark queue < to_peel graph first mark (queue ++ x ∷ [])
to_peel-less graph first queue mark x = omega (arith, length-append queue (x ∷ []))

pub to_peel-more : (graph : Adjacency) (first queue now : List ℕ) (mark marked : ℕ → ℕ) (x : ℕ) → AreQueued graph first (queue ++ x ∷ []) → PutsSome (slice_index_or graph x []) queue now
    → mark x ≡ 0 → ((v : ℕ) → marked v ≡ cond (x == v) 1 (mark v))
    → to_peel graph first marked now < to_peel graph first mark (queue ++ x ∷ [])
to_peel-more graph first queue now mark marked x known so none set =
    let falls = unmarked_cost-falls graph mark marked
    (λ v z. elim (mark_cases mark marked x 1 set v) [ inl q ↦ absurd (omega (arith, q.1)) | inr q ↦ sym q.1 ∙ z ])
    x none (λ z. let one = mark_at mark marked x 1 set in omega arith) (first ++ joined graph) (known x (has-push_new queue x)) in
    let few = so.few in
    omega (arith, falls, length-append queue (x ∷ []), ap length so.queue, length-append queue so.added)
