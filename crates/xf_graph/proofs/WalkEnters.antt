-- A walk begins, passes over a vertex that was left, meets one that was not, enters one, and ends.
use Rattle.std.proofs.Common.{◌≡◌, ℕ, zero, suc, true, false, cond, ◌⊎◌, inl, inr, List, [], ◌∷◌, reverse, slice_index_or, ◌==◌, refl, sym, ap, ◌∙◌, subst, arith}
use Rattle.std.proofs.lemmas.Bool.{false≢true, cases_eq, false_from_ne_true}
use Rattle.xf_graph.specs.declared.walk.Step.{Step}
use Rattle.xf_graph.specs.Edges.{Adjacency, has, has_edge}
use Rattle.xf_graph.specs.Order.{EachOnce}
use Rattle.xf_graph.specs.Cycle.{ReadsAlong, HasCycle}
use Rattle.xf_graph.specs.Pertinent.{IsReachedBy, IsPertinent}
use Rattle.xf_graph.specs.Steps.{entry, exit, entries_before}
use Rattle.xf_graph.proofs.HasLists.{has_first, has_later, has_cases, has-reverse, mark_at, mark_cases}
use Rattle.xf_graph.proofs.WalkState.{vertices, exits, IsLinked, AreChained, AreReady, IsWalk}
use Rattle.xf_graph.proofs.WalkLemmas.{AreReady-kept}

-- ---- entries before the steps
exits-entries : (ks : List ℕ) (steps : List Step) → exits (entries_before ks steps) ≡ exits steps
exits-entries [] steps = refl
exits-entries (k ∷ ks) steps = exits-entries ks (entry k ∷ steps)

vertices-entries_old : (ks : List ℕ) (steps : List Step) (v : ℕ) → has (vertices steps) v ≡ true → has (vertices (entries_before ks steps)) v ≡ true
vertices-entries_old [] steps v h = h
vertices-entries_old (k ∷ ks) steps v h = vertices-entries_old ks (entry k ∷ steps) v (has_later k v (vertices steps) h)

vertices-entries_new : (ks : List ℕ) (steps : List Step) (v : ℕ) → has ks v ≡ true → has (vertices (entries_before ks steps)) v ≡ true
vertices-entries_new [] steps v h = absurd (false≢true h)
vertices-entries_new (k ∷ ks) steps v h = elim (has_cases k v ks h) [
  | inl e ↦ vertices-entries_old ks (entry k ∷ steps) v (subst (λ x. has (k ∷ vertices steps) x ≡ true) e (has_first k (vertices steps)))
  | inr q ↦ vertices-entries_new ks (entry k ∷ steps) v q
]

pub vertices-entries_cases : (ks : List ℕ) (steps : List Step) (v : ℕ) → has (vertices (entries_before ks steps)) v ≡ true → (has ks v ≡ true) ⊎ (has (vertices steps) v ≡ true)
vertices-entries_cases [] steps v h = inr h
vertices-entries_cases (k ∷ ks) steps v h = elim (vertices-entries_cases ks (entry k ∷ steps) v h) [
  | inl q ↦ inl (has_later k v ks q)
  | inr q ↦ elim (has_cases k v (vertices steps) q) [ inl e ↦ inl (subst (λ x. has (k ∷ ks) x ≡ true) e (has_first k ks)) | inr z ↦ inr z ]
]

AreReady-entries : (graph : Adjacency) (mark : ℕ → ℕ) (ks : List ℕ) (steps : List Step) → AreReady graph mark ks steps → AreReady graph mark [] (entries_before ks steps)
AreReady-entries graph mark [] steps r = r
AreReady-entries graph mark (k ∷ ks) steps r = AreReady-entries graph mark ks (entry k ∷ steps) ((λ e. absurd (false≢true e)), r)

AreChained-entries : (graph : Adjacency) (ks : List ℕ) (steps : List Step) → ((k : ℕ) → has ks k ≡ true → IsLinked graph k (exits steps)) → AreChained graph steps → AreChained graph (entries_before ks steps)
AreChained-entries graph [] steps link c = c
AreChained-entries graph (k ∷ ks) steps link c =
    AreChained-entries graph ks (entry k ∷ steps) (λ j h. link j (has_later k j ks h)) (link k (has_first k ks), c)

-- ---- the walk begins
module _ (graph : Adjacency) (roots : List ℕ) (mark : ℕ → ℕ) (none : (v : ℕ) → mark v ≡ 0) where
  unmarked : (v : ℕ) → mark v ≡ 2 → ⊥
  unmarked v m = omega (arith, none v)

  no_exits : (v : ℕ) → has (exits (entries_before roots [])) v ≡ true → ⊥
  no_exits v h = false≢true (sym (ap (λ l. has l v) (exits-entries roots [])) ∙ h)

  pub IsWalk-begins : IsWalk graph roots mark (entries_before roots []) []
  IsWalk-begins = record {
    left_marked = λ v h. absurd (false≢true h);
    marked_left = λ v m. absurd (unmarked v m);
    once = tt;
    reads_back = tt;
    closed = λ v w m edge. absurd (unmarked v m);
    entered = λ v h. absurd (no_exits v h);
    marked = λ v. inl (none v);
    entered_once = subst EachOnce (sym (exits-entries roots [])) tt;
    chained = AreChained-entries graph roots [] (λ _ _. tt) tt;
    ready = AreReady-entries graph mark roots [] tt;
    reached = λ v m. absurd (unmarked v m);
    steps_reached = λ v h. elim (vertices-entries_cases roots [] v h) [ inl q ↦ (0, q) | inr q ↦ absurd (false≢true q) ];
    roots_kept = λ v h. inr (vertices-entries_new roots [] v h);
  }

-- ---- an entry is taken
module _ (graph : Adjacency) (roots : List ℕ) (mark : ℕ → ℕ) (step : Step) (steps : List Step) (left : List ℕ)
    (enters : step.leaves ≡ false) (now : IsWalk graph roots mark (step ∷ steps) left) where
  exits_now : exits (step ∷ steps) ≡ exits steps
  exits_now = ap (λ b. cond b (step.vertex ∷ exits steps) (exits steps)) enters

  -- of a vertex that was left before
  pub IsWalk-passed : mark step.vertex ≡ 2 → IsWalk graph roots mark steps left
  IsWalk-passed seen = record {
    left_marked = now.left_marked;
    marked_left = now.marked_left;
    once = now.once;
    reads_back = now.reads_back;
    closed = now.closed;
    entered = λ v h. now.entered v (ap (λ l. has l v) exits_now ∙ h);
    marked = λ v. subst (λ l. (mark v ≡ 0) ⊎ ((mark v ≡ 2) ⊎ (has l v ≡ true))) exits_now (now.marked v);
    entered_once = subst EachOnce exits_now now.entered_once;
    chained = now.chained.1;
    ready = AreReady-kept graph mark mark (step.vertex ∷ []) [] steps (λ v m. m)
        (λ v h. elim (has_cases step.vertex v [] h) [ inl e ↦ inl (subst (λ x. mark x ≡ 2) e seen) | inr q ↦ inr q ])
        now.ready.1;
    reached = now.reached;
    steps_reached = λ v h. now.steps_reached v (has_later step.vertex v (vertices steps) h);
    roots_kept = λ v h. elim (now.roots_kept v h) [
      | inl m ↦ inl m
      | inr q ↦ elim (has_cases step.vertex v (vertices steps) q) [
        | inl e ↦ inl (subst (λ x. mark x ≡ 2) e seen)
        | inr z ↦ inr z
      ]
    ];
  }

  -- from the vertex down to one that was entered, each reads from the next
  down_to : (reader v : ℕ) (open_ : List ℕ) → IsLinked graph reader open_ → has open_ v ≡ true → (rest : List ℕ) × ReadsAlong graph reader rest v
  down_to reader v [] l h = absurd (false≢true h)
  down_to reader v (u ∷ us) l h = elim (cases_eq u v) [
    | inl e ↦ ([], ap (λ x. has_edge graph x reader) (sym e) ∙ l.0)
    | inr ne ↦
        let q : has us v ≡ true = elim (has_cases u v us h) [ inl e ↦ absurd (ne e) | inr z ↦ z ] in
        let r = down_to u v us l.1 q in
        (u ∷ r.0, (l.0, r.1))
  ]

  -- of a vertex that was entered and not left
  pub HasCycle-met : mark step.vertex ≡ 1 → HasCycle graph
  HasCycle-met met =
      let h : has (exits steps) step.vertex ≡ true =
      elim (now.marked step.vertex) [
        | inl z ↦ absurd (omega arith)
        | inr (inl z) ↦ absurd (omega arith)
        | inr (inr z) ↦ sym (ap (λ l. has l step.vertex) exits_now) ∙ z
      ]
      in let r = down_to step.vertex step.vertex (exits steps) now.chained.0 h in
      (step.vertex ∷ r.0, r.1)

  -- of a vertex that was not entered yet
  module _ (marked : ℕ → ℕ) (set : (x : ℕ) → marked x ≡ cond (step.vertex == x) 1 (mark x))
      (not_left : mark step.vertex ≡ 2 → ⊥) (not_entered : mark step.vertex ≡ 1 → ⊥) where
    keeps : (v : ℕ) → mark v ≡ 2 → marked v ≡ 2
    keeps v m = elim (mark_cases mark marked step.vertex 1 set v) [
      | inl q ↦ absurd (not_left (ap mark q.0 ∙ m))
      | inr q ↦ q.1 ∙ m
    ]

    unkeeps : (v : ℕ) → marked v ≡ 2 → mark v ≡ 2
    unkeeps v m = elim (mark_cases mark marked step.vertex 1 set v) [
      | inl q ↦ absurd (omega (arith, q.1))
      | inr q ↦ sym q.1 ∙ m
    ]

    readers : List ℕ
    readers = slice_index_or graph step.vertex []

    entered_none : has (exits steps) step.vertex ≡ false
    entered_none = false_from_ne_true (has (exits steps) step.vertex) (λ h. not_entered (now.entered step.vertex (ap (λ l. has l step.vertex) exits_now ∙ h)))

    taken : List Step
    taken = exit step.vertex ∷ steps

    pub IsWalk-entered : IsWalk graph roots marked (entries_before (slice_index_or graph step.vertex []) (exit step.vertex ∷ steps)) left
    unfolding readers taken
    IsWalk-entered = record {
      left_marked = λ v h. keeps v (now.left_marked v h);
      marked_left = λ v m. now.marked_left v (unkeeps v m);
      once = now.once;
      reads_back = now.reads_back;
      closed = λ v w m edge. keeps w (now.closed v w (unkeeps v m) edge);
      entered = λ v h. elim (has_cases step.vertex v (exits steps) (sym (ap (λ l. has l v) (exits-entries readers taken)) ∙ h)) [
        | inl e ↦ subst (λ x. marked x ≡ 1) e (mark_at mark marked step.vertex 1 set)
        | inr q ↦ elim (mark_cases mark marked step.vertex 1 set v) [
          | inl z ↦ z.1
          | inr z ↦ z.1 ∙ now.entered v (ap (λ l. has l v) exits_now ∙ q)
        ]
      ];
      marked = λ v. elim (mark_cases mark marked step.vertex 1 set v) [
        | inl q ↦ inr (inr (ap (λ l. has l v) (exits-entries readers taken) ∙ subst (λ x. has (step.vertex ∷ exits steps) x ≡ true) q.0 (has_first step.vertex (exits steps))))
        | inr q ↦ elim (now.marked v) [
          | inl z ↦ inl (q.1 ∙ z)
          | inr (inl z) ↦ inr (inl (q.1 ∙ z))
          | inr (inr z) ↦ inr (inr (ap (λ l. has l v) (exits-entries readers taken) ∙ has_later step.vertex v (exits steps) (sym (ap (λ l. has l v) exits_now) ∙ z)))
        ]
      ];
      entered_once = subst EachOnce (sym (exits-entries readers taken)) (entered_none, subst EachOnce exits_now now.entered_once);
      chained = AreChained-entries graph readers taken (λ k h. (h, now.chained.0)) (now.chained.0, now.chained.1);
      ready = AreReady-entries graph marked readers taken (
        (λ e w edge. inr edge),
        AreReady-kept graph mark marked (step.vertex ∷ []) (step.vertex ∷ readers) steps keeps
            (λ v h. elim (has_cases step.vertex v [] h) [
              | inl e ↦ inr (subst (λ x. has (step.vertex ∷ readers) x ≡ true) e (has_first step.vertex readers))
              | inr q ↦ absurd (false≢true q)
            ])
            now.ready.1,
      );
      reached = λ v m. now.reached v (unkeeps v m);
      steps_reached = λ v h. elim (vertices-entries_cases readers taken v h) [
        | inl q ↦ let r = now.steps_reached step.vertex (has_first step.vertex (vertices steps)) in (suc r.0, (step.vertex, r.1, q))
        | inr q ↦ now.steps_reached v q
      ];
      roots_kept = λ v h. elim (now.roots_kept v h) [
        | inl m ↦ inl (keeps v m)
        | inr q ↦ inr (vertices-entries_old readers taken v q)
      ];
    }

-- ---- the walk ends
module _ (graph : Adjacency) (roots : List ℕ) (mark : ℕ → ℕ) (left : List ℕ) (now : IsWalk graph roots mark [] left) where
  all_left : (edges v : ℕ) → IsReachedBy graph roots edges v → mark v ≡ 2
  all_left zero v r = elim (now.roots_kept v r) [ inl m ↦ m | inr q ↦ absurd (false≢true q) ]
  all_left (suc edges) v r = now.closed r.0 v (all_left edges r.0 r.1) r.2

  pub IsPertinent-at_end : IsPertinent graph roots (reverse left)
  IsPertinent-at_end = record {
    members = λ v. ((λ h. now.reached v (now.left_marked v (sym (has-reverse left v) ∙ h))), (λ r. has-reverse left v ∙ now.marked_left v (all_left r.0 v r.1)));
    once = now.once;
    reads_back = now.reads_back;
  }
