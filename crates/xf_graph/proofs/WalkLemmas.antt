-- One step of a walk keeps what `IsWalk` says.
use Rattle.std.proofs.Common.{◌≡◌, ℕ, true, false, cond, ◌⊎◌, inl, inr, List, [], ◌∷◌, ◌++◌, reverse, ◌==◌, sym, ap, ◌∙◌, subst}
use Rattle.std.proofs.lemmas.Bool.{false≢true, false_from_ne_true}
use Rattle.xf_graph.specs.declared.walk.Step.{Step}
use Rattle.xf_graph.specs.Edges.{Adjacency, has, has_edge}
use Rattle.xf_graph.specs.Order.{EachOnce, ReadsBack}
use Rattle.xf_graph.proofs.HasLists.{has_first, has_later, has_cases, has-push_cases, has-push_old, has-push_new, reverse-push, has-reverse, mark_at, mark_cases}
use Rattle.xf_graph.proofs.WalkState.{vertices, exits, AreReady, IsWalk}

-- what is ready stays so where the marks of 2 stay, and what stood above stands there or is marked
pub AreReady-kept :
    (graph : Adjacency) (mark marked : ℕ → ℕ) (above after : List ℕ) (steps : List Step)
    → ((v : ℕ) → mark v ≡ 2 → marked v ≡ 2)
    → ((v : ℕ) → has above v ≡ true → (marked v ≡ 2) ⊎ (has after v ≡ true))
    → AreReady graph mark above steps → AreReady graph marked after steps
AreReady-kept graph mark marked above after [] k a r = tt
AreReady-kept graph mark marked above after (step ∷ steps) k a r = (
  λ e w edge. elim (r.0 e w edge) [ inl m ↦ inl (k w m) | inr h ↦ a w h ],
  AreReady-kept graph mark marked (step.vertex ∷ above) (step.vertex ∷ after) steps k
      (λ v h. elim (has_cases step.vertex v above h) [
        | inl q ↦ inr (subst (λ x. has (step.vertex ∷ after) x ≡ true) q (has_first step.vertex after))
        | inr q ↦ elim (a v q) [ inl m ↦ inl m | inr b ↦ inr (has_later step.vertex v after b) ]
      ])
      r.1,
)

-- ---- a vertex is left
module _ (graph : Adjacency) (roots : List ℕ) (mark marked : ℕ → ℕ) (step : Step) (steps : List Step) (left : List ℕ)
    (set : (x : ℕ) → marked x ≡ cond (step.vertex == x) 2 (mark x)) (leaves : step.leaves ≡ true) (now : IsWalk graph roots mark (step ∷ steps) left) where
  exits_now : exits (step ∷ steps) ≡ step.vertex ∷ exits steps
  exits_now = ap (λ b. cond b (step.vertex ∷ exits steps) (exits steps)) leaves

  entered_now : mark step.vertex ≡ 1
  entered_now = now.entered step.vertex (ap (λ l. has l step.vertex) exits_now ∙ has_first step.vertex (exits steps))

  later : (v : ℕ) → has (exits steps) v ≡ true → has (exits (step ∷ steps)) v ≡ true
  later v h = ap (λ l. has l v) exits_now ∙ has_later step.vertex v (exits steps) h

  once_now : (has (exits steps) step.vertex ≡ false) × EachOnce (exits steps)
  once_now = subst EachOnce exits_now now.entered_once

  -- its readers have been left
  readers_left : (w : ℕ) → has_edge graph step.vertex w ≡ true → mark w ≡ 2
  readers_left w edge = elim (now.ready.0 leaves w edge) [ inl m ↦ m | inr h ↦ absurd (false≢true h) ]

  keeps : (v : ℕ) → mark v ≡ 2 → marked v ≡ 2
  keeps v m = elim (mark_cases mark marked step.vertex 2 set v) [ inl q ↦ q.1 | inr q ↦ q.1 ∙ m ]

  not_left : has (reverse left) step.vertex ≡ false
  not_left = false_from_ne_true (has (reverse left) step.vertex) (λ h. let m = now.left_marked step.vertex (sym (has-reverse left step.vertex) ∙ h) in let e : 1 ≡ 2 = sym entered_now ∙ m in cc)

  no_forward : (source : ℕ) → has (step.vertex ∷ reverse left) source ≡ true → has_edge graph source step.vertex ≡ false
  no_forward source h =
      false_from_ne_true (has_edge graph source step.vertex) (λ edge.
      let m : mark step.vertex ≡ 2 =
      elim (has_cases step.vertex source (reverse left) h) [
        | inl e ↦ readers_left step.vertex (ap (λ x. has_edge graph x step.vertex) e ∙ edge)
        | inr q ↦ now.closed source step.vertex (now.left_marked source (sym (has-reverse left source) ∙ q)) edge
      ]
      in let e : 1 ≡ 2 = sym entered_now ∙ m in cc)

  pub IsWalk-left : IsWalk graph roots marked steps (left ++ step.vertex ∷ [])
  IsWalk-left = record {
    left_marked = λ v h. elim (has-push_cases left step.vertex v h) [
      | inl q ↦ keeps v (now.left_marked v q)
      | inr e ↦ subst (λ x. marked x ≡ 2) e (mark_at mark marked step.vertex 2 set)
    ];
    marked_left = λ v m. elim (mark_cases mark marked step.vertex 2 set v) [
      | inl q ↦ subst (λ x. has (left ++ step.vertex ∷ []) x ≡ true) q.0 (has-push_new left step.vertex)
      | inr q ↦ has-push_old left step.vertex v (now.marked_left v (sym q.1 ∙ m))
    ];
    once = subst EachOnce (sym (reverse-push left step.vertex)) (not_left, now.once);
    reads_back = subst (ReadsBack graph) (sym (reverse-push left step.vertex)) (no_forward, now.reads_back);
    closed = λ v w m edge. elim (mark_cases mark marked step.vertex 2 set v) [
      | inl q ↦ keeps w (readers_left w (ap (λ x. has_edge graph x w) q.0 ∙ edge))
      | inr q ↦ keeps w (now.closed v w (sym q.1 ∙ m) edge)
    ];
    entered = λ v h. elim (mark_cases mark marked step.vertex 2 set v) [
      | inl q ↦ absurd (false≢true (sym once_now.0 ∙ (ap (has (exits steps)) q.0 ∙ h)))
      | inr q ↦ q.1 ∙ now.entered v (later v h)
    ];
    marked = λ v. elim (mark_cases mark marked step.vertex 2 set v) [
      | inl q ↦ inr (inl q.1)
      | inr q ↦ elim (now.marked v) [
        | inl z ↦ inl (q.1 ∙ z)
        | inr (inl z) ↦ inr (inl (q.1 ∙ z))
        | inr (inr z) ↦ elim (has_cases step.vertex v (exits steps) (sym (ap (λ l. has l v) exits_now) ∙ z)) [
          | inl e ↦ absurd (q.0 e)
          | inr z' ↦ inr (inr z')
        ]
      ]
    ];
    entered_once = once_now.1;
    chained = now.chained.1;
    ready = AreReady-kept graph mark marked (step.vertex ∷ []) [] steps keeps
        (λ v h. elim (has_cases step.vertex v [] h) [
          | inl e ↦ inl (subst (λ x. marked x ≡ 2) e (mark_at mark marked step.vertex 2 set))
          | inr q ↦ inr q
        ])
        now.ready.1;
    reached = λ v m. elim (mark_cases mark marked step.vertex 2 set v) [
      | inl q ↦ now.steps_reached v (ap (λ x. has (x ∷ vertices steps) v) q.0 ∙ has_first v (vertices steps))
      | inr q ↦ now.reached v (sym q.1 ∙ m)
    ];
    steps_reached = λ v h. now.steps_reached v (has_later step.vertex v (vertices steps) h);
    roots_kept = λ v h. elim (now.roots_kept v h) [
      | inl m ↦ inl (keeps v m)
      | inr q ↦ elim (has_cases step.vertex v (vertices steps) q) [
        | inl e ↦ inl (subst (λ x. marked x ≡ 2) e (mark_at mark marked step.vertex 2 set))
        | inr z ↦ inr z
      ]
    ];
  }
