-- What the search from a target keeps: its marks spread in layers.
use Rattle.std.proofs.Common.{◌≡◌, ℕ, suc, ◌+◌, ◌-◌, ◌<◌, ◌≤◌, true, false, cond, ◌⊎◌, inl, inr, List, [], ◌∷◌, ◌++◌, length, slice_index_or, ◌==◌, refl, sym, ap, ◌∙◌, subst, arith, length-append, drop, add-one, drop-cons}
use Rattle.std.proofs.lemmas.Bool.{cases_lt, eq-eqb, eqb-true, or_cases, or_left, or_right, and_from, and_parts, cases_Bool, false≢true, false_from_ne_true}
use Rattle.xf_graph.specs.Edges.{Adjacency, has, has_edge}
use Rattle.xf_graph.specs.Cycle.{ReadsAlong}
use Rattle.xf_graph.specs.Search.{MarksNew, IsOnNoCycle, IsMeasured}
use Rattle.xf_graph.proofs.HasLists.{has_first, has_later, has_cases, has-append, mark_at, mark_cases}
use Rattle.xf_graph.proofs.WalkState.{unmarked_cost, joined}
use Rattle.xf_graph.proofs.WalkMeasure.{has-joined, unmarked_cost-falls_all}

-- all have the mark
abbrev pub AllHave : (ℕ → ℕ) → ℕ → List ℕ → Type 0
AllHave mark value [] = Unit {0}
AllHave mark value (v ∷ vs) = (mark v ≡ value) × AllHave mark value vs

-- first those with the mark, then those with the next
abbrev pub InLayers : (ℕ → ℕ) → ℕ → List ℕ → Type 0
InLayers mark value [] = Unit {0}
InLayers mark value (v ∷ vs) = ((mark v ≡ value) × InLayers mark value vs) ⊎ AllHave mark (suc value) (v ∷ vs)

AllHave-push : (mark : ℕ → ℕ) (value : ℕ) (vs ws : List ℕ) → AllHave mark value vs → AllHave mark value ws → AllHave mark value (vs ++ ws)
AllHave-push mark value [] ws a b = b
AllHave-push mark value (v ∷ vs) ws a b = (a.0, AllHave-push mark value vs ws a.1 b)

InLayers-all : (mark : ℕ → ℕ) (value : ℕ) (vs : List ℕ) → AllHave mark value vs → InLayers mark value vs
InLayers-all mark value [] a = tt
InLayers-all mark value (v ∷ vs) a = inl (a.0, InLayers-all mark value vs a.1)

InLayers-next : (mark : ℕ → ℕ) (value : ℕ) (vs : List ℕ) → AllHave mark (suc value) vs → InLayers mark value vs
InLayers-next mark value [] a = tt
InLayers-next mark value (v ∷ vs) a = inr a

InLayers-push : (mark : ℕ → ℕ) (value : ℕ) (vs ws : List ℕ) → InLayers mark value vs → AllHave mark (suc value) ws → InLayers mark value (vs ++ ws)
InLayers-push mark value [] ws a b = InLayers-next mark value ws b
InLayers-push mark value (v ∷ vs) ws (inl p) b = inl (p.0, InLayers-push mark value vs ws p.1 b)
InLayers-push mark value (v ∷ vs) ws (inr p) b = inr (AllHave-push mark (suc value) (v ∷ vs) ws p b)

-- the first of the layers gives the mark of all
InLayers-first : (mark : ℕ → ℕ) (value v : ℕ) (vs : List ℕ) → InLayers mark value (v ∷ vs) → (value ≤ mark v) × InLayers mark (mark v) vs
InLayers-first mark value v vs (inl p) = (omega (arith, p.0), subst (λ d. InLayers mark d vs) (sym p.0) p.1)
InLayers-first mark value v vs (inr p) = (omega (arith, p.0), subst (λ d. InLayers mark d vs) (sym p.0) (InLayers-all mark (suc value) vs p.1))

AllHave-at : (mark : ℕ → ℕ) (value : ℕ) (vs : List ℕ) (x : ℕ) → AllHave mark value vs → has vs x ≡ true → mark x ≡ value
AllHave-at mark value [] x a h = absurd (false≢true h)
AllHave-at mark value (v ∷ vs) x a h = elim (has_cases v x vs h) [ inl e ↦ ap mark (sym e) ∙ a.0 | inr q ↦ AllHave-at mark value vs x a.1 q ]

InLayers-least : (mark : ℕ → ℕ) (value : ℕ) (vs : List ℕ) (x : ℕ) → InLayers mark value vs → has vs x ≡ true → value ≤ mark x
InLayers-least mark value [] x a h = absurd (false≢true h)
InLayers-least mark value (v ∷ vs) x (inl p) h = elim (has_cases v x vs h) [ inl e ↦ (let q = ap mark (sym e) ∙ p.0 in omega (arith, q)) | inr q ↦ InLayers-least mark value vs x p.1 q ]
InLayers-least mark value (v ∷ vs) x (inr p) h = omega (arith, AllHave-at mark (suc value) (v ∷ vs) x p h)

AllHave-same : (mark marked : ℕ → ℕ) (value : ℕ) (vs : List ℕ) → ((v : ℕ) → has vs v ≡ true → marked v ≡ mark v) → AllHave mark value vs → AllHave marked value vs
AllHave-same mark marked value [] k a = tt
AllHave-same mark marked value (v ∷ vs) k a = (k v (has_first v vs) ∙ a.0, AllHave-same mark marked value vs (λ w h. k w (has_later v w vs h)) a.1)

InLayers-same : (mark marked : ℕ → ℕ) (value : ℕ) (vs : List ℕ) → ((v : ℕ) → has vs v ≡ true → marked v ≡ mark v) → InLayers mark value vs → InLayers marked value vs
InLayers-same mark marked value [] k a = tt
InLayers-same mark marked value (v ∷ vs) k (inl p) = inl (k v (has_first v vs) ∙ p.0, InLayers-same mark marked value vs (λ w h. k w (has_later v w vs h)) p.1)
InLayers-same mark marked value (v ∷ vs) k (inr p) = inr (AllHave-same mark marked (suc value) (v ∷ vs) k p)

AllHave-from : (mark : ℕ → ℕ) (value : ℕ) (vs : List ℕ) → ((v : ℕ) → has vs v ≡ true → mark v ≡ value) → AllHave mark value vs
AllHave-from mark value [] k = tt
AllHave-from mark value (v ∷ vs) k = (k v (has_first v vs), AllHave-from mark value vs (λ w h. k w (has_later v w vs h)))

-- the marks have spread from the vertex, and not to the target
abbrev pub HasSpread : Adjacency → ℕ → (ℕ → ℕ) → ℕ → Type 0
HasSpread graph target mark w = (v : ℕ) → has_edge graph w v ≡ true → (1 ≤ mark v) × (mark v ≤ mark w + 1) × (v ≡ target → ⊥)

-- the state of the search, with the vertices from which the marks are still to spread
pub record IsSearch (graph : Adjacency) (target : ℕ) (mark : ℕ → ℕ) (pending : List ℕ) (count : ℕ) : Type 0 where
  pub start : mark target ≡ 1
  pub one : (v : ℕ) → mark v ≡ 1 → v ≡ target
  pub before : (v k : ℕ) → mark v ≡ suc (suc k) → (w : ℕ) × (has_edge graph w v ≡ true) × (mark w ≡ suc k)
  pub spread : (w : ℕ) → (mark w ≡ 0) ⊎ ((has pending w ≡ true) ⊎ HasSpread graph target mark w)
  pub layer : ℕ
  pub layered : InLayers mark layer pending
  pub layer_positive : 1 ≤ layer
  pub most : (v : ℕ) → mark v ≤ layer + 1
  pub bounded : (v : ℕ) → mark v ≤ count
  pub known : (v : ℕ) → has pending v ≡ true → has (target ∷ joined graph) v ≡ true

-- ---- it begins
module _ (graph : Adjacency) (target : ℕ) (none mark : ℕ → ℕ) (empty : (v : ℕ) → none v ≡ 0) (set : (v : ℕ) → mark v ≡ cond (target == v) 1 (none v)) where
  pub IsSearch-begins : IsSearch graph target mark (target ∷ []) 1
  IsSearch-begins = record {
    start = mark_at none mark target 1 set;
    one = λ v m. elim (mark_cases none mark target 1 set v) [ inl q ↦ sym q.0 | inr q ↦ absurd (omega (arith, q.1, empty v)) ];
    before = λ v k m. elim (mark_cases none mark target 1 set v) [ inl q ↦ absurd (omega (arith, q.1)) | inr q ↦ absurd (omega (arith, q.1, empty v)) ];
    spread = λ v. elim (mark_cases none mark target 1 set v) [
      | inl q ↦ inr (inl (subst (λ x. has (target ∷ []) x ≡ true) q.0 (has_first target [])))
      | inr q ↦ inl (q.1 ∙ empty v)
    ];
    layer = 1;
    layered = inl (mark_at none mark target 1 set, tt);
    layer_positive = omega arith;
    most = λ v. elim (mark_cases none mark target 1 set v) [ inl q ↦ omega (arith, q.1) | inr q ↦ omega (arith, q.1, empty v) ];
    bounded = λ v. elim (mark_cases none mark target 1 set v) [ inl q ↦ omega (arith, q.1) | inr q ↦ omega (arith, q.1, empty v) ];
    known = λ v h. elim (has_cases target v [] h) [
      | inl e ↦ subst (λ x. has (target ∷ joined graph) x ≡ true) e (has_first target (joined graph))
      | inr q ↦ absurd (false≢true q)
    ];
  }

-- ---- the target reads from the vertex at hand
module _ (graph : Adjacency) (target : ℕ) (mark : ℕ → ℕ) (at : ℕ) (rest : List ℕ) (count : ℕ) (now : IsSearch graph target mark (at ∷ rest) count) where
  pending_least : (w : ℕ) → has (at ∷ rest) w ≡ true → mark at ≤ mark w
  pending_least w h =
      let f = InLayers-first mark now.layer at rest now.layered in
      elim (has_cases at w rest h) [
        | inl e ↦ (let q = ap mark e in omega (arith, q))
        | inr q ↦ InLayers-least mark (mark at) rest w f.1 q
      ]

  pub at_positive : 1 ≤ mark at
  at_positive = let f = InLayers-first mark now.layer at rest now.layered in let p = now.layer_positive in omega (arith, f.0)

  pub IsMeasured-found : IsMeasured graph target mark (mark at)
  IsMeasured-found = record {
    start = now.start;
    one = now.one;
    before = now.before;
    spread = λ w v edge positive less. elim (now.spread w) [
      | inl z ↦ absurd (omega arith)
      | inr (inl h) ↦ (let q = pending_least w h in absurd (omega arith))
      | inr (inr s) ↦ ((s v edge).0, (s v edge).1)
    ];
    closing = λ w edge positive. elim (now.spread w) [
      | inl z ↦ absurd (omega arith)
      | inr (inl h) ↦ pending_least w h
      | inr (inr s) ↦ absurd ((s target edge).2 refl)
    ];
  }

  -- ---- the marks spread from it
  module _ (marked : ℕ → ℕ) (queue queue' : List ℕ) (news : MarksNew (slice_index_or graph at []) (mark at + 1) mark marked queue queue')
      (length_now : length queue ≡ count) (not_target : has_edge graph at target ≡ false) where
    added_marks : (v : ℕ) → has news.added v ≡ true → marked v ≡ mark at + 1
    added_marks v h = news.marks v ∙ ap (λ b. cond b (mark at + 1) (mark v)) h

    kept_marks : (v : ℕ) → has news.added v ≡ false → marked v ≡ mark v
    kept_marks v h = news.marks v ∙ ap (λ b. cond b (mark at + 1) (mark v)) h

    added_unmarked : (v : ℕ) → has news.added v ≡ true → mark v ≡ 0
    added_unmarked v h = eqb-true (mark v) 0 (and_parts (mark v == 0) (has_edge graph at v) (sym (news.members v) ∙ h)).0

    added_edge : (v : ℕ) → has news.added v ≡ true → has_edge graph at v ≡ true
    added_edge v h = (and_parts (mark v == 0) (has_edge graph at v) (sym (news.members v) ∙ h)).1

    -- a marked vertex keeps its mark
    stays : (v : ℕ) → 1 ≤ mark v → marked v ≡ mark v
    stays v positive = kept_marks v (false_from_ne_true (has news.added v) (λ h. let z = added_unmarked v h in omega arith))

    spread_at : HasSpread graph target marked at
    spread_at v edge =
        let s = stays at at_positive in
        let not : v ≡ target → ⊥ = λ e. false≢true (sym not_target ∙ (ap (has_edge graph at) (sym e) ∙ edge)) in
        elim (cases_Bool (has news.added v)) [
          | inl h ↦ (let m = added_marks v h in (omega arith, omega arith, not))
          | inr h ↦
              let m = kept_marks v h in
              let some : mark v ≡ 0 → ⊥ = λ z. false≢true (sym h ∙ (news.members v ∙ and_from (mark v == 0) (has_edge graph at v) (eq-eqb (mark v) 0 z) edge)) in
              let f = InLayers-first mark now.layer at rest now.layered in
              let most = now.most v in
              (omega (arith, some), omega (arith, f.0), not)
        ]

    rest_marked : (v : ℕ) → has rest v ≡ true → 1 ≤ mark v
    rest_marked v h = let l = pending_least v (has_later at v rest h) in let p = at_positive in omega arith

    length_added : (v : ℕ) → has news.added v ≡ true → 1 ≤ length news.added
    length_added v h = some_length news.added v h
      where
        some_length : (vs : List ℕ) (x : ℕ) → has vs x ≡ true → 1 ≤ length vs
        some_length [] x q = absurd (false≢true q)
        some_length (y ∷ ys) x q = omega arith

    length_queue : length queue' ≡ count + length news.added
    length_queue = ap length news.queue ∙ length-append queue news.added ∙ ap (λ n. n + length news.added) length_now

    new_one : mark at + 1 ≡ 1 → ⊥
    new_one e = let p = at_positive in omega arith

    pub IsSearch-spread : IsSearch graph target marked (rest ++ news.added) (length queue')
    IsSearch-spread = record {
      start = stays target (omega (arith, now.start)) ∙ now.start;
      one = λ v m. elim (cases_Bool (has news.added v)) [
        | inl h ↦ absurd (new_one (sym (added_marks v h) ∙ m))
        | inr h ↦ now.one v (sym (kept_marks v h) ∙ m)
      ];
      before = λ v k m. elim (cases_Bool (has news.added v)) [
        | inl h ↦ (at, added_edge v h, (let a = added_marks v h in let s = stays at at_positive in omega arith))
        | inr h ↦ (let b = now.before v k (sym (kept_marks v h) ∙ m) in (b.0, b.1, stays b.0 (omega (arith, b.2)) ∙ b.2))
      ];
      spread = λ w. elim (cases_Bool (has news.added w)) [
        | inl h ↦ inr (inl (has-append rest news.added w ∙ or_right (has rest w) (has news.added w) h))
        | inr h ↦ elim (now.spread w) [
          | inl z ↦ inl (kept_marks w h ∙ z)
          | inr (inl p) ↦ elim (has_cases at w rest p) [
            | inl e ↦ inr (inr (subst (HasSpread graph target marked) e spread_at))
            | inr q ↦ inr (inl (has-append rest news.added w ∙ or_left (has rest w) (has news.added w) q))
          ]
          | inr (inr s) ↦ inr (inr (λ v edge.
              let old = s v edge in
              let a = stays v old.0 in
              let b = kept_marks w h in
              (omega (arith, old.0), omega (arith, old.1), old.2)))
        ]
      ];
      layer = mark at;
      layered = InLayers-push marked (mark at) rest news.added
          (InLayers-same mark marked (mark at) rest (λ v h. stays v (rest_marked v h)) (InLayers-first mark now.layer at rest now.layered).1)
          (AllHave-from marked (suc (mark at)) news.added (λ v h. let a = added_marks v h in omega arith));
      layer_positive = at_positive;
      most = λ v. elim (cases_Bool (has news.added v)) [
        | inl h ↦ omega (arith, added_marks v h)
        | inr h ↦ (let f = InLayers-first mark now.layer at rest now.layered in omega (arith, kept_marks v h, f.0, now.most v))
      ];
      bounded = λ v. elim (cases_Bool (has news.added v)) [
        | inl h ↦ omega (arith, added_marks v h, length_added v h, length_queue, now.bounded at)
        | inr h ↦ omega (arith, kept_marks v h, length_queue, now.bounded v)
      ];
      known = λ v h. elim (or_cases (has rest v) (has news.added v) (sym (has-append rest news.added v) ∙ h)) [
        | inl q ↦ now.known v (has_later at v rest q)
        | inr q ↦ has_later target v (joined graph) (has-joined graph at v (added_edge v q))
      ];
    }

-- ---- it ends
module _ (graph : Adjacency) (target : ℕ) (mark : ℕ → ℕ) (count : ℕ) (now : IsSearch graph target mark [] count) where
  pub IsMeasured-all : (limit : ℕ) → IsMeasured graph target mark limit
  IsMeasured-all limit = record {
    start = now.start;
    one = now.one;
    before = now.before;
    spread = λ w v edge positive less. elim (now.spread w) [
      | inl z ↦ absurd (omega arith)
      | inr (inl h) ↦ absurd (false≢true h)
      | inr (inr s) ↦ ((s v edge).0, (s v edge).1)
    ];
    closing = λ w edge positive. elim (now.spread w) [
      | inl z ↦ absurd (omega arith)
      | inr (inl h) ↦ absurd (false≢true h)
      | inr (inr s) ↦ absurd ((s target edge).2 refl)
    ];
  }

-- ---- what the marks say of the vertices that lead to the target
module _ (graph : Adjacency) (target : ℕ) (mark : ℕ → ℕ) (limit : ℕ) (measured : IsMeasured graph target mark limit) where
  pub mark-le_length : (reader : ℕ) (rest : List ℕ) → ReadsAlong graph reader rest target → length rest + 1 < limit → (1 ≤ mark reader) × (mark reader ≤ length rest + 2)
  mark-le_length reader [] edge less =
      let s = measured.spread target reader edge (omega (arith, measured.start)) (omega (arith, measured.start)) in
      (s.0, omega (arith, s.1, measured.start))
  mark-le_length reader (next ∷ rest) along less =
      let i = mark-le_length next rest along.1 (omega arith) in
      let s = measured.spread next reader along.0 i.0 (omega (arith, i.1)) in
      (s.0, omega (arith, s.1, i.1))

  -- a cycle through the target has at least as many vertices as the limit
  pub limit-le_length : (rest : List ℕ) → ReadsAlong graph target rest target → limit ≤ length rest + 1
  limit-le_length [] edge = omega (arith, measured.closing target edge (omega (arith, measured.start)), measured.start)
  limit-le_length (next ∷ rest) along = elim (cases_lt (length rest + 1) limit) [
    | inl less ↦ (let i = mark-le_length next rest along.1 less in omega (arith, i.1, measured.closing next along.0 i.0))
    | inr more ↦ omega arith
  ]

pub IsOnNoCycle-from_all : (graph : Adjacency) (target : ℕ) (mark : ℕ → ℕ) → ((limit : ℕ) → IsMeasured graph target mark limit) → IsOnNoCycle graph target
IsOnNoCycle-from_all graph target mark all rest along =
    let l = limit-le_length graph target mark (length rest + 2) (all (length rest + 2)) rest along in omega arith

-- the first of what is left of a list
pub drop_next : (xs : List ℕ) (i x : ℕ) → i < length xs → x ≡ slice_index_or xs i x → drop i xs ≡ x ∷ drop (i + 1) xs
drop_next xs i x within e = subst (λ y. drop i xs ≡ y ∷ drop (i + 1) xs) (sym e) (rw (add-one, drop-cons xs i x) refl)

-- what is to be done falls by what was added to the queue
pub cost_falls : (graph : Adjacency) (target at value : ℕ) (mark marked : ℕ → ℕ) (queue queue' : List ℕ) → 1 ≤ value
    → (news : MarksNew (slice_index_or graph at []) value mark marked queue queue')
    → unmarked_cost graph marked (target ∷ joined graph) + length news.added ≤ unmarked_cost graph mark (target ∷ joined graph)
cost_falls graph target at value mark marked queue queue' positive news =
    unmarked_cost-falls_all graph (target ∷ joined graph) value positive news.added mark marked news.once
    (λ v h. eqb-true (mark v) 0 (and_parts (mark v == 0) (has_edge graph at v) (sym (news.members v) ∙ h)).0)
    (λ v h. has_later target v (joined graph) (has-joined graph at v (and_parts (mark v == 0) (has_edge graph at v) (sym (news.members v) ∙ h)).1))
    news.marks

pub spent : (cost cost' length_ length_' at added : ℕ) → length_' ≡ length_ + added → cost' + added ≤ cost → at < length_ → cost' + (length_' - (at + 1)) < cost + (length_ - at)
spent cost cost' length_ length_' at added e falls within = omega arith
