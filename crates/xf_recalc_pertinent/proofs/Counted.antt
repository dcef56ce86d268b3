-- The entries that a change reaches are the pertinent ones.
use Rattle.std.proofs.Common.{◌≡◌, ℕ, zero, suc, ◌==◌, Bool, true, false, cond, not, ◌&&◌, ◌||◌, ◌⊎◌, inl, inr, List, [], ◌∷◌, map, length, Option, Some, None, slice_get, refl, sym, ap, ◌∙◌, arith}
use Rattle.std.specs.Prelude.{filter, option_and_then}
use Rattle.std.specs.List.{list_any, list_all}
use Rattle.std.proofs.lemmas.Bool.{eqb-true, false≢true}
use Rattle.xf_def_syntax.specs.declared.form.Tables.{Tables}
use Rattle.xf_def_forest.specs.declared.content.Node.{Node}
use Rattle.xf_def_forest.specs.Visit.{Visit, has, ancestors_of}
use Rattle.xf_def_forest.specs.Shape.{shape_of}
use Rattle.xf_def_model.specs.Rules.{Rule, Scope, rule_of}
use Rattle.xf_def_model.specs.Applied.{Entry, is_calculate}
use Rattle.xf_def_model.specs.Entries.{expression_in, is_computed, looks_of, reads_of, touches}
use Rattle.xf_def_model.specs.Pertinent.{Asking, Changes, asking, askings, calculated_in, follows, is_begun, is_pertinent, pertinent_count, pertinent_of, placed_in, reads_any, stands_as}
use Rattle.xf_def_model.proofs.PertinentLaws.{PassesMore, pertinent-least, pertinent-stands}
use Rattle.xf_binds.specs.declared.web.Asks.{Asks}
use Rattle.xf_binds.specs.Kept.{Kept}
use Rattle.xf_binds_rebuild.specs.Found.{asks_or}
use Rattle.xf_binds_rebuild.specs.Web.{asks_by, asks_of}
use Rattle.xf_recalc_pertinent.specs.Marked.{is_evaluated, pertinent_marks}
use Rattle.xf_recalc_pertinent.specs.OfTable.{IsOfTable, changes_in}
use Rattle.xf_recalc_pertinent.specs.Places.{asks_at, gives_at, gives_in, is_marked, reads_at, reads_in}
use Rattle.xf_recalc_pertinent.specs.Begun.{AreBegun, asking_with, is_begun_at, is_begun_by, is_begun_in}
use Rattle.xf_recalc_pertinent.specs.Spread.{IsClosed, IsSpread, is_touched}
use Rattle.xf_recalc_pertinent.proofs.Lists.{and-both, and-parts, got-has, has-got, or-cases, or-left, or-right}
use Rattle.xf_recalc_pertinent.proofs.Members.{At, all-at, any-at, at-all, at-any, at-each, at-filter, at-map, each-at, filter-at, map-at}

-- ---- truths

unless-not : (a b : Bool) → (a ≡ true → b ≡ true) → (not a || b) ≡ true
unless-not true b h = h refl
unless-not false b h = refl

not-unless : (a b : Bool) → (not a || b) ≡ true → a ≡ true → b ≡ true
not-unless true b h i = h
not-unless false b h i = absurd (false≢true i)

skips : (x r c l : Bool) → ((x || c) || l) ≡ true → (((x || r) || c) || l) ≡ true
skips true r c l h = refl
skips false true c l h = refl
skips false false c l h = h

begins : (x r c l : Bool) → r ≡ true → (((x || r) || c) || l) ≡ true
begins true r c l h = refl
begins false true c l h = refl
begins false false c l h = absurd (false≢true h)

takes-apart : (x r c l : Bool) → (((x || r) || c) || l) ≡ true → (((x || c) || l) ≡ true) ⊎ (r ≡ true)
takes-apart true r c l h = inl refl
takes-apart false true c l h = inr refl
takes-apart false false c l h = inl h

both-ways : (a b : Bool) → (a ≡ true → b ≡ true) → (b ≡ true → a ≡ true) → a ≡ b
both-ways true b h k = sym (h refl)
both-ways false true h k = k refl
both-ways false false h k = refl

mapped-length : {X Y : Type 0} (f : X → Y) (xs : List X) → length (map f xs) ≡ length xs
mapped-length f [] = refl
mapped-length f (x ∷ xs) = ap suc (mapped-length f xs)

-- ---- marks are counted

-- the entry is computed and passes
abbrev pub passes_in : (Entry → Bool) → Option Entry → Bool
passes_in test None = false
passes_in test (Some e) = is_computed e && test e

marks-counted : (f : Entry → Asking) (p : Asking → Bool) (entries : List Entry) (marks : List Bool) → length marks ≡ length entries
    → ((place : ℕ) → is_marked marks place ≡ passes_in (λ e. p (f e)) (slice_get entries place))
    → length (filter (λ mark. mark) marks) ≡ length (filter p (map f (filter is_computed entries)))
marks-counted f p [] [] s h = refl
marks-counted f p [] (m ∷ ms) s h = cc s
marks-counted f p (e ∷ es) [] s h = cc s
marks-counted f p (e ∷ es) (m ∷ ms) s h =
    ap (λ b. length (cond b (m ∷ filter (λ mark. mark) ms) (filter (λ mark. mark) ms))) (h 0)
    ∙ by (is_computed e) (p (f e)) refl (marks-counted f p es ms (let t : length ms ≡ length es = omega (arith, s) in t) (λ place. h (suc place)))
  where
    by : (c b : Bool) → p (f e) ≡ b → length (filter (λ mark. mark) ms) ≡ length (filter p (map f (filter is_computed es)))
        → length (cond (c && b) (m ∷ filter (λ mark. mark) ms) (filter (λ mark. mark) ms)) ≡ length (filter p (map f (cond c (e ∷ filter is_computed es) (filter is_computed es))))
    by true true q rest = ap suc rest ∙ ap (λ b. length (cond b (f e ∷ filter p (map f (filter is_computed es))) (filter p (map f (filter is_computed es))))) (sym q)
    by true false q rest = rest ∙ ap (λ b. length (cond b (f e ∷ filter p (map f (filter is_computed es))) (filter p (map f (filter is_computed es))))) (sym q)
    by false b q rest = rest

-- marks by places are a list
marks-same : (f : Entry → Asking) (p : Asking → Bool) (entries : List Entry) (marks : List Bool) → length marks ≡ length entries
    → ((place : ℕ) → is_marked marks place ≡ passes_in (λ e. p (f e)) (slice_get entries place)) → marks ≡ map (λ e. is_computed e && p (f e)) entries
marks-same f p [] [] s h = refl
marks-same f p [] (m ∷ ms) s h = cc s
marks-same f p (e ∷ es) [] s h = cc s
marks-same f p (e ∷ es) (m ∷ ms) s h =
    ap (λ b. b ∷ ms) (h 0)
    ∙ ap (λ l. (is_computed e && p (f e)) ∷ l) (marks-same f p es ms (let t : length ms ≡ length es = omega (arith, s) in t) (λ place. h (suc place)))

marked-place : (f : Entry → Asking) (p : Asking → Bool) (entries : List Entry) (place : ℕ)
    → is_marked (map (λ e. is_computed e && p (f e)) entries) place ≡ passes_in (λ e. p (f e)) (slice_get entries place)
marked-place f p [] place = refl
marked-place f p (e ∷ es) zero = refl
marked-place f p (e ∷ es) (suc place) = marked-place f p es place

-- ---- what is kept of an entry

module _ (scope : Scope) (tables : Tables) (nodes : List Node) (kept : Kept) (of : IsOfTable scope tables nodes kept) where
  abbrev all : List Visit
  all = shape_of nodes

  abbrev asked : List Asking
  asked = askings scope (shape_of nodes) kept.entries

  abbrev pertinent : Asking → Bool
  pertinent = is_pertinent (shape_of nodes) (changes_in kept) (askings scope (shape_of nodes) kept.entries)

  asks-kept : (place : ℕ) (e : Entry) → slice_get kept.entries place ≡ Some e → asks_at kept.asks place ≡ asks_of scope (shape_of nodes) e
  asks-kept place e h = ap (λ web. asks_or (slice_get web place)) of.asks ∙ ap asks_or (at-map (asks_of scope (shape_of nodes)) kept.entries place e h)

  computed-asks : (e : Entry) → is_computed e ≡ true
      → asks_of scope (shape_of nodes) e ≡ record { reads = reads_of scope (shape_of nodes) e; looks = looks_of scope (shape_of nodes) e; above = ancestors_of e.node (shape_of nodes) }
  computed-asks e c = ap (asks_by scope (shape_of nodes) e) c

  -- ---- what it reads and gives

  reads-place : (place n : ℕ) (e : Entry) → slice_get kept.entries place ≡ Some e → is_computed e ≡ true → has n (reads_of scope (shape_of nodes) e) ≡ true → reads_at kept.entries kept.asks place n ≡ true
  reads-place place n e h c r =
      ap (λ o. reads_in o (asks_at kept.asks place) n) h ∙ ap (λ (a : Asks). has n a.reads) (asks-kept place e h ∙ computed-asks e c) ∙ r

  gives-place : (place n : ℕ) (e : Entry) → slice_get kept.entries place ≡ Some e → is_computed e ≡ true → is_calculate e ≡ true → has n (e.node ∷ ancestors_of e.node (shape_of nodes)) ≡ true
      → gives_at kept.entries kept.asks place n ≡ true
  gives-place place n e h c k g =
      ap (λ o. gives_in o (asks_at kept.asks place) n) h ∙ ap (λ (a : Asks). is_calculate e && has n (e.node ∷ a.above)) (asks-kept place e h ∙ computed-asks e c)
      ∙ and-both (is_calculate e) (has n (e.node ∷ ancestors_of e.node (shape_of nodes))) k g

  -- ---- those that are asked

  asked-at : (place : ℕ) (e : Entry) → slice_get kept.entries place ≡ Some e → is_computed e ≡ true → At (askings scope (shape_of nodes) kept.entries) (asking scope (shape_of nodes) e)
  asked-at place e h c =
      let f = at-filter is_computed kept.entries place e h c in
      (f.0, at-map (asking scope (shape_of nodes)) (filter is_computed kept.entries) f.0 e f.1)

  at-asked : (k : ℕ) (a : Asking) → slice_get (askings scope (shape_of nodes) kept.entries) k ≡ Some a → (e : Entry) × At kept.entries e × (is_computed e ≡ true) × (asking scope (shape_of nodes) e ≡ a)
  at-asked k a h =
      let m = map-at (asking scope (shape_of nodes)) (filter is_computed kept.entries) k a h in
      let f = filter-at is_computed kept.entries m.1.0 m.0 m.1.1 in
      (m.0, f.0, f.1, m.2)

  -- ---- what a change concerns by itself

  asking-kept : (place : ℕ) (e : Entry) → slice_get kept.entries place ≡ Some e → is_computed e ≡ true → asking_with (map rule_of tables.binds) e (asks_at kept.asks place) ≡ asking scope (shape_of nodes) e
  asking-kept place e h c =
      ap (asking_with (map rule_of tables.binds) e) (asks-kept place e h ∙ computed-asks e c)
      ∙ ap (λ (rules : List Rule). record { entry = e; is_placed = placed_in (option_and_then (λ r. expression_in r e.property) (slice_get rules e.bind)); reads = reads_of scope (shape_of nodes) e; looks = looks_of scope (shape_of nodes) e })
      (sym of.rules)

  abbrev begun_alone : Asking → Bool
  begun_alone a =
      not (list_any (stands_as a) (changes_in kept).stood) || (is_calculate a.entry && has a.entry.node kept.texts) || list_any (λ n. has n kept.lists) a.looks

  begun-place : (place : ℕ) (e : Entry) → slice_get kept.entries place ≡ Some e → is_computed e ≡ true
      → is_begun_at (map rule_of tables.binds) kept place ≡ begun_alone (asking scope (shape_of nodes) e)
  begun-place place e h c =
      ap (λ o. is_begun_in (map rule_of tables.binds) (changes_in kept) o (asks_at kept.asks place)) h
      ∙ ap (λ b. b && is_begun_by (map rule_of tables.binds) (changes_in kept) e (asks_at kept.asks place)) c
      ∙ ap begun_alone (asking-kept place e h c)

  -- ---- touched nodes

  texts-touched : (a : Asking) (n : ℕ) → is_touched (shape_of nodes) kept.texts n ≡ true → has n a.reads ≡ true → reads_any (shape_of nodes) a kept.texts ≡ true
  texts-touched a n t r =
      let m = any-at (λ m. has n (m ∷ ancestors_of m (shape_of nodes))) kept.texts t in
      let k = any-at (λ i. n == i) (m.0 ∷ ancestors_of m.0 (shape_of nodes)) m.2 in
      at-any (touches (shape_of nodes) a.reads) kept.texts m.1.0 m.0 m.1.1
      (at-any (λ i. has i a.reads) (m.0 ∷ ancestors_of m.0 (shape_of nodes)) k.1.0 k.0 k.1.1 (ap (λ i. has i a.reads) (sym (same n k.0 k.2)) ∙ r))
    where
      same : (x y : ℕ) → (x == y) ≡ true → x ≡ y
      same x y e = eqb-true x y e

  touched-texts : (a : Asking) → reads_any (shape_of nodes) a kept.texts ≡ true → (n : ℕ) × (is_touched (shape_of nodes) kept.texts n ≡ true) × (has n a.reads ≡ true)
  touched-texts a r =
      let m = any-at (touches (shape_of nodes) a.reads) kept.texts r in
      let k = any-at (λ i. has i a.reads) (m.0 ∷ ancestors_of m.0 (shape_of nodes)) m.2 in
      (k.0, at-any (λ i. has k.0 (i ∷ ancestors_of i (shape_of nodes))) kept.texts m.1.0 m.0 m.1.1 (got-has k.0 k.1.0 (m.0 ∷ ancestors_of m.0 (shape_of nodes)) k.1.1), k.2)

  -- ---- pertinent entries

  begun-pertinent : (a : Asking) → is_begun (shape_of nodes) (changes_in kept) a ≡ true → pertinent a ≡ true
  begun-pertinent a h = or-left (is_begun (shape_of nodes) (changes_in kept) a) (reads_any (shape_of nodes) a (calculated_in (pertinent_of (shape_of nodes) (changes_in kept) asked))) h

  read-pertinent : (a c : Asking) (k : ℕ) → slice_get (askings scope (shape_of nodes) kept.entries) k ≡ Some c → pertinent c ≡ true → is_calculate c.entry ≡ true → touches (shape_of nodes) a.reads c.entry.node ≡ true → pertinent a ≡ true
  read-pertinent a c k at p q t =
      let f = at-filter pertinent (askings scope (shape_of nodes) kept.entries) k c at p in
      let g = at-filter (λ (x : Asking). is_calculate x.entry) (filter pertinent (askings scope (shape_of nodes) kept.entries)) f.0 c f.1 q in
      or-right (is_begun (shape_of nodes) (changes_in kept) a) (reads_any (shape_of nodes) a (calculated_in (pertinent_of (shape_of nodes) (changes_in kept) asked)))
      (ap (λ wave. reads_any (shape_of nodes) a (calculated_in wave)) (pertinent-stands (shape_of nodes) (changes_in kept) asked)
      ∙ at-any (touches (shape_of nodes) a.reads) (calculated_in (filter pertinent (askings scope (shape_of nodes) kept.entries))) g.0 c.entry.node
      (at-map (λ (x : Asking). x.entry.node) (filter (λ (x : Asking). is_calculate x.entry) (filter pertinent (askings scope (shape_of nodes) kept.entries))) g.0 c g.1) t)

  -- ---- what is reached is pertinent

  abbrev set : ℕ → Bool
  set place = passes_in (λ e. pertinent (asking scope (shape_of nodes) e)) (slice_get kept.entries place)

  abbrev hears : ℕ → Bool
  hears n = list_all (λ a. not (has n a.reads) || pertinent a) asked

  hears-all : (n : ℕ) → ((k : ℕ) (a : Asking) → slice_get (askings scope (shape_of nodes) kept.entries) k ≡ Some a → has n a.reads ≡ true → pertinent a ≡ true) → hears n ≡ true
  hears-all n h = at-all (λ a. not (has n a.reads) || pertinent a) (askings scope (shape_of nodes) kept.entries) (λ k a e. unless-not (has n a.reads) (pertinent a) (h k a e))

  set-place : (place : ℕ) (e : Entry) → slice_get kept.entries place ≡ Some e → is_computed e ≡ true → pertinent (asking scope (shape_of nodes) e) ≡ true → set place ≡ true
  set-place place e h c p = ap (passes_in (λ e. pertinent (asking scope (shape_of nodes) e))) h ∙ and-both (is_computed e) (pertinent (asking scope (shape_of nodes) e)) c p

  module _ (begun : List Bool) (touched : List ℕ) (are : AreBegun (map rule_of tables.binds) kept begun) (touches-is : (n : ℕ) → has n touched ≡ is_touched (shape_of nodes) kept.texts n) where
    starts : (place : ℕ) → is_marked begun place ≡ true → set place ≡ true
    starts place h = by (slice_get kept.entries place) refl (sym (are.each place) ∙ h)
      where
        by : (o : Option Entry) → slice_get kept.entries place ≡ o → is_begun_in (map rule_of tables.binds) (changes_in kept) o (asks_at kept.asks place) ≡ true → set place ≡ true
        by None e i = absurd (false≢true i)
        by (Some x) e i =
            let c = (and-parts (is_computed x) (is_begun_by (map rule_of tables.binds) (changes_in kept) x (asks_at kept.asks place)) i).0 in
            let a = asking scope (shape_of nodes) x in
            set-place place x e c
            (begun-pertinent a
            (skips (not (list_any (stands_as a) (changes_in kept).stood)) (reads_any (shape_of nodes) a kept.texts) (is_calculate x && has x.node kept.texts) (list_any (λ n. has n kept.lists) a.looks)
            (sym (begun-place place x e c) ∙ sym (are.each place) ∙ h)))

    hears-touched : (n : ℕ) → has n touched ≡ true → hears n ≡ true
    hears-touched n h = hears-all n (λ k a e r. begun-pertinent a
        (begins (not (list_any (stands_as a) (changes_in kept).stood)) (reads_any (shape_of nodes) a kept.texts) (is_calculate a.entry && has a.entry.node kept.texts) (list_any (λ n. has n kept.lists) a.looks)
        (texts-touched a n (sym (touches-is n) ∙ h) r)))

    hears-given : (place n : ℕ) → set place ≡ true → gives_at kept.entries kept.asks place n ≡ true → hears n ≡ true
    hears-given place n s g = by (slice_get kept.entries place) refl s g
      where
        by : (o : Option Entry) → slice_get kept.entries place ≡ o → passes_in (λ e. pertinent (asking scope (shape_of nodes) e)) o ≡ true → gives_in o (asks_at kept.asks place) n ≡ true → hears n ≡ true
        by None e i j = absurd (false≢true i)
        by (Some x) e i j =
            let p = and-parts (is_computed x) (pertinent (asking scope (shape_of nodes) x)) i in
            let q = and-parts (is_calculate x) (has n (x.node ∷ (asks_at kept.asks place).above)) j in
            let here = asked-at place x e p.0 in
            let k = any-at (λ m. n == m) (x.node ∷ ancestors_of x.node (shape_of nodes))
            (ap (λ (asks : Asks). has n (x.node ∷ asks.above)) (sym (asks-kept place x e ∙ computed-asks x p.0)) ∙ q.1) in
            hears-all n (λ j a h r.
            read-pertinent a (asking scope (shape_of nodes) x) here.0 here.1 p.1 q.0
            (at-any (λ m. has m a.reads) (x.node ∷ ancestors_of x.node (shape_of nodes)) k.1.0 k.0 k.1.1 (ap (λ m. has m a.reads) (sym (eqb-true n k.0 k.2)) ∙ r)))

    reads-set : (place n : ℕ) → hears n ≡ true → reads_at kept.entries kept.asks place n ≡ true → set place ≡ true
    reads-set place n h r = by (slice_get kept.entries place) refl r
      where
        of-computed : (x : Entry) → slice_get kept.entries place ≡ Some x → (b : Bool) → is_computed x ≡ b → has n (asks_by scope (shape_of nodes) x b).reads ≡ true → set place ≡ true
        of-computed x e true c i =
            let here = asked-at place x e c in
            set-place place x e c
            (not-unless (has n (reads_of scope (shape_of nodes) x)) (pertinent (asking scope (shape_of nodes) x))
            (all-at (λ a. not (has n a.reads) || pertinent a) (askings scope (shape_of nodes) kept.entries) here.0 (asking scope (shape_of nodes) x) h here.1) i)
        of-computed x e false c i = absurd (false≢true i)

        by : (o : Option Entry) → slice_get kept.entries place ≡ o → reads_in o (asks_at kept.asks place) n ≡ true → set place ≡ true
        by None e i = absurd (false≢true i)
        by (Some x) e i = of-computed x e (is_computed x) refl (ap (λ (asks : Asks). has n asks.reads) (sym (asks-kept place x e)) ∙ i)

    closed : IsClosed kept.entries kept.asks (is_marked begun) (λ n. has n touched) set hears
    closed = record { starts = starts; touches = hears-touched; gives = hears-given; reads = reads-set }

    -- ---- what is pertinent is reached

    module _ (marks : List Bool) (heard : List ℕ) (spread : IsSpread kept.entries kept.asks (is_marked begun) (λ n. has n touched) marks heard) where
      abbrev met : Asking → Bool
      met a = is_begun (shape_of nodes) (changes_in kept) a || list_any (λ n. has n a.reads) heard

      heard-marked : (place n : ℕ) (e : Entry) → slice_get kept.entries place ≡ Some e → is_computed e ≡ true → has n heard ≡ true → has n (reads_of scope (shape_of nodes) e) ≡ true → is_marked marks place ≡ true
      heard-marked place n e h c t r = spread.closed.reads place n t (reads-place place n e h c r)

      met-marked : (place : ℕ) (e : Entry) → slice_get kept.entries place ≡ Some e → is_computed e ≡ true → met (asking scope (shape_of nodes) e) ≡ true → is_marked marks place ≡ true
      met-marked place e h c m =
          let a = asking scope (shape_of nodes) e in
          elim (or-cases (is_begun (shape_of nodes) (changes_in kept) a) (list_any (λ n. has n a.reads) heard) m) [
            | inl b ↦ elim (takes-apart (not (list_any (stands_as a) (changes_in kept).stood)) (reads_any (shape_of nodes) a kept.texts) (is_calculate e && has e.node kept.texts) (list_any (λ n. has n kept.lists) a.looks) b) [
              | inl alone ↦ spread.closed.starts place (are.each place ∙ begun-place place e h c ∙ alone)
              | inr texts ↦ let t = touched-texts a texts in heard-marked place t.0 e h c (spread.closed.touches t.0 (touches-is t.0 ∙ t.1)) t.2
            ]
            | inr r ↦ let k = any-at (λ n. has n a.reads) heard r in heard-marked place k.0 e h c (got-has k.0 k.1.0 heard k.1.1) k.2
          ]

      met-closed : (a : Asking) → follows (shape_of nodes) (changes_in kept) (filter met asked) a ≡ true → met a ≡ true
      met-closed a h =
          elim (or-cases (is_begun (shape_of nodes) (changes_in kept) a) (reads_any (shape_of nodes) a (calculated_in (filter met asked))) h) [
            | inl b ↦ or-left (is_begun (shape_of nodes) (changes_in kept) a) (list_any (λ n. has n a.reads) heard) b
            | inr r ↦
                let n = any-at (touches (shape_of nodes) a.reads) (calculated_in (filter met asked)) r in
                let c = map-at (λ (x : Asking). x.entry.node) (filter (λ (x : Asking). is_calculate x.entry) (filter met asked)) n.1.0 n.0 n.1.1 in
                let q = filter-at (λ (x : Asking). is_calculate x.entry) (filter met asked) c.1.0 c.0 c.1.1 in
                let p = filter-at met asked q.0.0 c.0 q.0.1 in
                let e = at-asked p.0.0 c.0 p.0.1 in
                let place = e.1.0 in
                let marked = met-marked place e.0 e.1.1 e.2 (ap met e.3 ∙ p.1) in
                let node : e.0.node ≡ n.0 = ap (λ (x : Asking). x.entry.node) e.3 ∙ c.2 in
                let k = any-at (λ m. has m a.reads) (e.0.node ∷ ancestors_of e.0.node (shape_of nodes)) (ap (touches (shape_of nodes) a.reads) node ∙ n.2) in
                let given = gives-place place k.0 e.0 e.1.1 e.2 (ap (λ (x : Asking). is_calculate x.entry) e.3 ∙ q.1) (got-has k.0 k.1.0 (e.0.node ∷ ancestors_of e.0.node (shape_of nodes)) k.1.1) in
                let there = has-got k.0 heard (spread.closed.gives place k.0 marked given) in
                or-right (is_begun (shape_of nodes) (changes_in kept) a) (list_any (λ n. has n a.reads) heard) (at-any (λ m. has m a.reads) heard there.0 k.0 there.1 k.2)
          ]

      pertinent-marked : (place : ℕ) → set place ≡ true → is_marked marks place ≡ true
      pertinent-marked place s = by (slice_get kept.entries place) refl s
        where
          by : (o : Option Entry) → slice_get kept.entries place ≡ o → passes_in (λ e. pertinent (asking scope (shape_of nodes) e)) o ≡ true → is_marked marks place ≡ true
          by None e i = absurd (false≢true i)
          by (Some x) e i =
              let p = and-parts (is_computed x) (pertinent (asking scope (shape_of nodes) x)) i in
              let here = asked-at place x e p.0 in
              met-marked place x e p.0
              (each-at (PassesMore pertinent met) asked here.0 (asking scope (shape_of nodes) x)
              (pertinent-least (shape_of nodes) (changes_in kept) asked met (at-each (λ a. follows (shape_of nodes) (changes_in kept) (filter met asked) a ≡ true → met a ≡ true) asked (λ k a e. met-closed a)))
              here.1 p.1)

      pub marked : marks ≡ pertinent_marks scope (shape_of nodes) kept.entries (changes_in kept)
      marked = marks-same (asking scope (shape_of nodes)) pertinent kept.entries marks spread.size
          (λ place. both-ways (is_marked marks place) (set place) ((spread.least set hears closed).places place) (pertinent-marked place))

-- ---- as many as are marked

pub counted : (scope : Scope) (all : List Visit) (entries : List Entry) (changes : Changes) (marks : List Bool) → marks ≡ pertinent_marks scope all entries changes →
    length (filter (λ mark. mark) marks) ≡ pertinent_count scope all entries changes
counted scope all entries changes marks is =
    ap (λ ms. length (filter (λ mark. mark) ms)) is
    ∙ marks-counted (asking scope all) (is_pertinent all changes (askings scope all entries)) entries (pertinent_marks scope all entries changes)
    (mapped-length (is_evaluated scope all entries changes) entries) (marked-place (asking scope all) (is_pertinent all changes (askings scope all entries)) entries)
    ∙ ap length (sym (pertinent-stands all changes (askings scope all entries)))
    ∙ sym (mapped-length (λ (a : Asking). a.entry) (pertinent_of all changes (askings scope all entries)))
