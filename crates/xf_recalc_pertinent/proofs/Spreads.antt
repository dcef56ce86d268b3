-- How marks and numbers of nodes spread, step by step.
use Rattle.std.proofs.Common.{◌≡◌, ℕ, zero, suc, ◌+◌, ◌<◌, ◌≤◌, ◌==◌, Bool, true, false, cond, ◌&&◌, ◌||◌, inl, inr, List, [], ◌∷◌, take, length, Option, Some, None, slice_get, slice_set, refl, sym, ap, ◌∙◌, subst, arith}
use Rattle.std.proofs.lemmas.Bool.{eqb-true, false≢true}
use Rattle.std.proofs.lemmas.Bool.Decides.{nat_tests}
use Rattle.xf_def_forest.specs.Visit.{has}
use Rattle.xf_def_model.specs.Applied.{Entry}
use Rattle.xf_binds.specs.declared.web.Asks.{Asks}
use Rattle.xf_recalc_pertinent.specs.Places.{asks_at, gives_at, is_marked, reads_at, reads_in}
use Rattle.xf_recalc_pertinent.specs.Spread.{Hears, IsClosed, IsGiven, IsSpread, IsWithin, Reaches, gives_before}
use Rattle.xf_recalc_pertinent.proofs.Lists.{and-both, and-parts, got-has, got-within, grown-got, grown-more, grown-none, has-got, next-is, or-cases, or-left, or-right, some-same}

-- ---- marks

pub marked-within : (marks : List Bool) (place : ℕ) → is_marked marks place ≡ true → place < length marks
marked-within [] place h = absurd (false≢true h)
marked-within (m ∷ ms) zero h = omega arith
marked-within (m ∷ ms) (suc place) h = (let l = marked-within ms place h in omega arith)

one-less : (i o : ℕ) → (suc i == suc o) ≡ (i == o)
one-less i o = grind (arith, nat_tests)

pub marked-set : (marks : List Bool) (place other : ℕ) → place < length marks → is_marked (slice_set marks place true) other ≡ ((other == place) || is_marked marks other)
marked-set [] place other l = absurd (omega arith)
marked-set (m ∷ ms) zero zero l = refl
marked-set (m ∷ ms) zero (suc other) l = ap (λ b. b || is_marked ms other) (let e : false ≡ (suc other == 0) = grind (arith, nat_tests) in e)
marked-set (m ∷ ms) (suc place) zero l = ap (λ b. b || m) (let e : false ≡ (0 == suc place) = grind (arith, nat_tests) in e)
marked-set (m ∷ ms) (suc place) (suc other) l = marked-set ms place other (omega arith) ∙ ap (λ b. b || is_marked ms other) (sym (one-less other place))

pub set-length : (marks : List Bool) (place : ℕ) → length (slice_set marks place true) ≡ length marks
set-length [] place = refl
set-length (m ∷ ms) zero = refl
set-length (m ∷ ms) (suc place) = ap suc (set-length ms place)

pub read-within : (entries : List Entry) (web : List Asks) (place n : ℕ) → reads_at entries web place n ≡ true → place < length entries
read-within entries web place n h = by (slice_get entries place) refl h
  where
    by : (o : Option Entry) → slice_get entries place ≡ o → reads_in o (asks_at web place) n ≡ true → place < length entries
    by None e i = absurd (false≢true i)
    by (Some x) e i = got-within entries place x e

module _ (entries : List Entry) (web : List Asks) where
  -- ---- what marked entries give

  pub before-some : (marks : List Bool) (k place n : ℕ) → place < k → is_marked marks place ≡ true → gives_at entries web place n ≡ true → gives_before entries web marks k n ≡ true
  before-some marks zero place n l m g = absurd (omega arith)
  before-some marks (suc k) place n l m g = by (place == k) refl (λ less. before-some marks k place n less m g)
    where
      by : (b : Bool) → (place == k) ≡ b → (place < k → gives_before entries web marks k n ≡ true) → gives_before entries web marks (suc k) n ≡ true
      by true e rest =
          or-left (is_marked marks k && gives_at entries web k n) (gives_before entries web marks k n)
          (subst (λ i. (is_marked marks i && gives_at entries web i n) ≡ true) (eqb-true place k e) (and-both (is_marked marks place) (gives_at entries web place n) m g))
      by false e rest =
          or-right (is_marked marks k && gives_at entries web k n) (gives_before entries web marks k n)
          (rest (let less : place < k = grind (arith, nat_tests, e, l) in less))

  pub before-given : (marks : List Bool) (k n : ℕ) → gives_before entries web marks k n ≡ true → IsGiven entries web (is_marked marks) n
  before-given marks zero n h = absurd (false≢true h)
  before-given marks (suc k) n h = elim (or-cases (is_marked marks k && gives_at entries web k n) (gives_before entries web marks k n) h) [
    | inl both ↦ let p = and-parts (is_marked marks k) (gives_at entries web k n) both in (k, p.0, p.1)
    | inr rest ↦ before-given marks k n rest
  ]

  pub before-next : (marks : List Bool) (place n : ℕ) (b : Bool) → is_marked marks place ≡ b → gives_before entries web marks (place + 1) n ≡ ((b && gives_at entries web place n) || gives_before entries web marks place n)
  before-next marks place n b h =
      ap (λ k. gives_before entries web marks k n) (next-is place) ∙ ap (λ c. (c && gives_at entries web place n) || gives_before entries web marks place n) h

  -- ---- entries that are reached

  pub reaches-none : (marks : List Bool) (heard : List ℕ) (test : ℕ → Bool) → ((place : ℕ) → test place ≡ false) → Reaches entries web marks marks heard heard test
  reaches-none marks heard test h = record {
    size = refl;
    marks = λ place. ap (λ b. b || is_marked marks place) (sym (h place));
    grown = grown-none heard;
    given = λ place n t m g. absurd (false≢true (sym (h place) ∙ t));
    only = λ n new old. absurd (false≢true (sym old ∙ new));
  }

  pub reaches-as : (marks new : List Bool) (heard more : List ℕ) (one other : ℕ → Bool) → Reaches entries web marks new heard more one → ((place : ℕ) → one place ≡ other place) → Reaches entries web marks new heard more other
  reaches-as marks new heard more one other h same = record {
    size = h.size;
    marks = λ place. h.marks place ∙ ap (λ b. b || is_marked marks place) (same place);
    grown = h.grown;
    given = λ place n t m g. h.given place n (same place ∙ t) m g;
    only = λ n there before. let f = h.only n there before in (f.0, sym (same f.0) ∙ f.1, f.2);
  }

  pub reaches-same : (marks : List Bool) (heard : List ℕ) (place : ℕ) → is_marked marks place ≡ true → Reaches entries web marks marks heard heard (λ other. other == place)
  reaches-same marks heard place h = record {
    size = refl;
    marks = λ other. by other (other == place) refl;
    grown = grown-none heard;
    given = λ other n t m g. absurd (false≢true (sym m ∙ ap (is_marked marks) (eqb-true other place t) ∙ h));
    only = λ n new old. absurd (false≢true (sym old ∙ new));
  }
    where
      by : (other : ℕ) (b : Bool) → (other == place) ≡ b → is_marked marks other ≡ (b || is_marked marks other)
      by other true e = ap (is_marked marks) (eqb-true other place e) ∙ h
      by other false e = refl

  pub reaches-one : (marks new : List Bool) (heard more : List ℕ) (place : ℕ) → place < length marks → is_marked marks place ≡ false → Hears heard more (gives_at entries web place) → new ≡ slice_set marks place true
      → Reaches entries web marks new heard more (λ other. other == place)
  reaches-one marks new heard more place within free hears is = record {
    size = ap length is ∙ set-length marks place;
    marks = λ other. ap (λ l. is_marked l other) is ∙ marked-set marks place other within;
    grown = hears.grown;
    given = λ other n t m g. hears.members n ∙ or-left (gives_at entries web place n) (has n heard) (ap (λ i. gives_at entries web i n) (sym (eqb-true other place t)) ∙ g);
    only = λ n new old. (place, (let s : (place == place) ≡ true = grind (arith, nat_tests) in s), given-left (gives_at entries web place n) (has n heard) old (sym (hears.members n) ∙ new));
  }
    where
      given-left : (a b : Bool) → b ≡ false → (a || b) ≡ true → a ≡ true
      given-left true b h i = refl
      given-left false b h i = absurd (false≢true (sym h ∙ i))

  pub reaches-more : (old mid new : List Bool) (old_heard mid_heard heard : List ℕ) (first second both : ℕ → Bool) → Reaches entries web old mid old_heard mid_heard first → Reaches entries web mid new mid_heard heard second
      → ((place : ℕ) → both place ≡ (second place || first place)) → Reaches entries web old new old_heard heard both
  reaches-more old mid new old_heard mid_heard heard first second both h k e = record {
    size = k.size ∙ h.size;
    marks = λ place. k.marks place ∙ ap (λ b. second place || b) (h.marks place) ∙ or-three (second place) (first place) (is_marked old place) ∙ ap (λ b. b || is_marked old place) (sym (e place));
    grown = grown-more old_heard mid_heard heard h.grown k.grown;
    given = λ place n t m g. elim (or-cases (second place) (first place) (sym (e place) ∙ t)) [
      | inl s ↦ late place n s m g (is_marked mid place) refl
      | inr f ↦ stays n (h.given place n f m g)
    ];
    only = λ n there before. earlier n there before (has n mid_heard) refl;
  }
    where
      or-three : (a b c : Bool) → (a || (b || c)) ≡ ((a || b) || c)
      or-three true b c = refl
      or-three false b c = refl

      stays : (n : ℕ) → has n mid_heard ≡ true → has n heard ≡ true
      stays n t =
          let f = has-got n mid_heard t in
          got-has n f.0 heard (grown-got mid_heard heard f.0 k.grown (got-within mid_heard f.0 n f.1) ∙ f.1)

      late : (place n : ℕ) → second place ≡ true → is_marked old place ≡ false → gives_at entries web place n ≡ true → (b : Bool) → is_marked mid place ≡ b → has n heard ≡ true
      late place n s m g true b = stays n (h.given place n (by-first (first place) (is_marked old place) m (sym (h.marks place) ∙ b)) m g)
        where
          by-first : (x y : Bool) → y ≡ false → (x || y) ≡ true → x ≡ true
          by-first true y o i = refl
          by-first false y o i = absurd (false≢true (sym o ∙ i))
      late place n s m g false b = k.given place n s b g

      earlier : (n : ℕ) → has n heard ≡ true → has n old_heard ≡ false → (b : Bool) → has n mid_heard ≡ b → IsGiven entries web both n
      earlier n there before true b = let f = h.only n b before in (f.0, e f.0 ∙ or-right (second f.0) (first f.0) f.1, f.2)
      earlier n there before false b = let f = k.only n there b in (f.0, e f.0 ∙ or-left (second f.0) (first f.0) f.1, f.2)

  -- ---- on the way

  -- the readers of the nodes before a place are marked
  pub record IsSpreading (begun touched : ℕ → Bool) (marks : List Bool) (heard : List ℕ) (at : ℕ) : Type 0 where
    pub size : length marks ≡ length entries
    pub starts : (place : ℕ) → begun place ≡ true → is_marked marks place ≡ true
    pub touches : (n : ℕ) → touched n ≡ true → has n heard ≡ true
    pub gives : (place n : ℕ) → is_marked marks place ≡ true → gives_at entries web place n ≡ true → has n heard ≡ true
    pub reads : (i place n : ℕ) → i < at → slice_get heard i ≡ Some n → reads_at entries web place n ≡ true → is_marked marks place ≡ true
    pub least : (set hears : ℕ → Bool) → IsClosed entries web begun touched set hears → IsWithin marks heard set hears

  pub spreading-first : (begun : List Bool) (touched heard : List ℕ) → length begun ≡ length entries → Hears touched heard (gives_before entries web begun (length begun))
      → IsSpreading (is_marked begun) (λ n. has n touched) begun heard 0
  spreading-first begun touched heard size hears = record {
    size = size;
    starts = λ place h. h;
    touches = λ n h. hears.members n ∙ or-right (gives_before entries web begun (length begun) n) (has n touched) h;
    gives = λ place n m g. hears.members n ∙ or-left (gives_before entries web begun (length begun) n) (has n touched) (before-some begun (length begun) place n (marked-within begun place m) m g);
    reads = λ i place n l e r. absurd (omega (arith, l));
    least = λ set inside closed. record {
      places = λ place h. closed.starts place h;
      nodes = λ n h. elim (or-cases (gives_before entries web begun (length begun) n) (has n touched) (sym (hears.members n) ∙ h)) [
        | inl g ↦ let f = before-given begun (length begun) n g in closed.gives f.0 n (closed.starts f.0 f.1) f.2
        | inr t ↦ closed.touches n t
      ];
    };
  }

  pub spreading-next : (begun touched : ℕ → Bool) (marks new : List Bool) (heard more : List ℕ) (at number : ℕ) (test : ℕ → Bool) → IsSpreading begun touched marks heard at → slice_get heard at ≡ Some number
      → ((place : ℕ) → test place ≡ reads_at entries web place number) → Reaches entries web marks new heard more test → IsSpreading begun touched new more (at + 1)
  spreading-next begun touched marks new heard more at number test so here tells step = record {
    size = step.size ∙ so.size;
    starts = λ place h. marked place (so.starts place h);
    touches = λ n h. stays n (so.touches n h);
    gives = λ place n m g. given place n g (is_marked marks place) refl m;
    reads = λ i place n l e r. read i place n e r (i == at) refl l;
    least = λ set inside closed. let low = so.least set inside closed in record {
      places = λ place h. elim (or-cases (test place) (is_marked marks place) (sym (step.marks place) ∙ h)) [
        | inl t ↦ reached set inside closed low place t
        | inr m ↦ low.places place m
      ];
      nodes = λ n h. node set inside closed low n h (has n heard) refl;
    };
  }
    where
      marked : (place : ℕ) → is_marked marks place ≡ true → is_marked new place ≡ true
      marked place h = step.marks place ∙ or-right (test place) (is_marked marks place) h

      stays : (n : ℕ) → has n heard ≡ true → has n more ≡ true
      stays n t =
          let f = has-got n heard t in
          got-has n f.0 more (grown-got heard more f.0 step.grown (got-within heard f.0 n f.1) ∙ f.1)

      given : (place n : ℕ) → gives_at entries web place n ≡ true → (b : Bool) → is_marked marks place ≡ b → is_marked new place ≡ true → has n more ≡ true
      given place n g true b m = stays n (so.gives place n b g)
      given place n g false b m = step.given place n (first (test place) (is_marked marks place) b (sym (step.marks place) ∙ m)) b g
        where
          first : (x y : Bool) → y ≡ false → (x || y) ≡ true → x ≡ true
          first true y o i = refl
          first false y o i = absurd (false≢true (sym o ∙ i))

      there : at < length heard
      there = got-within heard at number here

      read : (i place n : ℕ) → slice_get more i ≡ Some n → reads_at entries web place n ≡ true → (b : Bool) → (i == at) ≡ b → i < at + 1 → is_marked new place ≡ true
      read i place n e r true b l =
          let same : n ≡ number = some-same (sym e ∙ ap (slice_get more) (eqb-true i at b) ∙ grown-got heard more at step.grown there ∙ here) in
          step.marks place ∙ or-left (test place) (is_marked marks place) (tells place ∙ ap (reads_at entries web place) (sym same) ∙ r)
      read i place n e r false b l =
          let less : i < at = grind (arith, nat_tests, b, l) in
          let t = there in
          marked place (so.reads i place n less (sym (grown-got heard more i step.grown (omega (arith, less, t))) ∙ e) r)

      reached : (set inside : ℕ → Bool) → IsClosed entries web begun touched set inside → IsWithin marks heard set inside → (place : ℕ) → test place ≡ true → set place ≡ true
      reached set inside closed low place t = closed.reads place number (low.nodes number (got-has number at heard here)) (sym (tells place) ∙ t)

      node : (set inside : ℕ → Bool) → IsClosed entries web begun touched set inside → IsWithin marks heard set inside → (n : ℕ) → has n more ≡ true → (b : Bool) → has n heard ≡ b → inside n ≡ true
      node set inside closed low n h true b = low.nodes n b
      node set inside closed low n h false b =
          let f = step.only n h b in
          closed.gives f.0 n (reached set inside closed low f.0 f.1) f.2

  -- no node is left
  pub spread-all : (begun touched : ℕ → Bool) (marks : List Bool) (heard : List ℕ) (at : ℕ) → IsSpreading begun touched marks heard at → length heard ≤ at → IsSpread entries web begun touched marks heard
  spread-all begun touched marks heard at so past = record {
    size = so.size;
    closed = record {
      starts = so.starts;
      touches = so.touches;
      gives = so.gives;
      reads = λ place n h r. let f = has-got n heard h in so.reads f.0 place n (let l = got-within heard f.0 n f.1 in omega (arith, l, past)) f.1 r;
    };
    least = so.least;
  }
