-- What an expression asks, where no list that it looks at is marked: the induction over expressions.
use Rattle.std.proofs.Common.{◌≡◌, ℕ, zero, suc, ◌==◌, Bool, true, false, List, [], ◌∷◌, map, Option, Some, None, option_map, refl, sym, ap, ◌∙◌, subst, inl, inr}
use Rattle.std.specs.Prelude.{◌⊎◌}
use Rattle.std.specs.List.{flat_map}
use Rattle.std.proofs.lemmas.Bool.{eqb-true}
use Rattle.xf_def_syntax.specs.declared.expr.Expr.{Expr}
use Rattle.xf_def_syntax.specs.declared.expr.Expr.TheOpen.{Expr-F}
use Rattle.xf_def_syntax.specs.declared.expr.Expr.TheFolds.{map-Expr, map-Step}
use Rattle.xf_def_syntax.specs.declared.expr.Start.{Start}
use Rattle.xf_def_syntax.specs.declared.expr.Start.TheVariants.{Root, Context}
use Rattle.xf_def_forest.specs.Visit.{Visit, has, above_in, last_of, top_of}
use Rattle.xf_def_forest.proofs.BackLaws.{and-true}
use Rattle.xf_def_xpath.specs.Given.{document_of}
use Rattle.xf_def_xpath.specs.Setting.{Setting, Focus}
use Rattle.xf_def_xpath.specs.Conversions.{nodes_of}
use Rattle.xf_def_xpath.specs.Functions.{set_of, instance_id}
use Rattle.xf_def_xpath.specs.Steps.{begun}
use Rattle.xf_def_xpath.specs.Table.{Function, function_at}
use Rattle.xf_def_xpath.specs.Table as of
use Rattle.xf_def_xpath.specs.Asked.{Asked, Trace, LinkTrace, WalkTrace, found, list_around, tightly, converted}
use Rattle.xf_def_xpath.specs.AskedSteps.{walks_asked}
use Rattle.xf_def_xpath.specs.AskedCalls as asked
use Rattle.xf_def_xpath.specs.Reads.{expr_trace, link_trace, step_trace, trace}
use Rattle.xf_def_xpath.specs.Exact.{Facts, LinkFacts, all_placed, all_exact, call_facts, links_placed, links_exact, expr_facts, link_facts}
use Rattle.xf_def_xpath.proofs.PairKeeps.{pair_keeps}
use Rattle.xf_def_xpath.proofs.VisitFacts.{self-same, or-cases, or-left, or-right, no}
use Rattle.xf_law_recalculation.specs.Agree.Covered.{is_covered, facts_of, step_facts}
use Rattle.xf_law_recalculation.proofs.MarksLemmas.Reached.{Among, Free, IsClosed, Surrounded, AskedAmong, none-in, one-in, joined-in, flat-in, free-left, free-right, free-at, plainly-among, plain-among, truth-among, both-among, converted-among, all-among, either-among, computed-among, link-among, filtered-among, step-among, around-in}

abbrev is_event : Function → Bool
is_event of.event = true
is_event g = false

abbrev Covered : Facts → Type 0
Covered f = (f.is_exact ≡ true) ⊎ (f.is_placed ≡ true)

module _ (Q : ℕ → Type 0) (marked : ℕ → Bool) where
  -- ---- calls, chains and paths

  abbrev TraceAmong : Trace → Type 0
  TraceAmong t = (s : Setting) → IsClosed Q marked s.all → (c : Focus) → Surrounded Q marked s c → AskedAmong Q marked (t.asked s c)

  abbrev WalkAmong : WalkTrace → Type 0
  WalkAmong t = (s : Setting) → IsClosed Q marked s.all → (a : Asked) → AskedAmong Q marked a → AskedAmong Q marked (t.asked s a)

  abbrev SuchTrace : Type 0
  SuchTrace = (t : Trace) × TraceAmong t

  abbrev SuchLink : Type 0
  SuchLink = (l : LinkTrace) × TraceAmong l.right

  abbrev SuchWalk : Type 0
  SuchWalk = (t : WalkTrace) × WalkAmong t

  abbrev traces : List SuchTrace → List Trace
  traces ts = map (λ (t : SuchTrace). t.0) ts

  module _ (s : Setting) (closed : IsClosed Q marked s.all) (c : Focus) (h : Surrounded Q marked s c) where
    argument-among : (place : ℕ) (ts : List SuchTrace) → AskedAmong Q marked (asked.argument place (traces ts) s c)
    argument-among place [] = plainly-among Q marked s closed [] [] (λ f. none-in Q marked)
    argument-among zero (t ∷ ts) = t.1 s closed c h
    argument-among (suc place) (t ∷ ts) = argument-among place ts

    own-among : (ts : List SuchTrace) → AskedAmong Q marked (asked.own_argument (traces ts) s c)
    own-among [] = record { set = λ f. one-in Q marked c.node h.node; looks = λ f. none-in Q marked }
    own-among (t ∷ ts) = t.1 s closed c h

    converted-all : (ts : List SuchTrace) → AskedAmong Q marked (asked.all_converted (traces ts) s c)
    converted-all [] = plainly-among Q marked s closed [] [] (λ f. none-in Q marked)
    converted-all (t ∷ ts) = both-among Q marked s closed _ _ (converted-among Q marked s closed (t.0.asked s c) (t.1 s closed c h)) (converted-all ts)

    documents-in : (m : Option (List ℕ)) (k : ℕ) → has k (asked.nodes_if (option_map (λ id. set_of (document_of s.model id s.given.documents)) m)) ≡ true → Free marked (list_around s.all k) → Q k
    documents-in None k i f = no i
    documents-in (Some id) k i f = by (document_of s.model id s.given.documents) refl i
      where
        by : (o : Option ℕ) → document_of s.model id s.given.documents ≡ o → has k (nodes_of (set_of o)) ≡ true → Q k
        by None e j = no j
        by (Some n) e j = elim (or-cases (k == n) false j) [
          | inl a ↦
              let same : k ≡ n = eqb-true k n a in
              h.documents id k (e ∙ ap Some (sym same)) f
          | inr b ↦ no b
        ]

    instance-among : (ts : List SuchTrace) → AskedAmong Q marked (asked.call_asked of.instance 0 (traces ts) s c)
    instance-among ts = record {
      set = λ f. here (free-right Q marked (asked.all_converted (traces ts) s c).looks (flat_map (list_around s.all) ns) f);
      looks = λ f.
          let own = free-left Q marked (asked.all_converted (traces ts) s c).looks (flat_map (list_around s.all) ns) f in
          let around = free-right Q marked (asked.all_converted (traces ts) s c).looks (flat_map (list_around s.all) ns) f in
          joined-in Q marked (asked.all_converted (traces ts) s c).looks (flat_map (list_around s.all) ns) ((converted-all ts).looks own) (flat-in Q marked (list_around s.all) ns (λ n j. around-in Q marked s closed n (here around n j)));
    }
      where
        ns : List ℕ
        ns = asked.nodes_if (option_map (λ id. set_of (document_of s.model id s.given.documents)) (instance_id (asked.meanings (traces ts)) s c))

        here : Free marked (flat_map (list_around s.all) ns) → Among Q ns
        here f k i = documents-in (instance_id (asked.meanings (traces ts)) s c) k i (free-at Q marked (list_around s.all) k ns i f)

    call-among : (g : Function) → is_event g ≡ false → (code : ℕ) (ts : List SuchTrace) → AskedAmong Q marked (asked.call_asked g code (traces ts) s c)
    call-among of.asking i code ts = truth-among Q marked s closed _ (converted-all ts)
    call-among of.plainly i code ts = converted-all ts
    call-among of.owning i code ts = converted-among Q marked s closed _ (own-among ts)
    call-among of.boolean i code ts = truth-among Q marked s closed _ (argument-among 0 ts)
    call-among of.not i code ts = truth-among Q marked s closed _ (argument-among 0 ts)
    call-among (of.truth b) i code ts = record { set = λ f. none-in Q marked; looks = λ f. none-in Q marked }
    call-among of.choosing i code ts = either-among Q marked s closed _ _ (plain-among Q marked s closed _ (argument-among 0 ts)) (either-among Q marked s closed _ _ (argument-among 1 ts) (argument-among 2 ts))
    call-among of.branching i code ts = both-among Q marked s closed _ _ (argument-among 0 ts) (computed-among Q marked s closed _ _ (argument-among 1 ts) (argument-among 2 ts))
    call-among of.counting i code ts = plain-among Q marked s closed _ (argument-among 0 ts)
    call-among of.counting_filled i code ts = all-among Q marked s closed _ (argument-among 0 ts)
    call-among of.adding i code ts = all-among Q marked s closed _ (argument-among 0 ts)
    call-among of.averaging i code ts = all-among Q marked s closed _ (argument-among 0 ts)
    call-among of.greatest i code ts = all-among Q marked s closed _ (argument-among 0 ts)
    call-among of.least i code ts = all-among Q marked s closed _ (argument-among 0 ts)
    call-among of.local_name i code ts = plain-among Q marked s closed _ (own-among ts)
    call-among of.name i code ts = plain-among Q marked s closed _ (own-among ts)
    call-among of.namespace i code ts = plain-among Q marked s closed _ (own-among ts)
    call-among of.number i code ts = converted-among Q marked s closed _ (own-among ts)
    call-among of.string i code ts = converted-among Q marked s closed _ (own-among ts)
    call-among of.current i code ts = record { set = λ f. one-in Q marked s.current h.current; looks = λ f. none-in Q marked }
    call-among of.event i code ts = no (sym i)
    call-among of.index i code ts = converted-all ts
    call-among of.instance i code ts = record { set = (instance-among ts).set; looks = (instance-among ts).looks }
    call-among of.last i code ts = plainly-among Q marked s closed [] [] (λ f. none-in Q marked)
    call-among of.position i code ts = plainly-among Q marked s closed [] [] (λ f. none-in Q marked)

    links-among : (ls : List SuchLink) (a : Asked) → AskedAmong Q marked a → AskedAmong Q marked (asked.links_asked (map (λ (l : SuchLink). l.0) ls) s c a)
    links-among [] a i = i
    links-among (l ∷ ls) a i = links-among ls _ (link-among Q marked s closed l.0.operator a (l.0.right.asked s c) i (l.1 s closed c h))

    walks-among : (ws : List SuchWalk) (a : Asked) → AskedAmong Q marked a → AskedAmong Q marked (walks_asked s (map (λ (t : SuchWalk). t.0) ws) a)
    walks-among [] a i = record { set = i.set; looks = i.looks }
    walks-among (t ∷ ws) a i = walks-among ws (t.0.asked s a) (t.1 s closed a i)

    top-in : Q (top_of c.node s.all)
    top-in = by (found c.node s.all) refl
      where
        last : (n : ℕ) (ns : List ℕ) → (last_of n ns ≡ n) ⊎ (has (last_of n ns) ns ≡ true)
        last n [] = inl refl
        last n (m ∷ ms) = elim (last m ms) [
          | inl e ↦ inr (or-left (last_of m ms == m) (has (last_of m ms) ms) (ap (λ k. k == m) e ∙ self-same m))
          | inr i ↦ inr (or-right (last_of m ms == m) (has (last_of m ms) ms) i)
        ]

        by : (m : Option Visit) → found c.node s.all ≡ m → Q (last_of c.node (above_in m))
        by None e = h.node
        by (Some x) e = elim (last c.node x.above) [ inl i ↦ subst Q (sym i) h.node | inr j ↦ closed.up c.node x e h.node (last_of c.node x.above) j ]

    begun-among : (start : Start) → AskedAmong Q marked (tightly (begun start s c))
    begun-among Root = record { set = λ f. one-in Q marked (top_of c.node s.all) top-in; looks = λ f. none-in Q marked }
    begun-among Context = record { set = λ f. one-in Q marked c.node h.node; looks = λ f. none-in Q marked }

  -- ---- every expression that the law of two forests covers, and every one that goes by position

  abbrev PairAmong : Facts → Trace → Type 0
  PairAmong f t = Covered f → TraceAmong t

  abbrev LinkAmong : LinkFacts → LinkTrace → Type 0
  LinkAmong l t = Covered l.right → TraceAmong t.right

  abbrev StepAmong : Bool → WalkTrace → Type 0
  StepAmong b t = WalkAmong t

  abbrev Pair : Type 0
  Pair = (f : Facts) × (t : Trace) × PairAmong f t

  abbrev LinkPair : Type 0
  LinkPair = (l : LinkFacts) × (t : LinkTrace) × LinkAmong l t

  abbrev StepPair : Type 0
  StepPair = (b : Bool) × (t : WalkTrace) × StepAmong b t

  abbrev SuchTraces : List Pair → Type 0
  SuchTraces ks = (ts : List SuchTrace) × (map (λ (t : SuchTrace). t.0) ts ≡ map (λ (k : Pair). k.1) ks)

  exacts : (ks : List Pair) → all_exact (map (λ (k : Pair). k.0) ks) ≡ true → SuchTraces ks
  exacts [] h = ([], refl)
  exacts (k ∷ ks) h = let rest = exacts ks (and-true _ _ h).1 in ((k.1, k.2 (inl (and-true _ _ h).0)) ∷ rest.0, ap (λ l. k.1 ∷ l) rest.1)

  placeds : (ks : List Pair) → all_placed (map (λ (k : Pair). k.0) ks) ≡ true → SuchTraces ks
  placeds [] h = ([], refl)
  placeds (k ∷ ks) h = let rest = placeds ks (and-true _ _ h).1 in ((k.1, k.2 (inr (and-true _ _ h).0)) ∷ rest.0, ap (λ l. k.1 ∷ l) rest.1)

  abbrev CallAmong : Function → ℕ → List Trace → Type 0
  CallAmong g code ts = (s : Setting) → IsClosed Q marked s.all → (c : Focus) → Surrounded Q marked s c → AskedAmong Q marked (asked.call_asked g code ts s c)

  call-such : (g : Function) → is_event g ≡ false → (code : ℕ) (ks : List Pair) → SuchTraces ks → CallAmong g code (map (λ (k : Pair). k.1) ks)
  call-such g i code ks such = subst (CallAmong g code) such.1 (λ s p c h. call-among s p c h g i code such.0)

  by-exact : (g : Function) → is_event g ≡ false → (code : ℕ) (ks : List Pair) → all_exact (map (λ (k : Pair). k.0) ks) ≡ true → CallAmong g code (map (λ (k : Pair). k.1) ks)
  by-exact g i code ks h = call-such g i code ks (exacts ks h)

  by-placed : (g : Function) → is_event g ≡ false → (code : ℕ) (ks : List Pair) → all_placed (map (λ (k : Pair). k.0) ks) ≡ true → CallAmong g code (map (λ (k : Pair). k.1) ks)
  by-placed g i code ks h = call-such g i code ks (placeds ks h)

  call-covered : (g : Function) (code : ℕ) (ks : List Pair) → Covered (call_facts g (map (λ (k : Pair). k.0) ks)) → CallAmong g code (map (λ (k : Pair). k.1) ks)
  call-covered of.asking code ks (inl h) = by-exact of.asking refl code ks h
  call-covered of.asking code ks (inr h) = by-placed of.asking refl code ks h
  call-covered of.plainly code ks (inl h) = by-exact of.plainly refl code ks h
  call-covered of.plainly code ks (inr h) = by-placed of.plainly refl code ks h
  call-covered of.owning code ks (inl h) = by-exact of.owning refl code ks h
  call-covered of.owning code ks (inr h) = by-placed of.owning refl code ks (and-true _ _ h).1
  call-covered of.boolean code ks (inl h) = by-exact of.boolean refl code ks h
  call-covered of.boolean code ks (inr h) = by-placed of.boolean refl code ks h
  call-covered of.not code ks (inl h) = by-exact of.not refl code ks h
  call-covered of.not code ks (inr h) = by-placed of.not refl code ks h
  call-covered (of.truth b) code ks h = λ s p c i. call-among s p c i (of.truth b) refl code []
  call-covered of.choosing code ks (inl h) = by-exact of.choosing refl code ks (and-true _ _ h).0
  call-covered of.choosing code ks (inr h) = by-placed of.choosing refl code ks h
  call-covered of.branching code ks (inl h) = by-exact of.branching refl code ks h
  call-covered of.branching code ks (inr h) = by-placed of.branching refl code ks h
  call-covered of.counting code ks (inl h) = by-exact of.counting refl code ks h
  call-covered of.counting code ks (inr h) = no h
  call-covered of.counting_filled code ks (inl h) = by-exact of.counting_filled refl code ks h
  call-covered of.counting_filled code ks (inr h) = no h
  call-covered of.adding code ks (inl h) = by-exact of.adding refl code ks h
  call-covered of.adding code ks (inr h) = no h
  call-covered of.averaging code ks (inl h) = by-exact of.averaging refl code ks h
  call-covered of.averaging code ks (inr h) = no h
  call-covered of.greatest code ks (inl h) = by-exact of.greatest refl code ks h
  call-covered of.greatest code ks (inr h) = no h
  call-covered of.least code ks (inl h) = by-exact of.least refl code ks h
  call-covered of.least code ks (inr h) = no h
  call-covered of.local_name code ks (inl h) = by-exact of.local_name refl code ks h
  call-covered of.local_name code ks (inr h) = no h
  call-covered of.name code ks (inl h) = by-exact of.name refl code ks h
  call-covered of.name code ks (inr h) = no h
  call-covered of.namespace code ks (inl h) = by-exact of.namespace refl code ks h
  call-covered of.namespace code ks (inr h) = no h
  call-covered of.number code ks (inl h) = by-exact of.number refl code ks h
  call-covered of.number code ks (inr h) = by-placed of.number refl code ks (and-true _ _ h).1
  call-covered of.string code ks (inl h) = by-exact of.string refl code ks h
  call-covered of.string code ks (inr h) = by-placed of.string refl code ks (and-true _ _ h).1
  call-covered of.current code ks h = λ s p c i. call-among s p c i of.current refl code []
  call-covered of.event code ks (inl h) = no h
  call-covered of.event code ks (inr h) = no h
  call-covered of.index code ks (inl h) = no h
  call-covered of.index code ks (inr h) = no h
  call-covered of.instance code ks (inl h) = by-placed of.instance refl code ks h
  call-covered of.instance code ks (inr h) = no h
  call-covered of.last code ks h = λ s p c i. call-among s p c i of.last refl code []
  call-covered of.position code ks h = λ s p c i. call-among s p c i of.position refl code []

  abbrev SuchLinks : List LinkPair → Type 0
  SuchLinks ls = (ts : List SuchLink) × (map (λ (t : SuchLink). t.0) ts ≡ map (λ (l : LinkPair). l.1) ls)

  exact-links : (ls : List LinkPair) → links_exact (map (λ (l : LinkPair). l.0) ls) ≡ true → SuchLinks ls
  exact-links [] h = ([], refl)
  exact-links (l ∷ ls) h = let rest = exact-links ls (and-true _ _ h).1 in ((l.1, l.2 (inl (and-true _ _ h).0)) ∷ rest.0, ap (λ m. l.1 ∷ m) rest.1)

  placed-links : (ls : List LinkPair) → links_placed (map (λ (l : LinkPair). l.0) ls) ≡ true → SuchLinks ls
  placed-links [] h = ([], refl)
  placed-links (l ∷ ls) h = let rest = placed-links ls (and-true _ _ h).1 in ((l.1, l.2 (inr (and-true _ _ (and-true _ _ h).0).0)) ∷ rest.0, ap (λ m. l.1 ∷ m) rest.1)

  abbrev ChainAmong : Trace → List LinkTrace → Type 0
  ChainAmong first ls = (s : Setting) → IsClosed Q marked s.all → (c : Focus) → Surrounded Q marked s c → AskedAmong Q marked (asked.links_asked ls s c (first.asked s c))

  chain-such : (first : Trace) → TraceAmong first → (ls : List LinkPair) → SuchLinks ls → ChainAmong first (map (λ (l : LinkPair). l.1) ls)
  chain-such first k ls such = subst (ChainAmong first) such.1 (λ s p c h. links-among s p c h such.0 (first.asked s c) (k s p c h))

  such-walks : (ks : List StepPair) → (ts : List SuchWalk) × (map (λ (t : SuchWalk). t.0) ts ≡ map (λ (k : StepPair). k.1) ks)
  such-walks [] = ([], refl)
  such-walks (k ∷ ks) = let rest = such-walks ks in ((k.1, k.2) ∷ rest.0, ap (λ l. k.1 ∷ l) rest.1)

  path-among : (ks : List StepPair) (s : Setting) → IsClosed Q marked s.all → (c : Focus) → Surrounded Q marked s c → (a : Asked) → AskedAmong Q marked a → AskedAmong Q marked (walks_asked s (map (λ (k : StepPair). k.1) ks) a)
  path-among ks s p c h a i = let such = such-walks ks in subst (λ ts. AskedAmong Q marked (walks_asked s ts a)) such.1 (walks-among s p c h such.0 a i)

  level-among : (y : Expr-F Pair LinkPair StepPair) → PairAmong (expr_facts (map-Expr Pair LinkPair StepPair Facts LinkFacts Bool (λ k. k.0) (λ k. k.0) (λ k. k.0) y)) (expr_trace (map-Expr Pair LinkPair StepPair Trace LinkTrace WalkTrace (λ k. k.1) (λ k. k.1) (λ k. k.1) y))
  level-among (Expr-F.Number place k) i = λ s p c h. plainly-among Q marked s p [] [] (λ f. none-in Q marked)
  level-among (Expr-F.Literal place text) i = λ s p c h. plainly-among Q marked s p [] [] (λ f. none-in Q marked)
  level-among (Expr-F.Call place code ks) i = call-covered (function_at code) code ks i
  level-among (Expr-F.Negated place signs k) (inl i) = λ s p c h. converted-among Q marked s p (k.1.asked s c) (k.2 (inl i) s p c h)
  level-among (Expr-F.Negated place signs k) (inr i) = λ s p c h. converted-among Q marked s p (k.1.asked s c) (k.2 (inr i) s p c h)
  level-among (Expr-F.Chain k ls) (inl i) = chain-such k.1 (k.2 (inl (and-true _ _ i).0)) ls (exact-links ls (and-true _ _ i).1)
  level-among (Expr-F.Chain k ls) (inr i) = chain-such k.1 (k.2 (inr (and-true _ _ i).0)) ls (placed-links ls (and-true _ _ i).1)
  level-among (Expr-F.Filter k ks) (inl i) = λ s p c h. filtered-among Q marked s p _ (k.1.asked s c) (k.2 (inl (and-true _ _ i).0) s p c h)
  level-among (Expr-F.Filter k ks) (inr i) = no i
  level-among (Expr-F.Path place start ks) i = λ s p c h. path-among ks s p c h (tightly (begun start s c)) (begun-among s p c h start)
  level-among (Expr-F.From k ks) (inl i) = λ s p c h. path-among ks s p c h (k.1.asked s c) (k.2 (inl (and-true _ _ i).0) s p c h)
  level-among (Expr-F.From k ks) (inr i) = no i

  pub asked-among : (e : Expr) → is_covered e ≡ true → (s : Setting) → IsClosed Q marked s.all → (c : Focus) → Surrounded Q marked s c → AskedAmong Q marked ((trace e).asked s c)
  asked-among e h = covered e (inl h)
    where
      covered : (x : Expr) → PairAmong (facts_of x) (trace x)
      covered = pair_keeps Facts LinkFacts Bool expr_facts link_facts step_facts Trace LinkTrace WalkTrace expr_trace link_trace step_trace PairAmong LinkAmong StepAmong
          level-among (λ y. y.right.2) (λ y s p a i. step-among Q marked s p (map-Step Pair LinkPair StepPair Trace LinkTrace WalkTrace (λ k. k.1) (λ k. k.1) (λ k. k.1) y) a i)

  -- the same where a text is made of the value
  pub converted-asked : (e : Expr) → is_covered e ≡ true → (s : Setting) → IsClosed Q marked s.all → (c : Focus) → Surrounded Q marked s c → AskedAmong Q marked (converted s ((trace e).asked s c))
  converted-asked e h s closed c i = converted-among Q marked s closed ((trace e).asked s c) (asked-among e h s closed c i)
