-- Two forests that agree on what an expression reads and looks at give it one value: by one induction over the syntax, for expressions in
-- which no set is loose and predicates go by position alone.
use Rattle.std.proofs.Common.{◌≡◌, ℕ, ◌==◌, Bool, true, false, not, ◌&&◌, ◌||◌, List, [], ◌∷◌, map, Option, Some, None, option_map, unwrap_or, refl, sym, ap, ◌∙◌, subst, inl, inr}
use Rattle.std.specs.List.{list_all}
use Rattle.std.proofs.lemmas.Bool.{eqb-true}
use Rattle.xf_def_syntax.specs.declared.expr.Expr.{Expr}
use Rattle.xf_def_syntax.specs.declared.expr.Expr.TheOpen.{Expr-F, Step-F}
use Rattle.xf_def_syntax.specs.declared.expr.Expr.TheFolds.{map-Expr, map-Step}
use Rattle.xf_def_syntax.specs.declared.expr.Operator.{Operator}
use Rattle.xf_def_syntax.specs.declared.expr.Operator.TheVariants.{Or, And, Equal, NotEqual, Less, LessOrEqual, Greater, GreaterOrEqual, Add, Subtract, Multiply, Divide, Modulo, Union}
use Rattle.xf_def_syntax.specs.declared.expr.Start.{Start}
use Rattle.xf_def_syntax.specs.declared.expr.Start.TheVariants.{Root, Context}
use Rattle.xf_def_forest.specs.Visit.{Visit, has, above_in, last_of, top_of}
use Rattle.xf_def_forest.proofs.BackLaws.{and-true}
use Rattle.xf_def_xpath.specs.declared.value.Value.{Value}
use Rattle.xf_def_xpath.specs.declared.value.Value.TheVariants.{Nodes, Text, Number}
use Rattle.xf_def_xpath.specs.Setting.{Setting, Focus, Meaning, LinkMeaning, ◌>>=◌}
use Rattle.xf_def_xpath.specs.Conversions.{nodes_of, number_of}
use Rattle.xf_def_xpath.specs.Operators.{linked, chained, signed}
use Rattle.xf_def_xpath.specs.Steps.{kept_by_all, walked, begun}
use Rattle.xf_def_xpath.specs.Table.{function_at}
use Rattle.xf_def_xpath.specs.Asked.{Asked, Trace, LinkTrace, WalkTrace, found, tightly}
use Rattle.xf_def_xpath.specs.AskedSteps.{is_kind, meets_texts, goes_up, if_tight, filtered, walks_asked}
use Rattle.xf_def_xpath.specs.AskedCalls as asked
use Rattle.xf_def_xpath.specs.Reads.{meaning_in, link_meaning_in, walk_in, expr_trace, link_trace, step_trace, trace}
use Rattle.xf_def_xpath.specs.Agree.{untexted}
use Rattle.xf_def_xpath.specs.Exact.{Facts, LinkFacts, is_union, links_placed, links_plain, links_exact, is_sibling, expr_facts, link_facts, step_facts, facts_of}
use Rattle.xf_def_xpath.proofs.PairKeeps.{pair_keeps}
use Rattle.xf_def_xpath.proofs.VisitFacts.{or-cases, or-left, or-right, self-same, no}
use Rattle.xf_def_xpath.proofs.AxisAgree.{above-stands}
use Rattle.xf_def_xpath.proofs.UntextedLaws.{solid-found}
use Rattle.xf_def_xpath.proofs.Comparison.{Comparison, other, over_shape, Solid, AllSolid, solid-both}
use Rattle.xf_def_xpath.proofs.Gives.{Gives, both, gives-map, gives-then, gives-weaker, gives-at, capped-gives}
use Rattle.xf_def_xpath.proofs.PlacedLaws.{Placed, at, numbers, texts, mapped, chained-placed}
use Rattle.xf_def_xpath.proofs.StepAgree.{kept_all-agree}
use Rattle.xf_def_xpath.proofs.ValueAgree.{Premise, Fits, Agreed, in-converted, made, number-same}
use Rattle.xf_def_xpath.proofs.AgreeSteps.{WalkLaw, step-law, walks-grow, walks-tight, walks-agree}
use Rattle.xf_def_xpath.proofs.AgreeCalls.{Standing, ExactLaw, plain-agreed, plain-mapped, in-left, in-right, link-agreed}
use Rattle.xf_def_xpath.proofs.AgreeCases.{Lawful, LinkLawful, StepLawful, placings, call-exact, call-placed, call-plain}

module _ (w : Comparison) where
  abbrev s : Setting
  s = w.setting

  abbrev t : Setting
  t = other w

  abbrev u : Setting
  u = over_shape w

  abbrev Pair : Type 0
  Pair = (f : Facts) × (x : Trace) × Lawful w f x

  abbrev LinkPair : Type 0
  LinkPair = (l : LinkFacts) × (x : LinkTrace) × LinkLawful w l x

  abbrev StepPair : Type 0
  StepPair = (b : Bool) × (x : WalkTrace) × StepLawful w b x

  abbrev facts_in : List Pair → List Facts
  facts_in ks = map (λ (k : Pair). k.0) ks

  abbrev traces_in : List Pair → List Trace
  traces_in ks = map (λ (k : Pair). k.1) ks

  abbrev Placing : Type 0
  Placing = (m : Meaning) × Placed w m

  abbrev same : List Placing → List Meaning
  same ps = map (λ (p : Placing). p.0) ps

  -- ---- chains

  abbrev link_facts_in : List LinkPair → List LinkFacts
  link_facts_in ls = map (λ (l : LinkPair). l.0) ls

  abbrev link_traces_in : List LinkPair → List LinkTrace
  link_traces_in ls = map (λ (l : LinkPair). l.1) ls

  links-grow : (ls : List LinkPair) (c : Focus) (a : Asked) → Premise w (asked.links_asked (link_traces_in ls) u c a) → Premise w a
  links-grow [] c a p = p
  links-grow (l ∷ ls) c a p = in-left w l.1.operator a (l.1.right.asked u c) (links-grow ls c (asked.link_asked l.1.operator u a (l.1.right.asked u c)) p)

  link-tight : (o : Operator) (a b : Asked) → a.is_loose ≡ false → b.is_loose ≡ false → (asked.link_asked o u a b).is_loose ≡ false
  link-tight Or a b h k = refl
  link-tight And a b h k = refl
  link-tight Equal a b h k = refl
  link-tight NotEqual a b h k = refl
  link-tight Less a b h k = refl
  link-tight LessOrEqual a b h k = refl
  link-tight Greater a b h k = refl
  link-tight GreaterOrEqual a b h k = refl
  link-tight Add a b h k = refl
  link-tight Subtract a b h k = refl
  link-tight Multiply a b h k = refl
  link-tight Divide a b h k = refl
  link-tight Modulo a b h k = refl
  link-tight Union a b h k = ap (λ x. x || b.is_loose) h ∙ k

  right-agreed : (l : LinkPair) (ls : List LinkPair) → l.0.right.is_exact ≡ true → (c : Focus) → Solid w c.node → (a : Asked) → Premise w (asked.links_asked (link_traces_in (l ∷ ls)) u c a) →
      Agreed w (l.1.right.asked u c) (l.1.right.meaning s c) (l.1.right.meaning t c)
  right-agreed l ls h c node a p = l.2.right.exact h c node (in-right w l.1.operator a (l.1.right.asked u c) (links-grow ls c (asked.link_asked l.1.operator u a (l.1.right.asked u c)) p))

  links-tight : (ls : List LinkPair) → links_exact (link_facts_in ls) ≡ true → (c : Focus) → Solid w c.node → (a : Asked) → a.is_loose ≡ false → Premise w (asked.links_asked (link_traces_in ls) u c a) → (asked.links_asked (link_traces_in ls) u c a).is_loose ≡ false
  links-tight [] h c node a e p = e
  links-tight (l ∷ ls) h c node a e p =
      links-tight ls (and-true _ _ h).1 c node (asked.link_asked l.1.operator u a (l.1.right.asked u c))
      (link-tight l.1.operator a (l.1.right.asked u c) e (right-agreed l ls (and-true _ _ h).0 c node a p).tight) p

  links-agree : (ls : List LinkPair) → links_exact (link_facts_in ls) ≡ true → (c : Focus) → Solid w c.node → (a : Asked) (v : Value) → Fits w a v → a.is_loose ≡ false → Premise w (asked.links_asked (link_traces_in ls) u c a) →
      Gives (Fits w (asked.links_asked (link_traces_in ls) u c a)) (chained (map link_meaning_in (link_traces_in ls)) v s c) (chained (map link_meaning_in (link_traces_in ls)) v t c)
  links-agree [] h c node a v f e p = both f
  links-agree (l ∷ ls) h c node a v f e p =
      let b : Asked = l.1.right.asked u c in
      let now : Agreed w (asked.link_asked l.1.operator u a b) (linked l.1.operator v l.1.right.meaning s c) (linked l.1.operator v l.1.right.meaning t c) =
      link-agreed w a b v f e (l.1.right.meaning s c) (l.1.right.meaning t c) (right-agreed l ls (and-true _ _ h).0 c node a p) l.1.operator l.1.right.meaning c refl refl (links-grow ls c (asked.link_asked l.1.operator u a b) p) in
      gives-then (λ x. chained (map link_meaning_in (link_traces_in ls)) x s c) (λ x. chained (map link_meaning_in (link_traces_in ls)) x t c) now.given (λ x g.
      links-agree ls (and-true _ _ h).1 c node (asked.link_asked l.1.operator u a b) x g now.tight p)

  link-empty : (o : Operator) (a b : Asked) → not (is_union o) ≡ true → (asked.link_asked o u a b).set ≡ []
  link-empty Or a b h = refl
  link-empty And a b h = refl
  link-empty Equal a b h = refl
  link-empty NotEqual a b h = refl
  link-empty Less a b h = refl
  link-empty LessOrEqual a b h = refl
  link-empty Greater a b h = refl
  link-empty GreaterOrEqual a b h = refl
  link-empty Add a b h = refl
  link-empty Subtract a b h = refl
  link-empty Multiply a b h = refl
  link-empty Divide a b h = refl
  link-empty Modulo a b h = refl
  link-empty Union a b h = no h

  links-empty : (ls : List LinkPair) (b : Bool) (c : Focus) (a : Asked) → (b ≡ true → a.set ≡ []) → links_plain b (link_facts_in ls) ≡ true → (asked.links_asked (link_traces_in ls) u c a).set ≡ []
  links-empty [] b c a h k = h k
  links-empty (l ∷ ls) b c a h k = links-empty ls (not (is_union l.0.operator)) c (asked.link_asked l.1.operator u a (l.1.right.asked u c))
      (λ i. link-empty l.1.operator a (l.1.right.asked u c) (ap (λ o. not (is_union o)) l.2.operator ∙ i)) k

  not-true : (b : Bool) → not b ≡ true → b ≡ false
  not-true true h = sym h
  not-true false h = refl

  abbrev PlacedLink : Type 0
  PlacedLink = (l : LinkMeaning) × (is_union l.operator ≡ false) × Placed w l.right

  placed-links : (ls : List LinkPair) → links_placed (link_facts_in ls) ≡ true → (ps : List PlacedLink) × (map (λ (p : PlacedLink). p.0) ps ≡ map link_meaning_in (link_traces_in ls))
  placed-links [] h = ([], refl)
  placed-links (l ∷ ls) h =
      let head = and-true (l.0.right.is_placed) (not (is_union l.0.operator)) (and-true _ _ h).0 in
      let rest = placed-links ls (and-true _ _ h).1 in
      ((link_meaning_in l.1, ap is_union l.2.operator ∙ not-true (is_union l.0.operator) head.1, l.2.right.placed head.0) ∷ rest.0, ap (λ m. link_meaning_in l.1 ∷ m) rest.1)

  chain-placed : (first : Placing) (ps : List PlacedLink) → Placed w (λ x c. first.0 x c >>= λ v. chained (map (λ (p : PlacedLink). p.0) ps) v x c)
  chain-placed first ps n n' n'' position size =
      gives-then (λ v. chained (map (λ (p : PlacedLink). p.0) ps) v s (at n position size)) (λ v. chained (map (λ (p : PlacedLink). p.0) ps) v t (at n' position size)) (first.1 n n' n'' position size) (λ v e.
      gives-weaker (chained-placed w n n' n'' position size ps v e.1) (λ x f. (ap (λ m. m >>= λ y. chained (map (λ (p : PlacedLink). p.0) ps) y u (at n'' position size)) e.0 ∙ f.0, f.1)))

  -- ---- paths

  abbrev KnownWalk : Type 0
  KnownWalk = (x : WalkTrace) × WalkLaw w x

  abbrev steps_in : List StepPair → List WalkTrace
  steps_in ks = map (λ (k : StepPair). k.1) ks

  walk-laws : (ks : List StepPair) → list_all (λ b. b) (map (λ (k : StepPair). k.0) ks) ≡ true → (xs : List KnownWalk) × (map (λ (x : KnownWalk). x.0) xs ≡ steps_in ks)
  walk-laws [] h = ([], refl)
  walk-laws (k ∷ ks) h = let rest = walk-laws ks (and-true _ _ h).1 in ((k.1, k.2 (and-true _ _ h).0) ∷ rest.0, ap (λ l. k.1 ∷ l) rest.1)

  abbrev path_from : Setting → List WalkTrace → List ℕ → Option (List ℕ)
  path_from x ks ns = walked x (map walk_in ks) ns

  path-agrees : (ks : List StepPair) → list_all (λ b. b) (map (λ (k : StepPair). k.0) ks) ≡ true → (a : Asked) → a.is_loose ≡ false → AllSolid w a.set → Premise w (walks_asked u (steps_in ks) a) →
      Gives (λ ns. (ns ≡ (walks_asked u (steps_in ks) a).set) × AllSolid w (walks_asked u (steps_in ks) a).set) (path_from s (steps_in ks) a.set) (path_from t (steps_in ks) a.set)
  path-agrees ks h a e solid =
      let xs = walk-laws ks h in
      subst (λ ys. Premise w (walks_asked u ys a) → Gives (λ ns. (ns ≡ (walks_asked u ys a).set) × AllSolid w (walks_asked u ys a).set) (path_from s ys a.set) (path_from t ys a.set)) xs.1
      (walks-agree w xs.0 a e solid)

  path-tight : (ks : List StepPair) → list_all (λ b. b) (map (λ (k : StepPair). k.0) ks) ≡ true → (a : Asked) → a.is_loose ≡ false → (walks_asked u (steps_in ks) a).is_loose ≡ false
  path-tight ks h a e = let xs = walk-laws ks h in subst (λ ys. (walks_asked u ys a).is_loose ≡ false) xs.1 (walks-tight w xs.0 a e)

  path-grows : (ks : List StepPair) → list_all (λ b. b) (map (λ (k : StepPair). k.0) ks) ≡ true → (a : Asked) → Premise w (walks_asked u (steps_in ks) a) → Premise w a
  path-grows ks h a = let xs = walk-laws ks h in subst (λ ys. Premise w (walks_asked u ys a) → Premise w a) xs.1 (walks-grow w xs.0 a)

  -- the top of the tree of a node that is the same in both
  last-has : (n : ℕ) (ns : List ℕ) → has (last_of n ns) (n ∷ ns) ≡ true
  last-has n [] = or-left (n == n) false (self-same n)
  last-has n (m ∷ ms) = or-right (last_of m ms == n) (has (last_of m ms) (m ∷ ms)) (last-has m ms)

  top-at : (all : List Visit) (n : ℕ) (x : Visit) → found n all ≡ Some x → top_of n all ≡ last_of n x.above
  top-at all n x e = ap (λ m. last_of n (above_in m)) e

  top-solid : (n : ℕ) → Solid w n → (x : Visit) → found n (untexted w.shape) ≡ Some x → found n (untexted w.setting.all) ≡ Some x → found n (untexted w.others) ≡ Some x → Solid w (last_of n x.above)
  top-solid n h x a b c = elim (or-cases (last_of n x.above == n) (has (last_of n x.above) x.above) (last-has n x.above)) [
    | inl i ↦ same-solid (last_of n x.above) n (eqb-true (last_of n x.above) n i) h
    | inr j ↦ solid-both w (last_of n x.above) (above-stands w.frame x.above (last_of n x.above) n x a b refl j) (above-stands w.other_frame x.above (last_of n x.above) n x a c refl j)
  ]
    where
      same-solid : (k m : ℕ) → k ≡ m → Solid w m → Solid w k
      same-solid k m e x = record { visit = x.visit; in_shape = ap (λ q. found q (untexted w.shape)) e ∙ x.in_shape; in_first = ap (λ q. found q (untexted w.setting.all)) e ∙ x.in_first; in_second = ap (λ q. found q (untexted w.others)) e ∙ x.in_second }

  one-solid : (n m : ℕ) → Solid w n → m ≡ n → AllSolid w (m ∷ [])
  one-solid n m h e k i = elim (or-cases (k == m) false i) [ inl a ↦ subst (Solid w) (sym (eqb-true k m a ∙ e)) h | inr b ↦ no b ]

  pub record Begun (start : Start) (c : Focus) : Type 0 where
    pub first : begun start s c ≡ begun start u c
    pub second : begun start t c ≡ begun start u c
    pub solid : AllSolid w (begun start u c)

  pub begun-agrees : (start : Start) (c : Focus) → Solid w c.node → Begun start c
  begun-agrees Context c h = record { first = refl; second = refl; solid = one-solid c.node c.node h refl }
  begun-agrees Root c h =
      let in_shape : top_of c.node w.shape ≡ last_of c.node h.visit.above = top-at w.shape c.node h.visit (solid-found w.shape w.shape_visits c.node h.visit h.in_shape).0 in
      let in_first : top_of c.node w.setting.all ≡ last_of c.node h.visit.above = top-at w.setting.all c.node h.visit (solid-found w.setting.all w.visits c.node h.visit h.in_first).0 in
      let in_second : top_of c.node w.others ≡ last_of c.node h.visit.above = top-at w.others c.node h.visit (solid-found w.others w.other_visits c.node h.visit h.in_second).0 in
      record {
        first = ap (λ n. n ∷ []) (in_first ∙ sym in_shape);
        second = ap (λ n. n ∷ []) (in_second ∙ sym in_shape);
        solid = one-solid (last_of c.node h.visit.above) (top_of c.node w.shape) (top-solid c.node h h.visit h.in_shape h.in_first h.in_second) in_shape;
      }

  walks-no_truth : (ks : List StepPair) (a : Asked) → (walks_asked u (steps_in ks) a).is_truth ≡ false
  walks-no_truth [] a = refl
  walks-no_truth (k ∷ ks) a = walks-no_truth ks (k.1.asked u a)

  -- a path as a value
  path-fits : (ks : List StepPair) (a : Asked) {m m' : Option (List ℕ)} → Gives (λ ns. (ns ≡ (walks_asked u (steps_in ks) a).set) × AllSolid w (walks_asked u (steps_in ks) a).set) m m' →
      Gives (Fits w (walks_asked u (steps_in ks) a)) (option_map Nodes m) (option_map Nodes m')
  path-fits ks a h = gives-map Nodes h (λ ns e. (e.0, λ i. no (sym (walks-no_truth ks a) ∙ i), e.1))

  -- ---- filters

  filter-fits : (ks : List Pair) (ps : List Placing) → same ps ≡ map meaning_in (traces_in ks) → (a : Asked) → a.is_loose ≡ false → (v : Value) → Fits w a v →
      Gives (Fits w (filtered u (traces_in ks) a)) (option_map Nodes (kept_by_all s (map meaning_in (traces_in ks)) (nodes_of v))) (option_map Nodes (kept_by_all t (map meaning_in (traces_in ks)) (nodes_of v)))
  filter-fits ks ps e a tight v f =
      gives-at
      (ap (λ ms. option_map Nodes (kept_by_all s ms (nodes_of v))) (sym e) ∙ ap (λ ns. option_map Nodes (kept_by_all s (same ps) ns)) f.0)
      (ap (λ ms. option_map Nodes (kept_by_all t ms (nodes_of v))) (sym e) ∙ ap (λ ns. option_map Nodes (kept_by_all t (same ps) ns)) f.0)
      (gives-map Nodes (kept_all-agree w ps a.set) (λ ns k.
      let set : ns ≡ (filtered u (traces_in ks) a).set =
      sym (ap (λ m. unwrap_or m []) k.0) ∙ ap (λ ms. unwrap_or (kept_by_all u ms a.set) []) e ∙ ap (λ b. unwrap_or (kept_by_all u (if_tight b (traces_in ks)) a.set) []) (sym tight) in
      (set, λ i. no i, λ n h. f.2 n (k.1 n (ap (has n) set ∙ h)))))

  map-then : {A B C : Type 0} (g : B → C) (m : Option A) (k : A → Option B) → option_map g (m >>= k) ≡ (m >>= λ x. option_map g (k x))
  map-then g None k = refl
  map-then g (Some x) k = refl

  -- ---- every level

  abbrev Level : Type 0
  Level = Expr-F Pair LinkPair StepPair

  abbrev facts_level : Level → Facts
  facts_level y = expr_facts (map-Expr Pair LinkPair StepPair Facts LinkFacts Bool (λ k. k.0) (λ k. k.0) (λ k. k.0) y)

  abbrev trace_level : Level → Trace
  trace_level y = expr_trace (map-Expr Pair LinkPair StepPair Trace LinkTrace WalkTrace (λ k. k.1) (λ k. k.1) (λ k. k.1) y)

  module _ (stand : Standing w) where
    level : (y : Level) → Lawful w (facts_level y) (trace_level y)
    level (Expr-F.Number place k) = record {
      placed = λ h n n' n'' position size. both (refl, refl);
      exact = λ h c node p. plain-agreed w [] [] _ _ (both refl);
      plain = λ h i c. refl;
    }
    level (Expr-F.Literal place text) = record {
      placed = λ h n n' n'' position size. texts w n n' n'' position size _ _ _ (gives-weaker (capped-gives s.most text) (λ x e. ap Some (sym e)));
      exact = λ h c node p. plain-agreed w [] [] _ _ (gives-map Text (capped-gives s.most text) (λ x e. refl));
      plain = λ h i c. refl;
    }
    level (Expr-F.Call place code ks) = record {
      placed = call-placed w (function_at code) code ks;
      exact = λ h c node p. call-exact w (function_at code) code refl stand ks h c node p;
      plain = λ h i c. call-plain w (function_at code) code ks h i c;
    }
    level (Expr-F.Negated place signs k) = record {
      placed = λ h n n' n'' position size. mapped w n n' n'' position size _ _ _ (λ x. Number (signed signs x)) (numbers w n n' n'' position size _ _ _ (k.2.placed h n n' n'' position size)) (λ x. refl);
      exact = λ h c node p. plain-agreed w _ _ _ _ (plain-mapped w (λ x. Number (signed signs x)) (made w (number_of s) (number_of t) (number-same w) (k.1.asked u c) (k.1.meaning s c) (k.1.meaning t c) (k.2.exact h c node (in-converted w (k.1.asked u c) p)) p) (λ x. refl));
      plain = λ h i c. refl;
    }
    level (Expr-F.Chain k ls) = record {
      placed = λ h. let ps = placed-links ls (and-true _ _ h).1 in
          subst (λ ms. Placed w (λ x c. k.1.meaning x c >>= λ v. chained ms v x c)) ps.1 (chain-placed (k.1.meaning, k.2.placed (and-true _ _ h).0) ps.0);
      exact = λ h c node p.
          let first : Agreed w (k.1.asked u c) (k.1.meaning s c) (k.1.meaning t c) = k.2.exact (and-true _ _ h).0 c node (links-grow ls c (k.1.asked u c) p) in
          record {
            tight = links-tight ls (and-true _ _ h).1 c node (k.1.asked u c) first.tight p;
            given = gives-then (λ v. chained (map link_meaning_in (link_traces_in ls)) v s c) (λ v. chained (map link_meaning_in (link_traces_in ls)) v t c) first.given (λ v f. links-agree ls (and-true _ _ h).1 c node (k.1.asked u c) v f first.tight p);
          };
      plain = λ h i c. links-empty ls k.0.is_plain c (k.1.asked u c) (λ j. k.2.plain j (and-true _ _ i).0 c) h;
    }
    level (Expr-F.Filter k ks) = record {
      placed = λ h. no h;
      exact = λ h c node p.
          let first : Agreed w (k.1.asked u c) (k.1.meaning s c) (k.1.meaning t c) = k.2.exact (and-true _ _ h).0 c node (record { lists = p.lists; strings = p.strings }) in
          let ps = placings w ks (and-true _ _ h).1 in
          record {
            tight = first.tight;
            given = gives-at (map-then Nodes (k.1.meaning s c) (λ v. kept_by_all s (map meaning_in (traces_in ks)) (nodes_of v))) (map-then Nodes (k.1.meaning t c) (λ v. kept_by_all t (map meaning_in (traces_in ks)) (nodes_of v)))
                (gives-then (λ v. option_map Nodes (kept_by_all s (map meaning_in (traces_in ks)) (nodes_of v))) (λ v. option_map Nodes (kept_by_all t (map meaning_in (traces_in ks)) (nodes_of v))) first.given
                (λ v f. filter-fits ks ps.0 ps.1 (k.1.asked u c) first.tight v f));
          };
      plain = λ h. no h;
    }
    level (Expr-F.Path place start ks) = record {
      placed = λ h. no h;
      exact = λ h c node p.
          let b : Begun start c = begun-agrees start c node in
          record {
            tight = path-tight ks h (tightly (begun start u c)) refl;
            given = gives-at (ap (λ ns. option_map Nodes (path_from s (steps_in ks) ns)) b.first) (ap (λ ns. option_map Nodes (path_from t (steps_in ks) ns)) b.second)
                (path-fits ks (tightly (begun start u c)) (path-agrees ks h (tightly (begun start u c)) refl b.solid p));
          };
      plain = λ h. no h;
    }
    level (Expr-F.From k ks) = record {
      placed = λ h. no h;
      exact = λ h c node p.
          let a : Asked = k.1.asked u c in
          let first : Agreed w a (k.1.meaning s c) (k.1.meaning t c) = k.2.exact (and-true _ _ h).0 c node (path-grows ks (and-true _ _ h).1 a p) in
          record {
            tight = path-tight ks (and-true _ _ h).1 a first.tight;
            given = gives-at (map-then Nodes (k.1.meaning s c) (λ v. path_from s (steps_in ks) (nodes_of v))) (map-then Nodes (k.1.meaning t c) (λ v. path_from t (steps_in ks) (nodes_of v)))
                (gives-then (λ v. option_map Nodes (path_from s (steps_in ks) (nodes_of v))) (λ v. option_map Nodes (path_from t (steps_in ks) (nodes_of v))) first.given
                (λ v f. gives-at (ap (λ ns. option_map Nodes (path_from s (steps_in ks) ns)) f.0) (ap (λ ns. option_map Nodes (path_from t (steps_in ks) ns)) f.0)
                (path-fits ks a (path-agrees ks (and-true _ _ h).1 a first.tight f.2 p))));
          };
      plain = λ h. no h;
    }

    step-level : (y : Step-F Pair LinkPair StepPair) → StepLawful w (step_facts (map-Step Pair LinkPair StepPair Facts LinkFacts Bool (λ k. k.0) (λ k. k.0) (λ k. k.0) y)) (step_trace (map-Step Pair LinkPair StepPair Trace LinkTrace WalkTrace (λ k. k.1) (λ k. k.1) (λ k. k.1) y))
    step-level y h =
        let parts = and-true _ _ h in
        let tests = and-true (not (is_kind y.test && meets_texts y.axis)) (not (y.is_below && (goes_up y.axis || is_sibling y.axis))) parts.0 in
        let ps = placings w y.predicates parts.1 in
        step-law w (map-Step Pair LinkPair StepPair Trace LinkTrace WalkTrace (λ k. k.1) (λ k. k.1) (λ k. k.1) y) ps.0 (sym ps.1) tests.0 tests.1

    lawful : (x : Expr) → Lawful w (facts_of x) (trace x)
    lawful = pair_keeps Facts LinkFacts Bool expr_facts link_facts step_facts Trace LinkTrace WalkTrace expr_trace link_trace step_trace (Lawful w) (LinkLawful w) (StepLawful w)
        level (λ y. record { operator = refl; right = y.right.2 }) step-level

    -- what an expression gives over the first forest it gives over the other, unless a string was too long
    pub agreement : (x : Expr) → (facts_of x).is_exact ≡ true → ExactLaw w (trace x)
    agreement x h = (lawful x).exact h
