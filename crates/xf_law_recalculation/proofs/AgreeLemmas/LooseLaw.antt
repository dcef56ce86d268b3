-- Two forests that meet give an expression one value: by one induction over the syntax.
use Rattle.std.proofs.Common.{◌≡◌, ℕ, Bool, true, false, not, ◌&&◌, ◌||◌, List, [], ◌∷◌, map, Option, Some, None, option_map, unwrap_or, refl, sym, ap, ◌∙◌, subst}
use Rattle.std.specs.List.{list_all}
use Rattle.xf_def_syntax.specs.declared.expr.Expr.{Expr}
use Rattle.xf_def_syntax.specs.declared.expr.Expr.TheOpen.{Expr-F, Step-F}
use Rattle.xf_def_syntax.specs.declared.expr.Expr.TheFolds.{map-Expr, map-Step}
use Rattle.xf_def_syntax.specs.declared.expr.Operator.{Operator}
use Rattle.xf_def_syntax.specs.declared.expr.Operator.TheVariants.{Or, And, Equal, NotEqual, Less, LessOrEqual, Greater, GreaterOrEqual, Add, Subtract, Multiply, Divide, Modulo, Union}
use Rattle.xf_def_forest.specs.Visit.{has}
use Rattle.xf_def_forest.proofs.BackLaws.{and-true}
use Rattle.xf_def_xpath.specs.declared.value.Value.{Value}
use Rattle.xf_def_xpath.specs.declared.value.Value.TheVariants.{Nodes, Text, Number}
use Rattle.xf_def_xpath.specs.Setting.{Setting, Focus, Meaning, LinkMeaning, ◌>>=◌, capped}
use Rattle.xf_def_xpath.specs.Conversions.{nodes_of, number_of}
use Rattle.xf_def_xpath.specs.Operators.{linked, chained, signed}
use Rattle.xf_def_xpath.specs.Steps.{kept_by_all, walked, begun}
use Rattle.xf_def_xpath.specs.Table.{function_at}
use Rattle.xf_def_xpath.specs.Asked.{Asked, Trace, LinkTrace, WalkTrace, tightly}
use Rattle.xf_def_xpath.specs.AskedSteps.{is_kind, meets_texts, if_tight, filtered, walks_asked}
use Rattle.xf_def_xpath.specs.AskedCalls as asked
use Rattle.xf_def_xpath.specs.Reads.{meaning_in, link_meaning_in, walk_in, expr_trace, link_trace, step_trace, trace}
use Rattle.xf_def_xpath.specs.Exact.{Facts, LinkFacts, all_placed, is_union, links_placed, links_plain, links_exact, expr_facts, link_facts}
use Rattle.xf_def_xpath.proofs.PairKeeps.{pair_keeps}
use Rattle.xf_def_xpath.proofs.VisitFacts.{no}
use Rattle.xf_def_xpath.proofs.Comparison.{Comparison, other, over_shape, Solid}
use Rattle.xf_def_xpath.proofs.Gives.{gives-then, gives-weaker, capped-gives}
use Rattle.xf_def_xpath.proofs.Gives as given
use Rattle.xf_def_xpath.proofs.PlacedLaws.{Placed, at, numbers, texts, mapped, chained-placed}
use Rattle.xf_def_xpath.proofs.ValueAgree.{number-same}
use Rattle.xf_def_xpath.proofs.AgreeCalls.{Standing}
use Rattle.xf_def_xpath.proofs.AgreeLaw.{Begun, begun-agrees}
use Rattle.xf_law_recalculation.specs.Agree.Covered.{is_told, step_facts, facts_of, is_covered}
use Rattle.xf_law_recalculation.proofs.AgreeLemmas.Alike.{Alike, both, alike-map, alike-then, alike-equal, alike-at, Placing, meanings_of, Keeps, kept-alike}
use Rattle.xf_law_recalculation.proofs.AgreeLemmas.Meeting.{Meeting, Asks}
use Rattle.xf_law_recalculation.proofs.AgreeLemmas.LooseStep.{good-more}
use Rattle.xf_law_recalculation.proofs.AgreeLemmas.LooseValues.{Fits, Agreed, tight-fits, in-converted, made}
use Rattle.xf_law_recalculation.proofs.AgreeLemmas.LooseCalls.{MeetLaw, plain-agreed, plain-mapped, in-left, in-right, link-agreed}
use Rattle.xf_law_recalculation.proofs.AgreeLemmas.LoosePaths.{NodesFit, nodes-fit, WalkMeets, step-meets, walks-grow, walks-agree}
use Rattle.xf_law_recalculation.proofs.AgreeLemmas.LoosePlaced.{Lawful, LinkLawful, StepLawful, Part, facts_in, traces_in, placings, call-placed}
use Rattle.xf_law_recalculation.proofs.AgreeLemmas.LooseCases.{call-exact, call-plain}

module _ {w : Comparison} (m : Meeting w) where
  abbrev s : Setting
  s = w.setting

  abbrev t : Setting
  t = other w

  abbrev u : Setting
  u = over_shape w

  abbrev Pair : Type 0
  Pair = Part m

  abbrev LinkPair : Type 0
  LinkPair = (l : LinkFacts) × (x : LinkTrace) × LinkLawful m l x

  abbrev StepPair : Type 0
  StepPair = (b : Bool) × (x : WalkTrace) × StepLawful m b x

  -- ---- chains

  abbrev link_facts_in : List LinkPair → List LinkFacts
  link_facts_in ls = map (λ (l : LinkPair). l.0) ls

  abbrev link_traces_in : List LinkPair → List LinkTrace
  link_traces_in ls = map (λ (l : LinkPair). l.1) ls

  links-grow : (ls : List LinkPair) (c : Focus) (a : Asked) → Asks m (asked.links_asked (link_traces_in ls) u c a) → Asks m a
  links-grow [] c a p = p
  links-grow (l ∷ ls) c a p = in-left m l.1.operator a (l.1.right.asked u c) (links-grow ls c (asked.link_asked l.1.operator u a (l.1.right.asked u c)) p)

  right-agreed : (l : LinkPair) (ls : List LinkPair) → l.0.right.is_exact ≡ true → (c : Focus) → Solid w c.node → (a : Asked) → Asks m (asked.links_asked (link_traces_in (l ∷ ls)) u c a) →
      Agreed m (l.1.right.asked u c) (l.1.right.meaning s c) (l.1.right.meaning t c)
  right-agreed l ls h c node a p = l.2.right.exact h c node (in-right m l.1.operator a (l.1.right.asked u c) (links-grow ls c (asked.link_asked l.1.operator u a (l.1.right.asked u c)) p))

  links-agree : (ls : List LinkPair) → links_exact (link_facts_in ls) ≡ true → (c : Focus) → Solid w c.node → (a : Asked) (v : Value) → Fits m a v → Asks m (asked.links_asked (link_traces_in ls) u c a) →
      Alike (Fits m (asked.links_asked (link_traces_in ls) u c a)) (chained (map link_meaning_in (link_traces_in ls)) v s c) (chained (map link_meaning_in (link_traces_in ls)) v t c)
  links-agree [] h c node a v f p = both f
  links-agree (l ∷ ls) h c node a v f p =
      let b : Asked = l.1.right.asked u c in
      let now : Agreed m (asked.link_asked l.1.operator u a b) (linked l.1.operator v l.1.right.meaning s c) (linked l.1.operator v l.1.right.meaning t c) =
      link-agreed m a b v f (l.1.right.meaning s c) (l.1.right.meaning t c) (right-agreed l ls (and-true _ _ h).0 c node a p) l.1.operator l.1.right.meaning c refl refl (links-grow ls c (asked.link_asked l.1.operator u a b) p) in
      alike-then (λ x. chained (map link_meaning_in (link_traces_in ls)) x s c) (λ x. chained (map link_meaning_in (link_traces_in ls)) x t c) now (λ x g.
      links-agree ls (and-true _ _ h).1 c node (asked.link_asked l.1.operator u a b) x g p)

  link-empty : (o : Operator) (a b : Asked) → not (is_union o) ≡ true → (asked.link_asked o u a b).set ≡ []
  link-empty Or a b h = refl
  link-empty And a b h = refl
  link-empty Equal a b h = refl
  link-empty NotEqual a b h = refl
  link-empty Less a b h = refl
  link-empty LessOrEqual a b h = refl
  link-empty Greater a b h = refl
  link-empty GreaterOrEqual a b h = refl
  link-empty Add a b h = refl
  link-empty Subtract a b h = refl
  link-empty Multiply a b h = refl
  link-empty Divide a b h = refl
  link-empty Modulo a b h = refl
  link-empty Union a b h = no h

  links-empty : (ls : List LinkPair) (b : Bool) (c : Focus) (a : Asked) → (b ≡ true → a.set ≡ []) → links_plain b (link_facts_in ls) ≡ true → (asked.links_asked (link_traces_in ls) u c a).set ≡ []
  links-empty [] b c a h k = h k
  links-empty (l ∷ ls) b c a h k = links-empty ls (not (is_union l.0.operator)) c (asked.link_asked l.1.operator u a (l.1.right.asked u c))
      (λ i. link-empty l.1.operator a (l.1.right.asked u c) (ap (λ o. not (is_union o)) l.2.operator ∙ i)) k

  not-true : (b : Bool) → not b ≡ true → b ≡ false
  not-true true h = sym h
  not-true false h = refl

  abbrev PlacedLink : Comparison → Type 0
  PlacedLink y = (l : LinkMeaning) × (is_union l.operator ≡ false) × Placed y l.right

  placed-links : (y : Comparison) (ls : List LinkPair) → links_placed (link_facts_in ls) ≡ true → (ps : List (PlacedLink y)) × (map (λ (p : PlacedLink y). p.0) ps ≡ map link_meaning_in (link_traces_in ls))
  placed-links y [] h = ([], refl)
  placed-links y (l ∷ ls) h =
      let head = and-true (l.0.right.is_placed) (not (is_union l.0.operator)) (and-true _ _ h).0 in
      let rest = placed-links y ls (and-true _ _ h).1 in
      ((link_meaning_in l.1, ap is_union l.2.operator ∙ not-true (is_union l.0.operator) head.1, l.2.right.placed head.0 y) ∷ rest.0, ap (λ z. link_meaning_in l.1 ∷ z) rest.1)

  chain-placed : (y : Comparison) (first : (p : Meaning) × Placed y p) (ps : List (PlacedLink y)) → Placed y (λ x c. first.0 x c >>= λ v. chained (map (λ (p : PlacedLink y). p.0) ps) v x c)
  chain-placed y first ps n n' n'' position size =
      gives-then (λ v. chained (map (λ (p : PlacedLink y). p.0) ps) v y.setting (at n position size)) (λ v. chained (map (λ (p : PlacedLink y). p.0) ps) v (other y) (at n' position size)) (first.1 n n' n'' position size) (λ v e.
      gives-weaker (chained-placed y n n' n'' position size ps v e.1) (λ x f. (ap (λ o. o >>= λ z. chained (map (λ (p : PlacedLink y). p.0) ps) z (over_shape y) (at n'' position size)) e.0 ∙ f.0, f.1)))

  -- ---- paths

  abbrev KnownWalk : Type 0
  KnownWalk = (x : WalkTrace) × WalkMeets m x

  abbrev steps_in : List StepPair → List WalkTrace
  steps_in ks = map (λ (k : StepPair). k.1) ks

  walk-laws : (ks : List StepPair) → list_all (λ b. b) (map (λ (k : StepPair). k.0) ks) ≡ true → (xs : List KnownWalk) × (map (λ (x : KnownWalk). x.0) xs ≡ steps_in ks)
  walk-laws [] h = ([], refl)
  walk-laws (k ∷ ks) h = let rest = walk-laws ks (and-true _ _ h).1 in ((k.1, k.2 (and-true _ _ h).0) ∷ rest.0, ap (λ l. k.1 ∷ l) rest.1)

  abbrev path_from : Setting → List WalkTrace → List ℕ → Option (List ℕ)
  path_from x ks ns = walked x (map walk_in ks) ns

  path-agrees : (ks : List StepPair) → list_all (λ b. b) (map (λ (k : StepPair). k.0) ks) ≡ true → (a : Asked) (ns : List ℕ) → NodesFit m a ns → Asks m (walks_asked u (steps_in ks) a) →
      Alike (NodesFit m (walks_asked u (steps_in ks) a)) (path_from s (steps_in ks) ns) (path_from t (steps_in ks) ns)
  path-agrees ks h a ns fit =
      let xs = walk-laws ks h in
      subst (λ ys. Asks m (walks_asked u ys a) → Alike (NodesFit m (walks_asked u ys a)) (path_from s ys ns) (path_from t ys ns)) xs.1 (walks-agree m xs.0 a ns fit)

  path-grows : (ks : List StepPair) → list_all (λ b. b) (map (λ (k : StepPair). k.0) ks) ≡ true → (a : Asked) → Asks m (walks_asked u (steps_in ks) a) → Asks m a
  path-grows ks h a = let xs = walk-laws ks h in subst (λ ys. Asks m (walks_asked u ys a) → Asks m a) xs.1 (walks-grow m xs.0 a)

  walks-no_truth : (ks : List StepPair) (a : Asked) → (walks_asked u (steps_in ks) a).is_truth ≡ false
  walks-no_truth [] a = refl
  walks-no_truth (k ∷ ks) a = walks-no_truth ks (k.1.asked u a)

  -- a path as a value
  path-fits : (ks : List StepPair) (a : Asked) {v v' : Option (List ℕ)} → Alike (NodesFit m (walks_asked u (steps_in ks) a)) v v' → Alike (Fits m (walks_asked u (steps_in ks) a)) (option_map Nodes v) (option_map Nodes v')
  path-fits ks a h = alike-map Nodes h (λ ns e. record { good = e.good; truth = λ i. no (sym (walks-no_truth ks a) ∙ i); tight = e.tight })

  -- ---- filters

  filter-fits : (ks : List Pair) (ps : List Placing) → meanings_of ps ≡ map meaning_in (traces_in m ks) → (a : Asked) (v : Value) → Fits m a v →
      Alike (Fits m (filtered u (traces_in m ks) a)) (option_map Nodes (kept_by_all s (map meaning_in (traces_in m ks)) (nodes_of v))) (option_map Nodes (kept_by_all t (map meaning_in (traces_in m ks)) (nodes_of v)))
  filter-fits ks ps e a v f =
      alike-at (ap (λ ms. option_map Nodes (kept_by_all s ms (nodes_of v))) (sym e)) (ap (λ ms. option_map Nodes (kept_by_all t ms (nodes_of v))) (sym e))
      (alike-map Nodes (kept-alike w ps (nodes_of v)) (λ ns k. by a.is_loose refl ns k))
    where
      by : (b : Bool) → a.is_loose ≡ b → (ns : List ℕ) → Keeps (nodes_of v) (kept_by_all u (meanings_of ps) (nodes_of v)) ns → Fits m (filtered u (traces_in m ks) a) (Nodes ns)
      by true l ns k = record {
        good = λ n h. good-more n (λ j i. ap (λ b. has j (unwrap_or (kept_by_all u (if_tight b (traces_in m ks)) a.set) [])) l ∙ i) (f.good n (k.1 n h));
        truth = λ i. no i;
        tight = λ i. no (sym i ∙ l);
      }
      by false l ns k =
          let tight = f.tight l in
          let set : ns ≡ (filtered u (traces_in m ks) a).set =
          sym (ap (λ o. unwrap_or o []) k.0) ∙ ap (λ ms. unwrap_or (kept_by_all u ms (nodes_of v)) []) e ∙ ap (λ xs. unwrap_or (kept_by_all u (map meaning_in (traces_in m ks)) xs) []) tight.0 ∙ ap (λ b. unwrap_or (kept_by_all u (if_tight b (traces_in m ks)) a.set) []) (sym l) in
          tight-fits m (filtered u (traces_in m ks) a) (Nodes ns) set (λ n h. tight.1 n (ap (has n) (sym tight.0) ∙ k.1 n (ap (has n) set ∙ h))) (λ i. no i)

  map-then : {A B C : Type 0} (g : B → C) (m : Option A) (k : A → Option B) → option_map g (m >>= k) ≡ (m >>= λ x. option_map g (k x))
  map-then g None k = refl
  map-then g (Some x) k = refl

  -- ---- every level

  abbrev Level : Type 0
  Level = Expr-F Pair LinkPair StepPair

  abbrev facts_level : Level → Facts
  facts_level y = expr_facts (map-Expr Pair LinkPair StepPair Facts LinkFacts Bool (λ k. k.0) (λ k. k.0) (λ k. k.0) y)

  abbrev trace_level : Level → Trace
  trace_level y = expr_trace (map-Expr Pair LinkPair StepPair Trace LinkTrace WalkTrace (λ k. k.1) (λ k. k.1) (λ k. k.1) y)

  module _ (stand : Standing w) where
    level : (y : Level) → Lawful m (facts_level y) (trace_level y)
    level (Expr-F.Number place k) = record {
      placed = λ h y n n' n'' position size. given.both (refl, refl);
      exact = λ h c node p. plain-agreed m [] [] _ _ (both refl);
      plain = λ h i c. refl;
    }
    level (Expr-F.Literal place text) = record {
      placed = λ h y n n' n'' position size. texts y n n' n'' position size _ _ _ (gives-weaker (capped-gives y.setting.most text) (λ x e. ap Some (sym e)));
      exact = λ h c node p. plain-agreed m [] [] _ _ (alike-map Text (alike-equal (capped s.most text) (capped s.most text) refl) (λ x e. refl));
      plain = λ h i c. refl;
    }
    level (Expr-F.Call place code ks) = record {
      placed = call-placed m (function_at code) code ks;
      exact = λ h c node p. call-exact m (function_at code) code refl stand ks h c node p;
      plain = λ h i c. call-plain m (function_at code) code ks h i c;
    }
    level (Expr-F.Negated place signs k) = record {
      placed = λ h y n n' n'' position size. mapped y n n' n'' position size _ _ _ (λ x. Number (signed signs x)) (numbers y n n' n'' position size _ _ _ (k.2.placed h y n n' n'' position size)) (λ x. refl);
      exact = λ h c node p. plain-agreed m _ _ _ _ (plain-mapped (λ x. Number (signed signs x)) (made m (number_of s) (number_of t) (number-same w) (k.1.asked u c) (k.1.meaning s c) (k.1.meaning t c) (k.2.exact h c node (in-converted m (k.1.asked u c) p)) p) (λ x. refl));
      plain = λ h i c. refl;
    }
    level (Expr-F.Chain k ls) = record {
      placed = λ h y. let ps = placed-links y ls (and-true _ _ h).1 in
          subst (λ ms. Placed y (λ x c. k.1.meaning x c >>= λ v. chained ms v x c)) ps.1 (chain-placed y (k.1.meaning, k.2.placed (and-true _ _ h).0 y) ps.0);
      exact = λ h c node p.
          let first : Agreed m (k.1.asked u c) (k.1.meaning s c) (k.1.meaning t c) = k.2.exact (and-true _ _ h).0 c node (links-grow ls c (k.1.asked u c) p) in
          alike-then (λ v. chained (map link_meaning_in (link_traces_in ls)) v s c) (λ v. chained (map link_meaning_in (link_traces_in ls)) v t c) first (λ v f. links-agree ls (and-true _ _ h).1 c node (k.1.asked u c) v f p);
      plain = λ h i c. links-empty ls k.0.is_plain c (k.1.asked u c) (λ j. k.2.plain j (and-true _ _ i).0 c) h;
    }
    level (Expr-F.Filter k ks) = record {
      placed = λ h. no h;
      exact = λ h c node p.
          let first : Agreed m (k.1.asked u c) (k.1.meaning s c) (k.1.meaning t c) = k.2.exact (and-true _ _ h).0 c node (record { reads = p.reads; looks = p.looks }) in
          let ps = placings m ks (and-true _ _ h).1 in
          alike-at (map-then Nodes (k.1.meaning s c) (λ v. kept_by_all s (map meaning_in (traces_in m ks)) (nodes_of v))) (map-then Nodes (k.1.meaning t c) (λ v. kept_by_all t (map meaning_in (traces_in m ks)) (nodes_of v)))
          (alike-then (λ v. option_map Nodes (kept_by_all s (map meaning_in (traces_in m ks)) (nodes_of v))) (λ v. option_map Nodes (kept_by_all t (map meaning_in (traces_in m ks)) (nodes_of v))) first
          (λ v f. filter-fits ks ps.0 ps.1 (k.1.asked u c) v f));
      plain = λ h. no h;
    }
    level (Expr-F.Path place start ks) = record {
      placed = λ h. no h;
      exact = λ h c node p.
          let b : Begun w start c = begun-agrees w start c node in
          alike-at (ap (λ ns. option_map Nodes (path_from s (steps_in ks) ns)) b.first) (ap (λ ns. option_map Nodes (path_from t (steps_in ks) ns)) b.second)
          (path-fits ks (tightly (begun start u c)) (path-agrees ks h (tightly (begun start u c)) (begun start u c) (nodes-fit m (tightly (begun start u c)) (begun start u c) refl b.solid) p));
      plain = λ h. no h;
    }
    level (Expr-F.From k ks) = record {
      placed = λ h. no h;
      exact = λ h c node p.
          let a : Asked = k.1.asked u c in
          let first : Agreed m a (k.1.meaning s c) (k.1.meaning t c) = k.2.exact (and-true _ _ h).0 c node (path-grows ks (and-true _ _ h).1 a p) in
          alike-at (map-then Nodes (k.1.meaning s c) (λ v. path_from s (steps_in ks) (nodes_of v))) (map-then Nodes (k.1.meaning t c) (λ v. path_from t (steps_in ks) (nodes_of v)))
          (alike-then (λ v. option_map Nodes (path_from s (steps_in ks) (nodes_of v))) (λ v. option_map Nodes (path_from t (steps_in ks) (nodes_of v))) first
          (λ v f. path-fits ks a (path-agrees ks (and-true _ _ h).1 a (nodes_of v) (record { good = f.good; tight = f.tight }) p)));
      plain = λ h. no h;
    }

    step-level : (y : Step-F Pair LinkPair StepPair) → StepLawful m (step_facts (map-Step Pair LinkPair StepPair Facts LinkFacts Bool (λ k. k.0) (λ k. k.0) (λ k. k.0) y)) (step_trace (map-Step Pair LinkPair StepPair Trace LinkTrace WalkTrace (λ k. k.1) (λ k. k.1) (λ k. k.1) y))
    step-level y h =
        let parts = and-true (is_told y.is_written y.axis y.test) (all_placed (facts_in m y.predicates)) h in
        let ps = placings m y.predicates parts.1 in
        step-meets m (map-Step Pair LinkPair StepPair Trace LinkTrace WalkTrace (λ k. k.1) (λ k. k.1) (λ k. k.1) y) ps.0 (sym ps.1)
        (λ i. told y.is_written (is_kind y.test && meets_texts y.axis) parts.0 i)
      where
        told : (b c : Bool) → (b || not c) ≡ true → c ≡ true → b ≡ true
        told true c i j = refl
        told false true i j = i
        told false false i j = j

    lawful : (x : Expr) → Lawful m (facts_of x) (trace x)
    lawful = pair_keeps Facts LinkFacts Bool expr_facts link_facts step_facts Trace LinkTrace WalkTrace expr_trace link_trace step_trace (Lawful m) (LinkLawful m) (StepLawful m)
        level (λ y. record { operator = refl; right = y.right.2 }) step-level

    -- what an expression gives over the first forest it gives over the other, unless a string was too long
    pub meeting : (x : Expr) → is_covered x ≡ true → MeetLaw m (trace x)
    meeting x h = (lawful x).exact h
