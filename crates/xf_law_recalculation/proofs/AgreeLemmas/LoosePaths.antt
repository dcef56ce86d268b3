-- Steps and paths over two forests that meet.
use Rattle.std.proofs.Common.{◌≡◌, ℕ, Bool, true, false, not, ◌&&◌, ◌||◌, List, [], ◌∷◌, ◌++◌, map, Option, Some, None, option_map, unwrap_or, refl, sym, ap, ◌∙◌, subst}
use Rattle.std.specs.List.{flat_map}
use Rattle.std.proofs.lemmas.List.{append-nil}
use Rattle.xf_name.specs.declared.axis.Axis.{Axis}
use Rattle.xf_name.specs.declared.axis.Axis.TheVariants.{Child, Attribute, Self_, Parent, Ancestor, AncestorOrSelf, Descendant, DescendantOrSelf, FollowingSibling, PrecedingSibling}
use Rattle.xf_def_syntax.specs.declared.expr.Expr.TheOpen.{Step-F}
use Rattle.xf_def_forest.specs.Forest.{is_text}
use Rattle.xf_def_forest.specs.Visit.{Visit, has}
use Rattle.xf_def_xpath.specs.Setting.{Setting, Meaning, Walk, each, in_order, joined}
use Rattle.xf_def_xpath.specs.Asked.{Asked, Trace, LinkTrace, WalkTrace, found, lists_below, read_for}
use Rattle.xf_def_xpath.specs.AskedSteps.{lists_of, kind_read, is_kind, meets_texts, goes_up, tells_kinds, is_pair, read_if, text_beside, if_tight, stepped, step_asked, walks_asked}
use Rattle.xf_def_xpath.specs.Steps.{reached, from_one, begun_at, walked}
use Rattle.xf_def_xpath.specs.Agree.{untexted}
use Rattle.xf_def_xpath.specs.Exact.{is_sibling}
use Rattle.xf_def_xpath.proofs.VisitFacts.{no, some-same, found-in}
use Rattle.xf_def_xpath.proofs.SameKept.{has-left, has-right}
use Rattle.xf_def_xpath.proofs.UntextedLaws.{solid-found}
use Rattle.xf_def_xpath.proofs.Comparison.{Comparison, other, over_shape, Solid, AllSolid}
use Rattle.xf_def_xpath.proofs.StepAgree.{gathered, map-through_each}
use Rattle.xf_def_xpath.proofs.ValueAgree.{Premise}
use Rattle.xf_def_xpath.proofs.AgreeSteps.{WalkLaw, step-law}
use Rattle.xf_def_xpath.proofs.Agreement.{swapped}
use Rattle.xf_law_recalculation.proofs.AgreeLemmas.Alike.{Alike, both, alike-then, alike-weaker, alike-at, alike-more, alike-of, Placing, meanings_of, at_one, at-plain}
use Rattle.xf_law_recalculation.proofs.AgreeLemmas.Meeting.{Meeting, Asks, A, B, U, kept-first, kept-second}
use Rattle.xf_law_recalculation.proofs.AgreeLemmas.LooseStep.{Good, AllGood, in-order_of, reached_over, StepAsks, loose-step}
use Rattle.xf_law_recalculation.proofs.AgreeLemmas.LooseValues.{less, premise, solid-good}
use Rattle.xf_law_recalculation.proofs.AgreeLemmas.SiblingStep.{same-solids, solid-order, sibling-set}

pub solid-swapped : (w : Comparison) (k : ℕ) → Solid w k → Solid (swapped w) k
solid-swapped w k h = record { visit = h.visit; in_shape = h.in_shape; in_first = h.in_second; in_second = h.in_first }

pub premise-swapped : (w : Comparison) (a : Asked) → Premise w a → Premise (swapped w) a
premise-swapped w a p = record {
  lists = record {
    first = p.lists.second;
    second = p.lists.first;
    same = λ id n e k. let d = p.lists.same id n e k in record { first = d.second; second = d.first; solid = solid-swapped w n d.solid };
  };
  strings = λ n i h. sym (p.strings n i h);
}

-- nodes that fit what is asked
pub record NodesFit {w : Comparison} (m : Meeting w) (a : Asked) (ns : List ℕ) : Type 0 where
  pub good : AllGood m a.set ns
  pub tight : a.is_loose ≡ false → (ns ≡ a.set) × AllSolid w a.set

-- a step: it asks no less than was asked before, and gives what fits
pub record WalkMeets {w : Comparison} (m : Meeting w) (x : WalkTrace) : Type 0 where
  pub grows : (a : Asked) → Asks m (x.asked (over_shape w) a) → Asks m a
  pub agrees : (a : Asked) (ns : List ℕ) → NodesFit m a ns → Asks m (x.asked (over_shape w) a) → Alike (NodesFit m (x.asked (over_shape w) a)) (x.walk w.setting ns) (x.walk (other w) ns)

-- nodes that are asked, each the same in both
pub nodes-fit : {w : Comparison} (m : Meeting w) (a : Asked) (ns : List ℕ) → ns ≡ a.set → AllSolid w a.set → NodesFit m a ns
nodes-fit m a ns e solid = record {
  good = λ k h. let i = ap (has k) (sym e) ∙ h in solid-good m a.set k (solid k i) i;
  tight = λ l. (e, solid);
}

-- ---- one step

or-none : (a b : Bool) → (a || b) ≡ false → (a ≡ false) × (b ≡ false)
or-none true b h = no (sym h)
or-none false b h = (refl, h)

untold : (written kind meets : Bool) → not (kind && meets) ≡ true → (written && kind && meets) ≡ false
untold true true true h = sym h
untold true true false h = refl
untold true false meets h = refl
untold false kind meets h = refl

unpaired : (below up beside : Bool) → not (below && (up || beside)) ≡ true → (below && up) ≡ false
unpaired true true beside h = sym h
unpaired true false beside h = refl
unpaired false up beside h = refl

not-told : (written kind meets : Bool) → ((kind && meets) ≡ true → written ≡ true) → (written && kind && meets) ≡ false → not (kind && meets) ≡ true
not-told true true true h i = no (sym i)
not-told false true true h i = no (h refl)
not-told written true false h i = refl
not-told written false meets h i = refl

told-same : (written kind meets : Bool) → ((kind && meets) ≡ true → written ≡ true) → (written && kind && meets) ≡ (kind && meets)
told-same true kind meets h = refl
told-same false true true h = no (h refl)
told-same false true false h = refl
told-same false false meets h = refl

module _ {w : Comparison} (m : Meeting w) (step : Step-F Trace LinkTrace WalkTrace) (ps : List Placing) (same : map (λ (t : Trace). t.meaning) step.predicates ≡ meanings_of ps)
    -- an abbreviated step meets no texts as such
    (written : (is_kind step.test && meets_texts step.axis) ≡ true → step.is_written ≡ true) where
  abbrev s : Setting
  s = w.setting

  abbrev t : Setting
  t = other w

  abbrev u : Setting
  u = over_shape w

  abbrev plain : List Meaning
  plain = meanings_of ps

  abbrev asked_at : Asked → Asked
  asked_at a = step_asked step u a

  abbrev taken_over : Setting → List Meaning → List ℕ → Option (List ℕ)
  taken_over x ms ns = option_map (λ sets. in_order x.all (joined sets)) (each (from_one step.axis step.test ms x) (begun_at step.is_below x.all ns))

  abbrev walk : WalkTrace
  walk = record { walk = λ x ns. taken_over x (map (λ (t : Trace). t.meaning) step.predicates) ns; asked = step_asked step }

  module _ (a : Asked) (p : Asks m (asked_at a)) where
    abbrev from : List ℕ
    from = begun_at step.is_below (U m) a.set

    abbrev kinds_read : List ℕ
    kinds_read = read_if (tells_kinds step.is_written step.axis step.test) (flat_map (kind_read step.axis (U m)) from)

    grows-step : Asks m a
    grows-step = less m a (asked_at a)
        (λ n h. has-left n (a.reads ++ kinds_read) _ (has-left n a.reads _ h))
        (λ n h. has-left n (a.looks ++ flat_map (lists_of step.axis (U m)) from) _ (has-left n a.looks _ h)) p

    both-true : (b c : Bool) → b ≡ true → c ≡ true → (b && c) ≡ true
    both-true true c h i = i
    both-true false c h i = h

    asks : StepAsks m step.axis step.test step.is_below a.set
    asks = record {
      kinds = λ i j k l.
          let met = both-true (is_kind step.test) (meets_texts step.axis) i j in
          let told : tells_kinds step.is_written step.axis step.test ≡ true = both-true (step.is_written && is_kind step.test) (meets_texts step.axis) (both-true step.is_written (is_kind step.test) (written met) i) j in
          p.reads k (has-left k (a.reads ++ kinds_read) _ (has-right k a.reads kinds_read (ap (λ b. has k (read_if b (flat_map (kind_read step.axis (U m)) from))) told ∙ l)));
      ups = λ i j k l.
          let pair : is_pair step.is_below step.axis ≡ true = both-true step.is_below (goes_up step.axis) j i in
          p.reads k (has-right k (a.reads ++ kinds_read) _ (ap (λ b. has k (read_if b (flat_map (read_for (U m)) a.set))) pair ∙ l));
      lists = λ k l. p.looks k (has-left k (a.looks ++ flat_map (lists_of step.axis (U m)) from) _ (has-right k a.looks (flat_map (lists_of step.axis (U m)) from) l));
      belows = λ i k l. p.looks k (has-right k (a.looks ++ flat_map (lists_of step.axis (U m)) from) _ (ap (λ b. has k (read_if b (flat_map (lists_below (U m)) a.set))) i ∙ l));
    }

    over : (x : Setting) (ns : List ℕ) → taken_over x (map (λ (t : Trace). t.meaning) step.predicates) ns ≡ option_map (in_order x.all) (gathered (from_one step.axis step.test plain x) (begun_at step.is_below x.all ns))
    over x ns = ap (λ ms. taken_over x ms ns) same ∙ map-through_each (from_one step.axis step.test plain x) (in_order x.all) (begun_at step.is_below x.all ns)

    -- the nodes are known and asked
    all-good : (ns : List ℕ) → AllGood m a.set ns → Alike (AllGood m (in_order (U m) (reached_over (U m) step.axis step.test from)))
        (taken_over s (map (λ (t : Trace). t.meaning) step.predicates) ns) (taken_over t (map (λ (t : Trace). t.meaning) step.predicates) ns)
    all-good ns good = alike-at (over s ns) (over t ns) (loose-step m step.axis step.test ps step.is_below a.set asks ns good)

    loose-fit : (asked_at a).is_loose ≡ true → (ks : List ℕ) → AllGood m (in_order (U m) (reached_over (U m) step.axis step.test from)) ks → NodesFit m (asked_at a) ks
    loose-fit e ks good = record {
      good = subst (λ b. AllGood m (stepped step.is_written step.axis step.test (if_tight b step.predicates) u from) ks) (sym e)
          (subst (λ b. AllGood m (in_order (U m) (flat_map (reached step.axis step.test (U m)) from ++ read_if b (flat_map (text_beside step.axis (U m)) from))) ks) (sym (told-same step.is_written (is_kind step.test) (meets_texts step.axis) written)) good);
      tight = λ i. no (sym i ∙ e);
    }

    -- ---- a set that stays tight

    module _ (tight : a.is_loose ≡ false) (plain_test : not (is_kind step.test && meets_texts step.axis) ≡ true) (stays_tight : (asked_at a).is_loose ≡ false) (ns : List ℕ) (fit : NodesFit m a ns) where
      solid : AllSolid w a.set
      solid = (fit.tight tight).1

      -- without what was read before; the step itself reads nothing
      abbrev before : Asked
      before = record a { reads = [] }

      step-reads : not (step.is_below && (goes_up step.axis || is_sibling step.axis)) ≡ true → (n : ℕ) → has n (asked_at before).reads ≡ true → false ≡ true
      step-reads down n h =
          sym (ap (λ b. has n (read_if b (flat_map (kind_read step.axis (U m)) from) ++ read_if (is_pair step.is_below step.axis) (flat_map (read_for (U m)) a.set))) (untold step.is_written (is_kind step.test) (meets_texts step.axis) plain_test)
          ∙ ap (λ b. has n (read_if b (flat_map (read_for (U m)) a.set))) (unpaired step.is_below (goes_up step.axis) (is_sibling step.axis) down)) ∙ h

      step-premise : not (step.is_below && (goes_up step.axis || is_sibling step.axis)) ≡ true → Premise w (asked_at before)
      step-premise down = premise m (asked_at before) (step-reads down) p.looks

      exact-fit : not (step.is_below && (goes_up step.axis || is_sibling step.axis)) ≡ true → Alike (NodesFit m (asked_at a)) (taken_over s (map (λ (t : Trace). t.meaning) step.predicates) ns) (taken_over t (map (λ (t : Trace). t.meaning) step.predicates) ns)
      exact-fit down =
          let law : WalkLaw w walk = step-law w step (at_one w ps) (same ∙ sym (at-plain w ps)) plain_test down in
          let law_too : WalkLaw (swapped w) walk = step-law (swapped w) step (at_one (swapped w) ps) (same ∙ sym (at-plain (swapped w) ps)) plain_test down in
          alike-at (ap (taken_over s (map (λ (t : Trace). t.meaning) step.predicates)) (fit.tight tight).0) (ap (taken_over t (map (λ (t : Trace). t.meaning) step.predicates)) (fit.tight tight).0)
          (alike-weaker (alike-of (taken_over s (map (λ (t : Trace). t.meaning) step.predicates) a.set) (taken_over t (map (λ (t : Trace). t.meaning) step.predicates) a.set)
          (law.agrees before tight solid (step-premise down)) (law_too.agrees before tight (λ k h. solid-swapped w k (solid k h)) (premise-swapped w (asked_at before) (step-premise down))))
          (λ ks k. nodes-fit m (asked_at a) ks k.0 k.1))

      -- after `//` a step to siblings
      abbrev chosen : List ℕ
      chosen = in_order (U m) (flat_map (λ n. unwrap_or (from_one step.axis step.test plain u n) []) from)

      chosen-asked : chosen ≡ (asked_at a).set
      chosen-asked =
          ap (in_order (U m)) (sym (append-nil (flat_map (λ n. unwrap_or (from_one step.axis step.test plain u n) []) from)))
          ∙ ap (λ b. in_order (U m) (flat_map (λ n. unwrap_or (from_one step.axis step.test plain u n) []) from ++ read_if b (flat_map (text_beside step.axis (U m)) from)))
          (sym (untold step.is_written (is_kind step.test) (meets_texts step.axis) plain_test))
          ∙ ap (λ ms. stepped step.is_written step.axis step.test ms u from) (sym same)
          ∙ ap (λ b. stepped step.is_written step.axis step.test (if_tight b step.predicates) u from) (sym stays_tight)

      sibling-fit : step.is_below ≡ true → is_sibling step.axis ≡ true → is_kind step.test ≡ false → Alike (NodesFit m (asked_at a)) (taken_over s (map (λ (t : Trace). t.meaning) step.predicates) ns) (taken_over t (map (λ (t : Trace). t.meaning) step.predicates) ns)
      sibling-fit deep beside kind =
          alike-weaker (alike-more (all-good ns fit.good) (λ ks e. exactly ks (gathered (from_one step.axis step.test plain s) (begun_at step.is_below (A m) ns)) refl (sym (over s ns) ∙ e)))
          (λ ks k. nodes-fit m (asked_at a) ks k.1.0 (λ j h. let i = ap (has j) k.1.0 ∙ h in solid-both j (k.0 j i) (k.1.1 j i)))
        where
          exactly : (ks : List ℕ) (o : Option (List ℕ)) → gathered (from_one step.axis step.test plain s) (begun_at step.is_below (A m) ns) ≡ o → option_map (in_order (A m)) o ≡ Some ks → (ks ≡ (asked_at a).set) × ((k : ℕ) → has k ks ≡ true → (y : Visit) × (found k (untexted (A m)) ≡ Some y))
          exactly ks None i j = cc j
          exactly ks (Some gs) i j =
              let r = sibling-set m step.axis step.test beside kind ps a.set solid gs (ap (λ b. gathered (from_one step.axis step.test plain s) (begun_at b (A m) a.set)) (sym deep) ∙ ap (λ l. gathered (from_one step.axis step.test plain s) (begun_at step.is_below (A m) l)) (sym (fit.tight tight).0) ∙ i) in
              let same_ks : ks ≡ in_order (A m) gs = sym (some-same j) in (
                same_ks ∙ solid-order m gs r.1 ∙ ap (in_order (U m)) r.0 ∙ ap (λ b. in_order (U m) (flat_map (λ n. unwrap_or (from_one step.axis step.test plain u n) []) (begun_at b (U m) a.set))) (sym deep) ∙ chosen-asked,
                λ k h. r.1 k (in-order_of (A m) w.visits.apart gs k (ap (has k) (sym same_ks) ∙ h)),
              )

          solid-both : (k : ℕ) → Good m (in_order (U m) (reached_over (U m) step.axis step.test from)) k → (y : Visit) × (found k (untexted (A m)) ≡ Some y) → Solid w k
          solid-both k g y =
              let out = solid-found (A m) w.visits k y.0 y.1 in
              let one : g.visit ≡ y.0 = some-same (sym (kept-first m k g.visit g.in_first).0 ∙ out.0) in
              record {
                visit = y.0;
                in_shape = ap (found k) (same-solids m) ∙ y.1;
                in_first = y.1;
                in_second = found-in (λ (z : Visit). not (is_text z.content)) k (B m) y.0 w.other_visits.apart ((kept-second m k g.visit g.in_second).0 ∙ ap Some one) out.1;
              }

      tight-fit : Alike (NodesFit m (asked_at a)) (taken_over s (map (λ (t : Trace). t.meaning) step.predicates) ns) (taken_over t (map (λ (t : Trace). t.meaning) step.predicates) ns)
      tight-fit = by step.is_below (is_sibling step.axis) refl refl
        where
          ups : step.is_below ≡ true → goes_up step.axis ≡ false
          ups deep = let loose = (or-none (a.is_loose || tells_kinds step.is_written step.axis step.test) (is_pair step.is_below step.axis) stays_tight).1 in ap (λ b. b && goes_up step.axis) (sym deep) ∙ loose

          kinds : is_sibling step.axis ≡ true → is_kind step.test ≡ false
          kinds beside = of (is_kind step.test) (meets_texts step.axis) (meets step.axis beside) plain_test
            where
              meets : (c : Axis) → is_sibling c ≡ true → meets_texts c ≡ true
              meets Child h = no h
              meets Attribute h = no h
              meets Self_ h = no h
              meets Parent h = no h
              meets Ancestor h = no h
              meets AncestorOrSelf h = no h
              meets Descendant h = no h
              meets DescendantOrSelf h = no h
              meets FollowingSibling h = refl
              meets PrecedingSibling h = refl

              of : (b c : Bool) → c ≡ true → not (b && c) ≡ true → b ≡ false
              of true true h i = no i
              of true false h i = no h
              of false c h i = refl

          by : (b c : Bool) → step.is_below ≡ b → is_sibling step.axis ≡ c → Alike (NodesFit m (asked_at a)) (taken_over s (map (λ (t : Trace). t.meaning) step.predicates) ns) (taken_over t (map (λ (t : Trace). t.meaning) step.predicates) ns)
          by false c i j = exact-fit (ap (λ b. not (b && (goes_up step.axis || is_sibling step.axis))) i)
          by true false i j = exact-fit (ap (λ b. not (b && (goes_up step.axis || is_sibling step.axis))) i ∙ ap (λ b. not (b || is_sibling step.axis)) (ups i) ∙ ap not j)
          by true true i j = sibling-fit i j (kinds j)

    pub step-fit : (ns : List ℕ) → NodesFit m a ns → Alike (NodesFit m (asked_at a)) (taken_over s (map (λ (t : Trace). t.meaning) step.predicates) ns) (taken_over t (map (λ (t : Trace). t.meaning) step.predicates) ns)
    step-fit ns fit = by (asked_at a).is_loose refl
      where
        by : (b : Bool) → (asked_at a).is_loose ≡ b → Alike (NodesFit m (asked_at a)) (taken_over s (map (λ (t : Trace). t.meaning) step.predicates) ns) (taken_over t (map (λ (t : Trace). t.meaning) step.predicates) ns)
        by true e = alike-weaker (all-good ns fit.good) (loose-fit e)
        by false e =
            let first = or-none (a.is_loose || tells_kinds step.is_written step.axis step.test) (is_pair step.is_below step.axis) e in
            let second = or-none a.is_loose (tells_kinds step.is_written step.axis step.test) first.0 in
            tight-fit second.0 (not-told step.is_written (is_kind step.test) (meets_texts step.axis) written second.1) e ns fit

  pub step-meets : WalkMeets m walk
  step-meets = record { grows = grows-step; agrees = λ a ns fit p. step-fit a p ns fit }

-- ---- a path

module _ {w : Comparison} (m : Meeting w) where
  abbrev Known : Type 0
  Known = (x : WalkTrace) × WalkMeets m x

  abbrev traces : List Known → List WalkTrace
  traces xs = map (λ (x : Known). x.0) xs

  abbrev walks : List Known → List Walk
  walks xs = map (λ (x : WalkTrace). x.walk) (traces xs)

  pub walks-grow : (xs : List Known) (a : Asked) → Asks m (walks_asked (over_shape w) (traces xs) a) → Asks m a
  walks-grow [] a p = record { reads = p.reads; looks = p.looks }
  walks-grow (x ∷ xs) a p = x.1.grows a (walks-grow xs (x.0.asked (over_shape w) a) p)

  pub walks-agree : (xs : List Known) (a : Asked) (ns : List ℕ) → NodesFit m a ns → Asks m (walks_asked (over_shape w) (traces xs) a) →
      Alike (NodesFit m (walks_asked (over_shape w) (traces xs) a)) (walked w.setting (walks xs) ns) (walked (other w) (walks xs) ns)
  walks-agree [] a ns fit p = both (record { good = fit.good; tight = fit.tight })
  walks-agree (x ∷ xs) a ns fit p =
      alike-then (walked w.setting (walks xs)) (walked (other w) (walks xs)) (x.1.agrees a ns fit (walks-grow xs (x.0.asked (over_shape w) a) p)) (λ ks k.
      walks-agree xs (x.0.asked (over_shape w) a) ks k p)
