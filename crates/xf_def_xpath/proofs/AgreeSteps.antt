-- Steps and paths over two forests that agree on what is looked at.
use Rattle.std.proofs.Common.{◌≡◌, ℕ, Bool, true, false, not, ◌&&◌, ◌||◌, List, [], ◌∷◌, ◌++◌, map, Option, option_map, unwrap_or, refl, sym, ap, ◌∙◌, subst}
use Rattle.std.specs.List.{flat_map}
use Rattle.std.proofs.lemmas.List.{append-nil}
use Rattle.xf_def_syntax.specs.declared.expr.Expr.TheOpen.{Step-F}
use Rattle.xf_def_forest.specs.Visit.{has}
use Rattle.xf_def_xpath.specs.Setting.{Setting, Meaning, Walk, each, in_order, joined}
use Rattle.xf_def_xpath.specs.Asked.{Asked, Trace, LinkTrace, WalkTrace, lists_below}
use Rattle.xf_def_xpath.specs.AskedSteps.{lists_of, kind_read, is_kind, meets_texts, goes_up, tells_kinds, read_if, text_beside, if_tight, stepped, step_asked, walks_asked}
use Rattle.xf_def_xpath.specs.Steps.{from_one, begun_at, walked}
use Rattle.xf_def_xpath.specs.Exact.{is_sibling}
use Rattle.xf_def_xpath.proofs.VisitFacts.{no}
use Rattle.xf_def_xpath.proofs.SameKept.{has-left, has-right}
use Rattle.xf_def_xpath.proofs.Comparison.{Comparison, other, over_shape, AllSolid, Agree, agree-less}
use Rattle.xf_def_xpath.proofs.Gives.{Gives, both, gives-then, gives-weaker, gives-at}
use Rattle.xf_def_xpath.proofs.PlacedLaws.{Placed}
use Rattle.xf_def_xpath.proofs.StepAgree.{gathered, map-through_each, step-agree}
use Rattle.xf_def_xpath.proofs.BelowAgree.{below-agree}
use Rattle.xf_def_xpath.proofs.ValueAgree.{Premise, less}

-- a step: it leaves a set tight, asks no less than was asked before, and gives what is asked
pub record WalkLaw (w : Comparison) (x : WalkTrace) : Type 0 where
  pub tight : (a : Asked) → a.is_loose ≡ false → (x.asked (over_shape w) a).is_loose ≡ false
  pub grows : (a : Asked) → Premise w (x.asked (over_shape w) a) → Premise w a
  pub agrees : (a : Asked) → a.is_loose ≡ false → AllSolid w a.set → Premise w (x.asked (over_shape w) a) →
      Gives (λ ks. (ks ≡ (x.asked (over_shape w) a).set) × AllSolid w (x.asked (over_shape w) a).set) (x.walk w.setting a.set) (x.walk (other w) a.set)

-- ---- one step

not-loose : (loose written kind meets below up beside : Bool) → loose ≡ false → not (kind && meets) ≡ true → not (below && (up || beside)) ≡ true → (loose || (written && kind && meets) || (below && up)) ≡ false
not-loose true written kind meets below up beside h i j = h
not-loose false written true true below up beside h i j = no i
not-loose false true true false true true beside h i j = no j
not-loose false true true false true false beside h i j = refl
not-loose false true true false false up beside h i j = refl
not-loose false true false meets true true beside h i j = no j
not-loose false true false meets true false beside h i j = refl
not-loose false true false meets false up beside h i j = refl
not-loose false false true false true true beside h i j = no j
not-loose false false true false true false beside h i j = refl
not-loose false false true false false up beside h i j = refl
not-loose false false false meets true true beside h i j = no j
not-loose false false false meets true false beside h i j = refl
not-loose false false false meets false up beside h i j = refl

untold : (written kind meets : Bool) → not (kind && meets) ≡ true → (written && kind && meets) ≡ false
untold true true true h = sym h
untold true true false h = refl
untold true false meets h = refl
untold false kind meets h = refl

-- what is looked at under a test that is known
at-below : (w : Comparison) (f : Bool → List ℕ) (b c : Bool) → b ≡ c → Agree w (f b) → Agree w (f c)
at-below w f b c e a = subst (λ x. Agree w (f x)) e a

module _ (w : Comparison) (step : Step-F Trace LinkTrace WalkTrace) (ps : List ((m : Meaning) × Placed w m)) (same : map (λ (t : Trace). t.meaning) step.predicates ≡ map (λ (p : (m : Meaning) × Placed w m). p.0) ps) where
  abbrev s : Setting
  s = w.setting

  abbrev t : Setting
  t = other w

  abbrev u : Setting
  u = over_shape w

  abbrev plain : List Meaning
  plain = map (λ (p : (m : Meaning) × Placed w m). p.0) ps

  abbrev asked_at : Asked → Asked
  asked_at a = step_asked step u a

  abbrev taken_over : Setting → List Meaning → List ℕ → Option (List ℕ)
  taken_over x ms ns = option_map (λ sets. in_order x.all (joined sets)) (each (from_one step.axis step.test ms x) (begun_at step.is_below x.all ns))

  grows-step : (a : Asked) → Premise w (asked_at a) → Premise w a
  grows-step a p = less w a (asked_at a)
      (λ n h. has-left n (a.reads ++ read_if (tells_kinds step.is_written step.axis step.test) (flat_map (kind_read step.axis u.all) (begun_at step.is_below u.all a.set))) _ (has-left n a.reads _ h))
      (λ n h. has-left n (a.looks ++ flat_map (lists_of step.axis u.all) (begun_at step.is_below u.all a.set)) _ (has-left n a.looks _ h)) p

  looks-step : (a : Asked) → Premise w (asked_at a) → Agree w (flat_map (lists_of step.axis w.shape) (begun_at step.is_below w.shape a.set))
  looks-step a p = agree-less w (λ n h. has-left n (a.looks ++ flat_map (lists_of step.axis u.all) (begun_at step.is_below u.all a.set)) _ (has-right n a.looks (flat_map (lists_of step.axis u.all) (begun_at step.is_below u.all a.set)) h)) p.lists

  looks-below : (a : Asked) → Premise w (asked_at a) → Agree w (read_if step.is_below (flat_map (lists_below w.shape) a.set))
  looks-below a p = agree-less w (λ n h. has-right n (a.looks ++ flat_map (lists_of step.axis u.all) (begun_at step.is_below u.all a.set)) (read_if step.is_below (flat_map (lists_below u.all) a.set)) h) p.lists

  module _ (exact : not (is_kind step.test && meets_texts step.axis) ≡ true) (down : not (step.is_below && (goes_up step.axis || is_sibling step.axis)) ≡ true) (a : Asked) (tight : a.is_loose ≡ false) where
    loose-none : (asked_at a).is_loose ≡ false
    loose-none = not-loose a.is_loose step.is_written (is_kind step.test) (meets_texts step.axis) step.is_below (goes_up step.axis) (is_sibling step.axis) tight exact down

    module _ (solid : AllSolid w a.set) (p : Premise w (asked_at a)) where
      -- what the step selects from these nodes over the shape
      abbrev chosen : List ℕ → List ℕ
      chosen from = in_order w.shape (flat_map (λ n. unwrap_or (from_one step.axis step.test plain u n) []) from)

      chosen-asked : chosen (begun_at step.is_below w.shape a.set) ≡ (asked_at a).set
      chosen-asked =
          ap (in_order w.shape) (sym (append-nil (flat_map (λ n. unwrap_or (from_one step.axis step.test plain u n) []) (begun_at step.is_below w.shape a.set))))
          ∙ ap (λ b. in_order w.shape (flat_map (λ n. unwrap_or (from_one step.axis step.test plain u n) []) (begun_at step.is_below w.shape a.set) ++ read_if b (flat_map (text_beside step.axis w.shape) (begun_at step.is_below w.shape a.set))))
          (sym (untold step.is_written (is_kind step.test) (meets_texts step.axis) exact))
          ∙ ap (λ ms. stepped step.is_written step.axis step.test ms u (begun_at step.is_below w.shape a.set)) (sym same)
          ∙ ap (λ b. stepped step.is_written step.axis step.test (if_tight b step.predicates) u (begun_at step.is_below w.shape a.set)) (sym loose-none)

      from-nodes : (below : Bool) → step.is_below ≡ below →
          Gives (λ ks. (ks ≡ chosen (begun_at below w.shape a.set)) × AllSolid w ks)
          (option_map (in_order s.all) (gathered (from_one step.axis step.test plain s) (begun_at below s.all a.set))) (option_map (in_order t.all) (gathered (from_one step.axis step.test plain t) (begun_at below t.all a.set)))
      from-nodes false e = step-agree w step.axis step.test ps exact a.set solid (at-below w (λ b. flat_map (lists_of step.axis w.shape) (begun_at b w.shape a.set)) step.is_below false e (looks-step a p))
      from-nodes true e = below-agree w a.set solid (at-below w (λ b. read_if b (flat_map (lists_below w.shape) a.set)) step.is_below true e (looks-below a p)) step.axis step.test ps exact
          (ap (λ b. not (b && (goes_up step.axis || is_sibling step.axis))) (sym e) ∙ down)
          (at-below w (λ b. flat_map (lists_of step.axis w.shape) (begun_at b w.shape a.set)) step.is_below true e (looks-step a p))

      over : (x : Setting) → taken_over x (map (λ (t : Trace). t.meaning) step.predicates) a.set ≡ option_map (in_order x.all) (gathered (from_one step.axis step.test plain x) (begun_at step.is_below x.all a.set))
      over x = ap (λ ms. taken_over x ms a.set) same ∙ map-through_each (from_one step.axis step.test plain x) (in_order x.all) (begun_at step.is_below x.all a.set)

      result : Gives (λ ks. (ks ≡ chosen (begun_at step.is_below w.shape a.set)) × AllSolid w ks) (taken_over s (map (λ (t : Trace). t.meaning) step.predicates) a.set) (taken_over t (map (λ (t : Trace). t.meaning) step.predicates) a.set)
      result = gives-at (over s) (over t) (from-nodes step.is_below refl)

      agrees-step : Gives (λ ks. (ks ≡ (asked_at a).set) × AllSolid w (asked_at a).set) (taken_over s (map (λ (t : Trace). t.meaning) step.predicates) a.set) (taken_over t (map (λ (t : Trace). t.meaning) step.predicates) a.set)
      agrees-step = gives-weaker result (λ ks k. (k.0 ∙ chosen-asked, λ n h. k.1 n (ap (has n) (k.0 ∙ chosen-asked) ∙ h)))

  pub step-law : not (is_kind step.test && meets_texts step.axis) ≡ true → not (step.is_below && (goes_up step.axis || is_sibling step.axis)) ≡ true →
      WalkLaw w (record { walk = λ x ns. taken_over x (map (λ (t : Trace). t.meaning) step.predicates) ns; asked = step_asked step })
  step-law exact down = record { tight = loose-none exact down; grows = grows-step; agrees = agrees-step exact down }

-- ---- a path

module _ (w : Comparison) where
  abbrev Known : Type 0
  Known = (x : WalkTrace) × WalkLaw w x

  abbrev traces : List Known → List WalkTrace
  traces xs = map (λ (x : Known). x.0) xs

  abbrev walks : List Known → List Walk
  walks xs = map (λ (x : WalkTrace). x.walk) (traces xs)

  pub walks-grow : (xs : List Known) (a : Asked) → Premise w (walks_asked (over_shape w) (traces xs) a) → Premise w a
  walks-grow [] a p = record { lists = p.lists; strings = p.strings }
  walks-grow (x ∷ xs) a p = x.1.grows a (walks-grow xs (x.0.asked (over_shape w) a) p)

  pub walks-tight : (xs : List Known) (a : Asked) → a.is_loose ≡ false → (walks_asked (over_shape w) (traces xs) a).is_loose ≡ false
  walks-tight [] a tight = tight
  walks-tight (x ∷ xs) a tight = walks-tight xs (x.0.asked (over_shape w) a) (x.1.tight a tight)

  pub walks-agree : (xs : List Known) (a : Asked) → a.is_loose ≡ false → AllSolid w a.set → Premise w (walks_asked (over_shape w) (traces xs) a) →
      Gives (λ ks. (ks ≡ (walks_asked (over_shape w) (traces xs) a).set) × AllSolid w (walks_asked (over_shape w) (traces xs) a).set) (walked w.setting (walks xs) a.set) (walked (other w) (walks xs) a.set)
  walks-agree [] a tight solid p = both (refl, solid)
  walks-agree (x ∷ xs) a tight solid p =
      gives-then (walked w.setting (walks xs)) (walked (other w) (walks xs)) (x.1.agrees a tight solid (walks-grow xs (x.0.asked (over_shape w) a) p)) (λ ks k.
      gives-at (ap (walked w.setting (walks xs)) k.0) (ap (walked (other w) (walks xs)) k.0) (walks-agree xs (x.0.asked (over_shape w) a) (x.1.tight a tight) k.1 p))
