-- What an expression can give and look at, where no list that it looks at is marked: nodes of a set that holds what stands above its nodes,
-- and what stands in their lists that are not marked.
use Rattle.std.proofs.Common.{◌≡◌, ℕ, ◌==◌, Bool, true, false, cond, ◌&&◌, ◌||◌, List, [], ◌∷◌, ◌++◌, Option, Some, None, option_map, unwrap_or, refl, sym, ap, ◌∙◌, subst, inl, inr}
use Rattle.std.specs.Prelude.{filter}
use Rattle.std.specs.List.{flat_map}
use Rattle.std.proofs.lemmas.Bool.{eqb-true}
use Rattle.xf_name.specs.declared.axis.Axis.{Axis}
use Rattle.xf_name.specs.declared.axis.Axis.TheVariants.{Child, Attribute, Self_, Parent, Ancestor, AncestorOrSelf, Descendant, DescendantOrSelf, FollowingSibling, PrecedingSibling}
use Rattle.xf_def_syntax.specs.declared.expr.Expr.TheOpen.{Step-F}
use Rattle.xf_def_syntax.specs.declared.expr.Operator.{Operator}
use Rattle.xf_def_syntax.specs.declared.expr.Operator.TheVariants.{Or, And, Equal, NotEqual, Less, LessOrEqual, Greater, GreaterOrEqual, Add, Subtract, Multiply, Divide, Modulo, Union}
use Rattle.xf_def_syntax.specs.declared.expr.Test.{Test}
use Rattle.xf_def_syntax.specs.declared.expr.Test.TheVariants.{Node}
use Rattle.xf_def_forest.specs.Forest.{is_text}
use Rattle.xf_def_forest.specs.Visit.{Visit, has, is_first, first_of, same_parent}
use Rattle.xf_def_forest.specs.Axis.{is_on, axis_from}
use Rattle.xf_def_forest.proofs.BackLaws.{and-true}
use Rattle.xf_def_forest.proofs.OrderLaws.{Sub}
use Rattle.xf_def_xpath.specs.Tests.{meets}
use Rattle.xf_def_xpath.specs.Given.{document_of}
use Rattle.xf_def_xpath.specs.Setting.{Setting, Focus, in_order}
use Rattle.xf_def_xpath.specs.Steps.{begun_at, reached, from_one, kept_by_all}
use Rattle.xf_def_xpath.specs.Asked.{Asked, Trace, LinkTrace, WalkTrace, found, as_list, parent_in, list_around, lists_below, plainly, both, as_truth, as_plain, with_read, all_read, asked_first, converted}
use Rattle.xf_def_xpath.specs.AskedSteps.{lists_of, read_if, if_text, text_beside, tells_kinds, is_pair, if_tight, filtered, step_asked}
use Rattle.xf_def_xpath.specs.AskedCalls as asked
use Rattle.xf_def_xpath.specs.Agree.{numbers_of, untexted, AreVisits}
use Rattle.xf_def_xpath.proofs.Options.{IfGiven, given}
use Rattle.xf_def_xpath.proofs.OrderLaws.{kept_all-sub}
use Rattle.xf_def_xpath.proofs.VisitFacts.{self-same, or-cases, or-left, or-right, no, some-same, none-some, found-number, found-in, present}
use Rattle.xf_def_xpath.proofs.SameKept.{has-append, has-left, has-right, kept-found}
use Rattle.xf_def_xpath.proofs.AxisAgree.{has-sub}
use Rattle.xf_def_xpath.proofs.UntextedLaws.{solid-found}
use Rattle.xf_def_xpath.proofs.BelowAgree.{flat-has, flat-within}
use Rattle.xf_law_recalculation.proofs.AgreeLemmas.Covers.{range-found, reached-in}
use Rattle.xf_law_recalculation.proofs.AgreeLemmas.LooseStep.{in-order_of}

-- all of them are in the set
abbrev pub Among : (ℕ → Type 0) → List ℕ → Type 0
Among Q ns = (k : ℕ) → has k ns ≡ true → Q k

-- none of them is marked
abbrev pub Free : (ℕ → Bool) → List ℕ → Type 0
Free marked ns = (k : ℕ) → has k ns ≡ true → marked k ≡ false

-- the set holds what stands above its nodes, and what stands in their lists that are not marked
pub record IsClosed (Q : ℕ → Type 0) (marked : ℕ → Bool) (all : List Visit) : Type 0 where
  pub visits : AreVisits all
  pub up : (k : ℕ) (x : Visit) → found k all ≡ Some x → Q k → Among Q x.above
  pub down : (k n : ℕ) (x : Visit) → found k all ≡ Some x → is_first n x.above ≡ true → Q n → marked n ≡ false → Q k

-- the nodes that surround an expression are in it; a document element where the list around it is not marked
pub record Surrounded (Q : ℕ → Type 0) (marked : ℕ → Bool) (s : Setting) (c : Focus) : Type 0 where
  pub node : Q c.node
  pub current : Q s.current
  pub documents : (id : List ℕ) (n : ℕ) → document_of s.model id s.given.documents ≡ Some n → Free marked (list_around s.all n) → Q n

-- what is asked is in it, where no list that is looked at is marked
pub record AskedAmong (Q : ℕ → Type 0) (marked : ℕ → Bool) (a : Asked) : Type 0 where
  pub set : Free marked a.looks → Among Q a.set
  pub looks : Free marked a.looks → Among Q a.looks

opened : (m : Option Visit) (ns : List ℕ) → option_map (λ (z : Visit). z.above) m ≡ Some ns → (z : Visit) × (m ≡ Some z) × (z.above ≡ ns)
opened None ns h = none-some h
opened (Some z) ns h = (z, refl, some-same h)

headed : (n : ℕ) (ns : List ℕ) → is_first n ns ≡ true → has n ns ≡ true
headed n [] h = no h
headed n (m ∷ ms) h = or-left (n == m) (has n ms) h

siblings-meet : (ns ms : List ℕ) → same_parent ns ms ≡ true → (p : ℕ) × (ps : List ℕ) × (ns ≡ p ∷ ps) × (is_first p ms ≡ true)
siblings-meet [] ms h = no h
siblings-meet (p ∷ ps) ms h = (p, ps, refl, h)

module _ (Q : ℕ → Type 0) (marked : ℕ → Bool) where
  pub free-left : (ns ms : List ℕ) → Free marked (ns ++ ms) → Free marked ns
  free-left ns ms h k i = h k (has-left k ns ms i)

  pub free-right : (ns ms : List ℕ) → Free marked (ns ++ ms) → Free marked ms
  free-right ns ms h k i = h k (has-right k ns ms i)

  pub free-at : (f : ℕ → List ℕ) (n : ℕ) (ns : List ℕ) → has n ns ≡ true → Free marked (flat_map f ns) → Free marked (f n)
  free-at f n ns i h k j = h k (flat-within f n ns i k j)

  pub none-in : Among Q []
  none-in k h = no h

  pub joined-in : (ns ms : List ℕ) → Among Q ns → Among Q ms → Among Q (ns ++ ms)
  joined-in ns ms h i k j = elim (has-append k ns ms j) [ inl a ↦ h k a | inr b ↦ i k b ]

  pub flat-in : (f : ℕ → List ℕ) (ns : List ℕ) → ((n : ℕ) → has n ns ≡ true → Among Q (f n)) → Among Q (flat_map f ns)
  flat-in f ns h k i = let n = flat-has f k ns i in h n.0 n.1 k n.2

  pub one-in : (n : ℕ) → Q n → Among Q (n ∷ [])
  one-in n h k i = elim (or-cases (k == n) false i) [ inl a ↦ subst Q (sym (eqb-true k n a)) h | inr b ↦ no b ]

  module _ (s : Setting) (closed : IsClosed Q marked s.all) where
    ordered-in : (ns : List ℕ) → Among Q ns → Among Q (in_order s.all ns)
    ordered-in ns h k i = h k (in-order_of s.all closed.visits.apart ns k i)

    -- ---- what stands below a node, and around it

    module _ (n : ℕ) (here : Q n) (free : Free marked (lists_below s.all n)) where
      under : (ns : List ℕ) (k : ℕ) (x : Visit) → found k s.all ≡ Some x → x.above ≡ ns → has n ns ≡ true → Q k
      under [] k x e a h = no h
      under (p ∷ ps) k x e a h = elim (or-cases (n == p) (has n ps) h) [
        | inl i ↦ closed.down k n x e (ap (is_first n) a ∙ i) here (free n (or-left (n == n) _ (self-same n)))
        | inr j ↦
            let z = opened (found p (untexted s.all)) ps (closed.visits.closed k p ps x e a) in
            let out = (solid-found s.all closed.visits p z.0 z.1).0 in
            closed.down k p x e (ap (is_first p) a ∙ self-same p) (under ps p z.0 out z.2 j)
            (free p (or-right (p == n) _ (present p (filter (λ y. has n y.above) s.all) z.0 (found-in (λ y. has n y.above) p s.all z.0 closed.visits.apart out (ap (has n) z.2 ∙ j)))))
      ]

      below-in : Among Q (lists_below s.all n)
      below-in k h = elim (or-cases (k == n) (has k (numbers_of (filter (λ y. has n y.above) s.all))) h) [
        | inl a ↦ subst Q (sym (eqb-true k n a)) here
        | inr b ↦ let y = kept-found (λ y. has n y.above) k s.all closed.visits.apart b in under y.0.above k y.0 y.1 refl y.2
      ]

    pub around-in : (n : ℕ) → Q n → Among Q (list_around s.all n)
    around-in n h = by (found n s.all) refl
      where
        first-in : (ns : List ℕ) → Among Q ns → Among Q (as_list (first_of ns))
        first-in [] i = none-in
        first-in (p ∷ ps) i = one-in p (i p (or-left (p == p) (has p ps) (self-same p)))

        by : (m : Option Visit) → found n s.all ≡ m → Among Q (parent_in m)
        by None e = none-in
        by (Some x) e = first-in x.above (closed.up n x e h)

    lists-in : (axis : Axis) (n : ℕ) → Q n → Free marked (lists_of axis s.all n) → Among Q (lists_of axis s.all n)
    lists-in Child n h f = one-in n h
    lists-in Attribute n h f = one-in n h
    lists-in Self_ n h f = none-in
    lists-in Parent n h f = none-in
    lists-in Ancestor n h f = none-in
    lists-in AncestorOrSelf n h f = none-in
    lists-in Descendant n h f = below-in n h f
    lists-in DescendantOrSelf n h f = below-in n h f
    lists-in FollowingSibling n h f = around-in n h
    lists-in PrecedingSibling n h f = around-in n h

    -- ---- what a step reaches

    module _ (n : ℕ) (x : Visit) (e : found n s.all ≡ Some x) (here : Q n) where
      named : x.number ≡ n
      named = found-number n s.all x e

      listed : Free marked (n ∷ []) → (k : ℕ) (y : Visit) → found k s.all ≡ Some y → is_first x.number y.above ≡ true → Q k
      listed f k y i h = closed.down k n y i (ap (λ m. is_first m y.above) (sym named) ∙ h) here (f n (or-left (n == n) false (self-same n)))

      itself : (k : ℕ) (y : Visit) → found k s.all ≡ Some y → (x.number == y.number) ≡ true → Q k
      itself k y i h = subst Q (sym named ∙ eqb-true x.number y.number h ∙ found-number k s.all y i) here

      above-in : (k : ℕ) (y : Visit) → found k s.all ≡ Some y → has y.number x.above ≡ true → Q k
      above-in k y i h = closed.up n x e here k (ap (λ m. has m x.above) (sym (found-number k s.all y i)) ∙ h)

      low : Free marked (lists_below s.all n) → (k : ℕ) (y : Visit) → found k s.all ≡ Some y → has x.number y.above ≡ true → Q k
      low f k y i h = under n here f y.above k y i refl (ap (λ m. has m y.above) (sym named) ∙ h)

      beside : Free marked (list_around s.all n) → (k : ℕ) (y : Visit) → found k s.all ≡ Some y → same_parent x.above y.above ≡ true → Q k
      beside f k y i h =
          let p = siblings-meet x.above y.above h in
          let up : has p.0 x.above ≡ true = ap (has p.0) p.2 ∙ or-left (p.0 == p.0) (has p.0 p.1) (self-same p.0) in
          closed.down k p.0 y i p.3 (closed.up n x e here p.0 up)
          (f p.0 (ap (λ o. has p.0 (parent_in o)) e ∙ ap (λ ns. has p.0 (as_list (first_of ns))) p.2 ∙ or-left (p.0 == p.0) false (self-same p.0)))

      on-in : (axis : Axis) → Free marked (lists_of axis s.all n) → (k : ℕ) (y : Visit) → found k s.all ≡ Some y → is_on axis x y ≡ true → Q k
      on-in Child f k y i h = listed f k y i (and-true _ _ h).0
      on-in Attribute f k y i h = listed f k y i (and-true _ _ h).0
      on-in Self_ f k y i h = itself k y i h
      on-in Parent f k y i h = above-in k y i (headed y.number x.above h)
      on-in Ancestor f k y i h = above-in k y i h
      on-in AncestorOrSelf f k y i h = elim (or-cases (has y.number x.above) (x.number == y.number) h) [ inl a ↦ above-in k y i a | inr b ↦ itself k y i b ]
      on-in Descendant f k y i h = low f k y i (and-true _ _ h).0
      on-in DescendantOrSelf f k y i h = elim (or-cases (has x.number y.above && _) (x.number == y.number) h) [ inl a ↦ low f k y i (and-true _ _ a).0 | inr b ↦ itself k y i b ]
      on-in FollowingSibling f k y i h = beside f k y i (and-true _ _ (and-true _ _ h).0).0
      on-in PrecedingSibling f k y i h = beside f k y i (and-true _ _ (and-true _ _ h).0).0

    reached-in_set : (axis : Axis) (test : Test) (n : ℕ) → Q n → Free marked (lists_of axis s.all n) → Among Q (reached axis test s.all n)
    reached-in_set axis test n h f = by (found n s.all) refl
      where
        by : (m : Option Visit) → found n s.all ≡ m → Among Q (reached axis test s.all n)
        by None e k i = no (sym (ap (λ m. has k (numbers_of (filter (λ y. meets axis test y.content) (axis_from axis s.all m)))) e) ∙ i)
        by (Some x) e k i =
            let y = reached-in s.all closed.visits.apart axis test n x e k i in
            on-in n x e h axis f k y.0 (range-found s.all closed.visits.apart axis x.number k y.0 y.1) y.2

    -- ---- what is made of what is asked

    pub plainly-among : (reads looks : List ℕ) → (Free marked looks → Among Q looks) → AskedAmong Q marked (plainly reads looks)
    plainly-among reads looks h = record { set = λ f. none-in; looks = h }

    pub plain-among : (a : Asked) → AskedAmong Q marked a → AskedAmong Q marked (as_plain a)
    plain-among a h = plainly-among a.reads a.looks h.looks

    pub truth-among : (a : Asked) → AskedAmong Q marked a → AskedAmong Q marked (as_truth a)
    truth-among a h = record { set = λ f. none-in; looks = h.looks }

    pub both-among : (a b : Asked) → AskedAmong Q marked a → AskedAmong Q marked b → AskedAmong Q marked (both a b)
    both-among a b h i = plainly-among _ _ (λ f. joined-in a.looks b.looks (h.looks (free-left a.looks b.looks f)) (i.looks (free-right a.looks b.looks f)))

    read-among : (ns : List ℕ) (a : Asked) → ((k : ℕ) → has k ns ≡ true → has k a.set ≡ true) → AskedAmong Q marked a → AskedAmong Q marked (with_read s.all ns a)
    read-among ns a part i = plainly-among _ _ (λ f.
        let own = free-left a.looks (flat_map (lists_below s.all) ns) f in
        joined-in a.looks (flat_map (lists_below s.all) ns) (i.looks own)
        (flat-in (lists_below s.all) ns (λ n j. below-in n (i.set own n (part n j)) (free-at (lists_below s.all) n ns j (free-right a.looks (flat_map (lists_below s.all) ns) f)))))

    first-part : (b : Bool) (ns : List ℕ) (k : ℕ) → has k (asked_first b ns) ≡ true → has k ns ≡ true
    first-part true ns k h = h
    first-part false [] k h = h
    first-part false (n ∷ ns) k h = elim (or-cases (k == n) false h) [ inl a ↦ or-left (k == n) (has k ns) a | inr b ↦ no b ]

    pub converted-among : (a : Asked) → AskedAmong Q marked a → AskedAmong Q marked (converted s a)
    converted-among a h = read-among (asked_first a.is_loose a.set) a (first-part a.is_loose a.set) h

    pub all-among : (a : Asked) → AskedAmong Q marked a → AskedAmong Q marked (all_read s a)
    all-among a h = read-among a.set a (λ k i. i) h

    beside-among : (b : Bool) (a : Asked) → AskedAmong Q marked a → AskedAmong Q marked (asked.beside s b a)
    beside-among true a h = h
    beside-among false a h = all-among a h

    pub computed-among : (a b : Asked) → AskedAmong Q marked a → AskedAmong Q marked b → AskedAmong Q marked (asked.computed s a b)
    computed-among a b h i = both-among (converted s a) (converted s b) (converted-among a h) (converted-among b i)

    compared-among : (a b : Asked) → AskedAmong Q marked a → AskedAmong Q marked b → AskedAmong Q marked (asked.asked_by_both s a b)
    compared-among a b h i = truth-among _ (both-among (asked.beside s b.is_truth a) (asked.beside s a.is_truth b) (beside-among b.is_truth a h) (beside-among a.is_truth b i))

    pub either-among : (a b : Asked) → AskedAmong Q marked a → AskedAmong Q marked b → AskedAmong Q marked (asked.either s a b)
    either-among a b h i = record {
      set = λ f. ordered-in (a.set ++ b.set) (joined-in a.set b.set (h.set (free-left a.looks b.looks f)) (i.set (free-right a.looks b.looks f)));
      looks = λ f. joined-in a.looks b.looks (h.looks (free-left a.looks b.looks f)) (i.looks (free-right a.looks b.looks f));
    }

    pub link-among : (o : Operator) (a b : Asked) → AskedAmong Q marked a → AskedAmong Q marked b → AskedAmong Q marked (asked.link_asked o s a b)
    link-among Or a b h i = truth-among (both a b) (both-among a b h i)
    link-among And a b h i = truth-among (both a b) (both-among a b h i)
    link-among Equal a b h i = compared-among a b h i
    link-among NotEqual a b h i = compared-among a b h i
    link-among Less a b h i = compared-among a b h i
    link-among LessOrEqual a b h i = compared-among a b h i
    link-among Greater a b h i = compared-among a b h i
    link-among GreaterOrEqual a b h i = compared-among a b h i
    link-among Add a b h i = computed-among a b h i
    link-among Subtract a b h i = computed-among a b h i
    link-among Multiply a b h i = computed-among a b h i
    link-among Divide a b h i = computed-among a b h i
    link-among Modulo a b h i = computed-among a b h i
    link-among Union a b h i = either-among a b h i

    -- ---- steps

    if-in : (b : Bool) (ns : List ℕ) → (Free marked ns → Among Q ns) → Free marked (read_if b ns) → Among Q (read_if b ns)
    if-in true ns h f = h f
    if-in false ns h f = none-in

    kept-in : (m : Option (List ℕ)) (ns : List ℕ) → IfGiven (λ ks. Sub ks ns) m → Among Q ns → Among Q (unwrap_or m [])
    kept-in None ns h i = none-in
    kept-in (Some ks) ns (given p) i = λ k j. i k (has-sub k p j)

    -- where `//` begins
    begun-in : (b : Bool) (ns : List ℕ) → Among Q ns → Free marked (read_if b (flat_map (lists_below s.all) ns)) → Among Q (begun_at b s.all ns)
    begun-in true ns h f = ordered-in _ (flat-in (reached DescendantOrSelf Node s.all) ns (λ n i. reached-in_set DescendantOrSelf Node n (h n i) (free-at (lists_below s.all) n ns i f)))
    begun-in false ns h f = h

    text-in : (n : ℕ) → Q n → (m : Option Visit) → found n s.all ≡ m → Among Q (if_text m)
    text-in n h None e = none-in
    text-in n h (Some x) e = by (is_text x.content)
      where
        by : (b : Bool) → Among Q (cond b (x.number ∷ []) [])
        by true = one-in x.number (subst Q (sym (found-number n s.all x e)) h)
        by false = none-in

    beside-in : (axis : Axis) (n : ℕ) → Q n → Among Q (text_beside axis s.all n)
    beside-in Child n h = none-in
    beside-in Attribute n h = none-in
    beside-in Self_ n h = none-in
    beside-in Parent n h = none-in
    beside-in Ancestor n h = none-in
    beside-in AncestorOrSelf n h = none-in
    beside-in Descendant n h = none-in
    beside-in DescendantOrSelf n h = none-in
    beside-in FollowingSibling n h = text-in n h (found n s.all) refl
    beside-in PrecedingSibling n h = text-in n h (found n s.all) refl

    pub step-among : (step : Step-F Trace LinkTrace WalkTrace) (a : Asked) → AskedAmong Q marked a → AskedAmong Q marked (step_asked step s a)
    step-among step a h = record {
      set = λ f.
          let from = begun-in step.is_below a.set (h.set (free-left a.looks steps (front f))) (back f) in
          ordered-in _ (joined-in (flat_map met starts) (read_if told (flat_map (text_beside step.axis s.all) starts))
          (flat-in met starts (λ n i. kept-in _ (reached step.axis step.test s.all n) (kept_all-sub s (if_tight is_loose step.predicates) (reached step.axis step.test s.all n))
          (reached-in_set step.axis step.test n (from n i) (free-at (lists_of step.axis s.all) n starts i (free-right a.looks steps (front f))))))
          (if-any told (flat_map (text_beside step.axis s.all) starts) (flat-in (text_beside step.axis s.all) starts (λ n i. beside-in step.axis n (from n i)))));
      looks = λ f.
          let own = free-left a.looks steps (front f) in
          let from = begun-in step.is_below a.set (h.set own) (back f) in
          joined-in (a.looks ++ steps) below
          (joined-in a.looks steps (h.looks own) (flat-in (lists_of step.axis s.all) starts (λ n i. lists-in step.axis n (from n i) (free-at (lists_of step.axis s.all) n starts i (free-right a.looks steps (front f))))))
          (if-in step.is_below (flat_map (lists_below s.all) a.set) (λ g. flat-in (lists_below s.all) a.set (λ n i. below-in n (h.set own n i) (free-at (lists_below s.all) n a.set i g))) (back f));
    }
      where
        starts : List ℕ
        starts = begun_at step.is_below s.all a.set

        steps : List ℕ
        steps = flat_map (lists_of step.axis s.all) starts

        below : List ℕ
        below = read_if step.is_below (flat_map (lists_below s.all) a.set)

        told : Bool
        told = tells_kinds step.is_written step.axis step.test

        is_loose : Bool
        is_loose = a.is_loose || told || is_pair step.is_below step.axis

        met : ℕ → List ℕ
        met n = unwrap_or (from_one step.axis step.test (if_tight is_loose step.predicates) s n) []

        front : Free marked ((a.looks ++ steps) ++ below) → Free marked (a.looks ++ steps)
        front f = free-left (a.looks ++ steps) below f

        back : Free marked ((a.looks ++ steps) ++ below) → Free marked below
        back f = free-right (a.looks ++ steps) below f

        if-any : (b : Bool) (ns : List ℕ) → Among Q ns → Among Q (read_if b ns)
        if-any true ns i = i
        if-any false ns i = none-in

    pub filtered-among : (ts : List Trace) (a : Asked) → AskedAmong Q marked a → AskedAmong Q marked (filtered s ts a)
    filtered-among ts a h = record { set = λ f. kept-in (kept_by_all s (if_tight a.is_loose ts) a.set) a.set (kept_all-sub s (if_tight a.is_loose ts) a.set) (h.set f); looks = h.looks }
