-- A list of visits and the part of it that is made of whole trees: from a node of the part everything is found in the part that is found in the
-- whole list, and nothing else.
use Rattle.std.proofs.Common.{◌≡◌, ℕ, ◌==◌, Bool, true, false, cond, ◌&&◌, List, [], ◌∷◌, ◌++◌, reverse, Option, Some, None, refl, sym, ap, ◌∙◌, subst, inl, inr}
use Rattle.std.specs.Prelude.{filter, ◌⊎◌}
use Rattle.std.specs.List.{flat_map}
use Rattle.std.proofs.lemmas.Bool.{eqb-true}
use Rattle.std.proofs.lemmas.List.{reverse-append}
use Rattle.xf_name.specs.declared.axis.Axis.{Axis}
use Rattle.xf_name.specs.declared.axis.Axis.TheVariants.{Child, Attribute, Self_, Parent, Ancestor, AncestorOrSelf, Descendant, DescendantOrSelf, FollowingSibling, PrecedingSibling}
use Rattle.xf_def_syntax.specs.declared.expr.Test.{Test}
use Rattle.xf_def_syntax.specs.declared.expr.Test.TheVariants.{Node}
use Rattle.xf_def_forest.specs.Visit.{Visit, has, is_first, first_of, same_parent, above_in, ancestors_of, last_of, top_of}
use Rattle.xf_def_forest.specs.Axis.{is_on, before, after, in_range, is_reverse, on_axis, in_proximity, axis_from}
use Rattle.xf_def_forest.proofs.BackLaws.{and-true}
use Rattle.xf_def_xpath.specs.Setting.{in_order}
use Rattle.xf_def_xpath.specs.Tests.{meets}
use Rattle.xf_def_xpath.specs.Steps.{reached, begun_at}
use Rattle.xf_def_xpath.specs.Asked.{found, as_list, parent_in, list_around, lists_below}
use Rattle.xf_def_xpath.specs.Agree.{numbers_of}
use Rattle.xf_def_xpath.proofs.VisitFacts.{no, self-same, or-cases, or-left, or-right, found-number}
use Rattle.xf_def_xpath.proofs.ForestVisits.{Each, each-map, each-found, each-filter}
use Rattle.xf_law_recalculation.specs.Within.Within.{Whole, kept}

-- these nodes are in the part
abbrev pub In : (ℕ → Bool) → List ℕ → Type 0
In p ns = Each (λ n. p n ≡ true) ns

-- ---- lists of numbers

module _ (p : ℕ → Bool) where
  pub in-has : (ns : List ℕ) (k : ℕ) → In p ns → has k ns ≡ true → p k ≡ true
  in-has [] k h i = no i
  in-has (n ∷ ns) k h i = elim (or-cases (k == n) (has k ns) i) [ inl a ↦ ap p (eqb-true k n a) ∙ h.0 | inr b ↦ in-has ns k h.1 b ]

  pub in-append : (ns ms : List ℕ) → In p ns → In p ms → In p (ns ++ ms)
  in-append [] ms h i = i
  in-append (n ∷ ns) ms h i = (h.0, in-append ns ms h.1 i)

  pub in-flat : (f : ℕ → List ℕ) (ns : List ℕ) → In p ns → ((n : ℕ) → p n ≡ true → In p (f n)) → In p (flat_map f ns)
  in-flat f [] h k = tt
  in-flat f (n ∷ ns) h k = in-append (f n) (flat_map f ns) (k n h.0) (in-flat f ns h.1 k)

  pub flat-same : (f g : ℕ → List ℕ) (ns : List ℕ) → In p ns → ((n : ℕ) → p n ≡ true → f n ≡ g n) → flat_map f ns ≡ flat_map g ns
  flat-same f g [] h k = refl
  flat-same f g (n ∷ ns) h k = ap (λ l. l ++ flat_map f ns) (k n h.0) ∙ ap (λ l. g n ++ l) (flat-same f g ns h.1 k)

  in-numbers : (ys : List Visit) → Each (λ y. p y.number ≡ true) ys → In p (numbers_of ys)
  in-numbers [] h = tt
  in-numbers (y ∷ ys) h = (h.0, in-numbers ys h.1)

  -- ---- lists of visits

  pub found-kept : (n : ℕ) (all : List Visit) → p n ≡ true → found n (kept p all) ≡ found n all
  found-kept n [] h = refl
  found-kept n (x ∷ xs) h = by (p x.number) (x.number == n) refl refl (found-kept n xs h)
    where
      by : (a c : Bool) → p x.number ≡ a → (x.number == n) ≡ c → found n (kept p xs) ≡ found n xs → found n (cond a (x ∷ kept p xs) (kept p xs)) ≡ cond c (Some x) (found n xs)
      by true c i j f = ap (λ d. cond d (Some x) (found n (kept p xs))) j ∙ ap (λ m. cond c (Some x) m) f
      by false true i j f = no (sym i ∙ ap p (eqb-true x.number n j) ∙ h)
      by false false i j f = f

  pub filter-kept : (f : Visit → Bool) (ys : List Visit) → Each (λ y. f y ≡ true → p y.number ≡ true) ys → filter f (kept p ys) ≡ filter f ys
  filter-kept f [] e = refl
  filter-kept f (y ∷ ys) e = by (p y.number) (f y) refl refl (filter-kept f ys e.1)
    where
      by : (a c : Bool) → p y.number ≡ a → f y ≡ c → filter f (kept p ys) ≡ filter f ys → filter f (cond a (y ∷ kept p ys) (kept p ys)) ≡ cond c (y ∷ filter f ys) (filter f ys)
      by true c i j g = ap (λ d. cond d (y ∷ filter f (kept p ys)) (filter f (kept p ys))) j ∙ ap (λ l. cond c (y ∷ l) l) g
      by false true i j g = no (sym i ∙ e.0 j)
      by false false i j g = g

  -- what a filter leaves where it leaves nothing outside
  pub filter-in : (f : Visit → Bool) (ys : List Visit) → Each (λ y. f y ≡ true → p y.number ≡ true) ys → Each (λ y. p y.number ≡ true) (filter f ys)
  filter-in f [] e = tt
  filter-in f (y ∷ ys) e = by (f y) refl (filter-in f ys e.1)
    where
      by : (c : Bool) → f y ≡ c → Each (λ z. p z.number ≡ true) (filter f ys) → Each (λ z. p z.number ≡ true) (cond c (y ∷ filter f ys) (filter f ys))
      by true j g = (e.0 j, g)
      by false j g = g

  pub in-filter : (f : Visit → Bool) (ys : List Visit) → Each (λ y. f y ≡ true → p y.number ≡ true) ys → In p (numbers_of (filter f ys))
  in-filter f ys e = in-numbers (filter f ys) (filter-in f ys e)

  any-each : {P : Visit → Type 0} (ys : List Visit) → ((y : Visit) → P y) → Each P ys
  any-each [] h = tt
  any-each (y ∷ ys) h = (h y, any-each ys h)

  pub ordered-same : (all : List Visit) (ns : List ℕ) → In p ns → in_order (kept p all) ns ≡ in_order all ns
  ordered-same all ns h = ap numbers_of (filter-kept (λ x. has x.number ns) all (any-each all (λ y i. in-has ns y.number h i)))

  pub ordered-in : (all : List Visit) (ns : List ℕ) → In p ns → In p (in_order all ns)
  ordered-in all ns h = in-filter (λ x. has x.number ns) all (any-each all (λ y i. in-has ns y.number h i))

  -- ---- axes

  first-has : (n : ℕ) (ns : List ℕ) → is_first n ns ≡ true → has n ns ≡ true
  first-has n [] h = no h
  first-has n (m ∷ ms) h = or-left (n == m) (has n ms) h

  module _ (x y : Visit) (here : p x.number ≡ true) (whole : Whole p x) (whole_too : Whole p y) where
    up : has y.number x.above ≡ true → p y.number ≡ true
    up h = whole y.number h ∙ here

    down : has x.number y.above ≡ true → p y.number ≡ true
    down h = sym (whole_too x.number h) ∙ here

    itself : (x.number == y.number) ≡ true → p y.number ≡ true
    itself h = ap p (sym (eqb-true x.number y.number h)) ∙ here

    beside : same_parent x.above y.above ≡ true → p y.number ≡ true
    beside h = by x.above y.above refl refl h
      where
        by : (ns ms : List ℕ) → x.above ≡ ns → y.above ≡ ms → same_parent ns ms ≡ true → p y.number ≡ true
        by [] ms i j k = no k
        by (n ∷ ns) ms i j k =
            sym (whole_too n (ap (has n) j ∙ first-has n ms k)) ∙ whole n (ap (has n) i ∙ or-left (n == n) (has n ns) (self-same n)) ∙ here

    pub on-in : (axis : Axis) → is_on axis x y ≡ true → p y.number ≡ true
    on-in Child h = down (first-has x.number y.above (and-true _ _ h).0)
    on-in Attribute h = down (first-has x.number y.above (and-true _ _ h).0)
    on-in Self_ h = itself h
    on-in Parent h = up (first-has y.number x.above h)
    on-in Ancestor h = up h
    on-in AncestorOrSelf h = elim (or-cases (has y.number x.above) (x.number == y.number) h) [ inl a ↦ up a | inr b ↦ itself b ]
    on-in Descendant h = down (and-true _ _ h).0
    on-in DescendantOrSelf h = elim (or-cases (has x.number y.above && _) (x.number == y.number) h) [ inl a ↦ down (and-true _ _ a).0 | inr b ↦ itself b ]
    on-in FollowingSibling h = beside (and-true _ _ (and-true _ _ h).0).0
    on-in PrecedingSibling h = beside (and-true _ _ (and-true _ _ h).0).0

  after-kept : (n : ℕ) (all : List Visit) → p n ≡ true → after n (kept p all) ≡ kept p (after n all)
  after-kept n [] h = refl
  after-kept n (y ∷ ys) h = by (p y.number) (y.number == n) refl refl (after-kept n ys h)
    where
      by : (a c : Bool) → p y.number ≡ a → (y.number == n) ≡ c → after n (kept p ys) ≡ kept p (after n ys) → after n (cond a (y ∷ kept p ys) (kept p ys)) ≡ kept p (cond c ys (after n ys))
      by true true i j f = ap (λ d. cond d (kept p ys) (after n (kept p ys))) j
      by true false i j f = ap (λ d. cond d (kept p ys) (after n (kept p ys))) j ∙ f
      by false true i j f = no (sym i ∙ ap p (eqb-true y.number n j) ∙ h)
      by false false i j f = f

  before-kept : (n : ℕ) (all : List Visit) → p n ≡ true → before n (kept p all) ≡ kept p (before n all)
  before-kept n [] h = refl
  before-kept n (y ∷ ys) h = by (p y.number) (y.number == n) refl refl (before-kept n ys h)
    where
      by : (a c : Bool) → p y.number ≡ a → (y.number == n) ≡ c → before n (kept p ys) ≡ kept p (before n ys) →
          before n (cond a (y ∷ kept p ys) (kept p ys)) ≡ kept p (cond c [] (y ∷ before n ys))
      by true true i j f = ap (λ d. cond d [] (y ∷ before n (kept p ys))) j
      by true false i j f = ap (λ d. cond d [] (y ∷ before n (kept p ys))) j ∙ ap (λ l. y ∷ l) f ∙ sym (ap (λ d. cond d (y ∷ kept p (before n ys)) (kept p (before n ys))) i)
      by false true i j f = no (sym i ∙ ap p (eqb-true y.number n j) ∙ h)
      by false false i j f = f ∙ sym (ap (λ d. cond d (y ∷ kept p (before n ys)) (kept p (before n ys))) i)

  range-kept : (axis : Axis) (n : ℕ) (all : List Visit) → p n ≡ true → in_range axis n (kept p all) ≡ kept p (in_range axis n all)
  range-kept Child n all h = refl
  range-kept Attribute n all h = refl
  range-kept Self_ n all h = refl
  range-kept Parent n all h = refl
  range-kept Ancestor n all h = refl
  range-kept AncestorOrSelf n all h = refl
  range-kept Descendant n all h = refl
  range-kept DescendantOrSelf n all h = refl
  range-kept FollowingSibling n all h = after-kept n all h
  range-kept PrecedingSibling n all h = before-kept n all h

  module _ (P : Visit → Type 0) where
    after-each : (n : ℕ) (all : List Visit) → Each P all → Each P (after n all)
    after-each n [] e = tt
    after-each n (y ∷ ys) e = by (y.number == n) (after-each n ys e.1)
      where
        by : (c : Bool) → Each P (after n ys) → Each P (cond c ys (after n ys))
        by true f = e.1
        by false f = f

    before-each : (n : ℕ) (all : List Visit) → Each P all → Each P (before n all)
    before-each n [] e = tt
    before-each n (y ∷ ys) e = by (y.number == n) (before-each n ys e.1)
      where
        by : (c : Bool) → Each P (before n ys) → Each P (cond c [] (y ∷ before n ys))
        by true f = tt
        by false f = (e.0, f)

    range-each : (axis : Axis) (n : ℕ) (all : List Visit) → Each P all → Each P (in_range axis n all)
    range-each Child n all e = e
    range-each Attribute n all e = e
    range-each Self_ n all e = e
    range-each Parent n all e = e
    range-each Ancestor n all e = e
    range-each AncestorOrSelf n all e = e
    range-each Descendant n all e = e
    range-each DescendantOrSelf n all e = e
    range-each FollowingSibling n all e = after-each n all e
    range-each PrecedingSibling n all e = before-each n all e

    each-append : (xs ys : List Visit) → Each P xs → Each P ys → Each P (xs ++ ys)
    each-append [] ys d e = e
    each-append (x ∷ xs) ys d e = (d.0, each-append xs ys d.1 e)

    each-reverse : (xs : List Visit) → Each P xs → Each P (reverse xs)
    each-reverse [] e = tt
    each-reverse (x ∷ xs) e = subst (Each P) (sym (reverse-append (x ∷ []) xs)) (each-append (reverse xs) (x ∷ []) (each-reverse xs e.1) (e.0, tt))

    proximity-each : (axis : Axis) (ys : List Visit) → Each P ys → Each P (in_proximity axis ys)
    proximity-each axis ys e = by (is_reverse axis)
      where
        by : (c : Bool) → Each P (cond c (reverse ys) ys)
        by true = each-reverse ys e
        by false = e

  -- ---- from a node of the part

  module _ (all : List Visit) (whole : Each (Whole p) all) where
    on_axis-in : (axis : Axis) (x : Visit) → p x.number ≡ true → Whole p x → Each (λ y. is_on axis x y ≡ true → p y.number ≡ true) (in_range axis x.number all)
    on_axis-in axis x here w = range-each (λ y. is_on axis x y ≡ true → p y.number ≡ true) axis x.number all
        (each-map (Whole p) (λ y. is_on axis x y ≡ true → p y.number ≡ true) all (λ y wy. on-in x y here w wy axis) whole)

    on_axis-same : (axis : Axis) (x : Visit) → p x.number ≡ true → Whole p x → on_axis axis (kept p all) x ≡ on_axis axis all x
    on_axis-same axis x here w = ap (filter (is_on axis x)) (range-kept axis x.number all here) ∙ filter-kept (is_on axis x) (in_range axis x.number all) (on_axis-in axis x here w)

    pub reached-same : (axis : Axis) (test : Test) (n : ℕ) → p n ≡ true → reached axis test (kept p all) n ≡ reached axis test all n
    reached-same axis test n h = ap (λ m. numbers_of (filter (λ y. meets axis test y.content) (axis_from axis (kept p all) m))) (found-kept n all h) ∙ by (found n all) refl
      where
        by : (m : Option Visit) → found n all ≡ m → numbers_of (filter (λ y. meets axis test y.content) (axis_from axis (kept p all) m)) ≡ numbers_of (filter (λ y. meets axis test y.content) (axis_from axis all m))
        by None e = refl
        by (Some x) e =
            ap (λ l. numbers_of (filter (λ y. meets axis test y.content) (in_proximity axis l)))
            (on_axis-same axis x (ap p (found-number n all x e) ∙ h) (each-found (Whole p) n all x whole e))

    pub reached-in : (axis : Axis) (test : Test) (n : ℕ) → p n ≡ true → In p (reached axis test all n)
    reached-in axis test n h = by (found n all) refl
      where
        by : (m : Option Visit) → found n all ≡ m → In p (numbers_of (filter (λ y. meets axis test y.content) (axis_from axis all m)))
        by None e = tt
        by (Some x) e =
            let here : p x.number ≡ true = ap p (found-number n all x e) ∙ h in
            in-numbers (filter (λ y. meets axis test y.content) (in_proximity axis (on_axis axis all x)))
            (each-filter (λ y. p y.number ≡ true) (λ y. meets axis test y.content) (in_proximity axis (on_axis axis all x))
            (proximity-each (λ y. p y.number ≡ true) axis (on_axis axis all x)
            (filter-in (is_on axis x) (in_range axis x.number all) (on_axis-in axis x here (each-found (Whole p) n all x whole e)))))

    pub begun-same : (is_below : Bool) (ns : List ℕ) → In p ns → begun_at is_below (kept p all) ns ≡ begun_at is_below all ns
    begun-same false ns h = refl
    begun-same true ns h =
        ap (in_order (kept p all)) (flat-same (reached DescendantOrSelf Node (kept p all)) (reached DescendantOrSelf Node all) ns h (λ n i. reached-same DescendantOrSelf Node n i))
        ∙ ordered-same all (flat_map (reached DescendantOrSelf Node all) ns) (in-flat (reached DescendantOrSelf Node all) ns h (λ n i. reached-in DescendantOrSelf Node n i))

    pub begun-in : (is_below : Bool) (ns : List ℕ) → In p ns → In p (begun_at is_below all ns)
    begun-in false ns h = h
    begun-in true ns h = ordered-in all (flat_map (reached DescendantOrSelf Node all) ns) (in-flat (reached DescendantOrSelf Node all) ns h (λ n i. reached-in DescendantOrSelf Node n i))

    -- ---- above

    pub above-same : (n : ℕ) → p n ≡ true → ancestors_of n (kept p all) ≡ ancestors_of n all
    above-same n h = ap above_in (found-kept n all h)

    last-in : (n : ℕ) (ns : List ℕ) → (last_of n ns ≡ n) ⊎ (has (last_of n ns) ns ≡ true)
    last-in n [] = inl refl
    last-in n (m ∷ ms) = elim (last-in m ms) [
      | inl e ↦ inr (or-left (last_of m ms == m) (has (last_of m ms) ms) (ap (λ k. k == m) e ∙ self-same m))
      | inr i ↦ inr (or-right (last_of m ms == m) (has (last_of m ms) ms) i)
    ]

    -- what stands above a node that is found
    pub up-in : (n : ℕ) (x : Visit) → found n all ≡ Some x → p n ≡ true → (k : ℕ) → has k x.above ≡ true → p k ≡ true
    up-in n x e h k i = each-found (Whole p) n all x whole e k i ∙ ap p (found-number n all x e) ∙ h

    pub top-same : (n : ℕ) → p n ≡ true → top_of n (kept p all) ≡ top_of n all
    top-same n h = ap (last_of n) (above-same n h)

    pub top-in : (n : ℕ) → p n ≡ true → p (top_of n all) ≡ true
    top-in n h = by (found n all) refl
      where
        by : (m : Option Visit) → found n all ≡ m → p (last_of n (above_in m)) ≡ true
        by None e = h
        by (Some x) e = elim (last-in n x.above) [ inl i ↦ ap p i ∙ h | inr i ↦ up-in n x e h (last_of n x.above) i ]

    pub around-same : (n : ℕ) → p n ≡ true → list_around (kept p all) n ≡ list_around all n
    around-same n h = ap parent_in (found-kept n all h)

    pub around-in : (n : ℕ) → p n ≡ true → In p (list_around all n)
    around-in n h = by (found n all) refl
      where
        of : (ns : List ℕ) → ((k : ℕ) → has k ns ≡ true → p k ≡ true) → In p (as_list (first_of ns))
        of [] k = tt
        of (m ∷ ms) k = (k m (or-left (m == m) (has m ms) (self-same m)), tt)

        by : (m : Option Visit) → found n all ≡ m → In p (parent_in m)
        by None e = tt
        by (Some x) e = of x.above (up-in n x e h)

    -- ---- below

    below-each : (n : ℕ) → p n ≡ true → Each (λ y. has n y.above ≡ true → p y.number ≡ true) all
    below-each n h = each-map (Whole p) (λ y. has n y.above ≡ true → p y.number ≡ true) all (λ y w i. sym (w n i) ∙ h) whole

    pub below-same : (n : ℕ) → p n ≡ true → lists_below (kept p all) n ≡ lists_below all n
    below-same n h = ap (λ ys. n ∷ numbers_of ys) (filter-kept (λ y. has n y.above) all (below-each n h))

    pub below-in : (n : ℕ) → p n ≡ true → In p (lists_below all n)
    below-in n h = (h, in-filter (λ y. has n y.above) all (below-each n h))
