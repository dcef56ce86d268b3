-- The shapes of now and of before meet on what a node set asks: all their texts are known, and all string values are empty.
use Rattle.std.proofs.Common.{◌≡◌, ℕ, Bool, true, false, not, cond, ◌&&◌, ◌||◌, List, [], ◌∷◌, ◌++◌, map, Option, Some, None, option_map, refl, sym, ap, ◌∙◌, subst, inl, inr}
use Rattle.std.specs.Prelude.{filter}
use Rattle.std.specs.List.{flat_map}
use Rattle.std.proofs.lemmas.Bool.{cases_Bool}
use Rattle.xf_def_syntax.specs.declared.expr.Expr.{Expr}
use Rattle.xf_def_forest.specs.declared.content.Content.{Content}
use Rattle.xf_def_forest.specs.declared.content.Content.TheVariants as content
use Rattle.xf_def_forest.specs.Forest.{Forest, is_text, is_element, own_text}
use Rattle.xf_def_forest.specs.Visit.{Visit, visits, has, is_first}
use Rattle.xf_def_forest.specs.StringValue.{characters, text_below, value_in, string_value}
use Rattle.xf_def_forest.specs.Shape.{erased, without_text, shape}
use Rattle.xf_def_forest.proofs.OrderLaws.{filter-sub, map-sub, sub-different}
use Rattle.xf_def_xpath.specs.Setting.{Setting}
use Rattle.xf_def_xpath.specs.Conversions.{nodes_of}
use Rattle.xf_def_xpath.specs.Asked.{Asked, has_list, found}
use Rattle.xf_def_xpath.specs.Reads.{trace, set_looks_in}
use Rattle.xf_def_xpath.specs.Agree.{numbers_of, are_apart, untexted, list_of, AreVisits, HaveOneFrame}
use Rattle.xf_def_xpath.proofs.VisitFacts.{no, filter-and, filter-same, found-number, present, found-in}
use Rattle.xf_def_xpath.proofs.SameKept.{on}
use Rattle.xf_def_xpath.proofs.AxisAgree.{Frame}
use Rattle.xf_def_xpath.proofs.UntextedLaws.{solid-found}
use Rattle.xf_def_xpath.proofs.ForestVisits.{found-erased}
use Rattle.xf_def_xpath.proofs.ShapeVisits.{shape-untexted}
use Rattle.xf_def_xpath.proofs.Comparison.{Comparison}
use Rattle.xf_def_xpath.proofs.ForestsAgree as forests
use Rattle.xf_def_xpath.proofs.ShapesAgree as shapes
use Rattle.xf_def_model.specs.Rules.{Scope}
use Rattle.xf_def_model.specs.Nested.{alone, setting_for}
use Rattle.xf_law_recalculation.specs.Agree.Covered.{is_covered}
use Rattle.xf_law_recalculation.specs.Agree.Settles.{AreHung}
use Rattle.xf_law_recalculation.specs.Agree.Kept.{is_known, kept}
use Rattle.xf_law_recalculation.specs.Agree.Forests.{bare, InBoth}
use Rattle.xf_law_recalculation.proofs.AgreeLemmas.Alike.{Alike, alike-weaker}
use Rattle.xf_law_recalculation.proofs.AgreeLemmas.Covers.{IsShaped}
use Rattle.xf_law_recalculation.proofs.AgreeLemmas.HeldShape.{shape-erased}
use Rattle.xf_law_recalculation.proofs.AgreeLemmas.LooseLaw.{meeting}
use Rattle.xf_law_recalculation.proofs.AgreeLemmas.LooseStep.{Good}
use Rattle.xf_law_recalculation.proofs.AgreeLemmas.Meeting.{Meeting, Asks}
use Rattle.xf_law_recalculation.specs.Marks.Binds.{SameStructure, GivesTruths}
use Rattle.xf_law_recalculation.proofs.MarksLemmas.TextLists.{opened}
use Rattle.xf_law_recalculation.proofs.MarksLemmas.Reached.{Among, Free, Surrounded}
use Rattle.xf_law_recalculation.proofs.MarksLemmas.Asked.{asked-among}
use Rattle.xf_law_recalculation.proofs.MarksLemmas.Solids.{Solids, Stood, marked, in-both_stood, listed-both, closed}
use Rattle.xf_law_recalculation.proofs.MarksLemmas.ShapeHung.{shape-texts, all-hung}
use Rattle.xf_law_recalculation.proofs.MarksLemmas.BindLaws.{va, vb, u, u2}
use Rattle.xf_law_recalculation.specs.Bind.WithTexts.{SameWithTexts}
use Rattle.xf_law_recalculation.proofs.BindLemmas.Pair.{Pair, same-shaped, shape-order}
use Rattle.xf_law_recalculation.proofs.BindLemmas.ShapeLists.{shape-list, no-list}

-- ---- string values over a shape

own-none : (c : Content) → own_text (without_text c) ≡ []
own-none content.Root = refl
own-none (content.Element name) = refl
own-none (content.Attribute name text) = refl
own-none (content.Text text) = refl

characters-none : (b : Bool) (c : Content) → cond b (characters (without_text c)) [] ≡ []
characters-none false c = refl
characters-none true content.Root = refl
characters-none true (content.Element name) = refl
characters-none true (content.Attribute name text) = refl
characters-none true (content.Text text) = refl

below-none : (n : ℕ) (xs : List Visit) → flat_map (text_below n) (map erased xs) ≡ []
below-none n [] = refl
below-none n (x ∷ xs) = ap (λ l. l ++ flat_map (text_below n) (map erased xs)) (characters-none (has n x.above) x.content) ∙ below-none n xs

no-string : (n : ℕ) (xs : List Visit) → string_value n (map erased xs) ≡ []
no-string n xs = ap (value_in (map erased xs)) (found-erased n xs) ∙ by (found n xs)
  where
    by : (o : Option Visit) → value_in (map erased xs) (option_map erased o) ≡ []
    by None = refl
    by (Some x) = ap (λ l. l ++ flat_map (text_below x.number) (map erased xs)) (own-none x.content) ∙ below-none x.number xs

shape-string : (n : ℕ) (all : List Visit) → string_value n (shape all) ≡ []
shape-string n all = ap (string_value n) (sym (shape-erased all)) ∙ no-string n (shape all)

-- ---- lists of visits

abbrev every : ℕ → Bool
every n = true

kept-every : (xs : List Visit) → kept every xs ≡ xs
kept-every [] = refl
kept-every (x ∷ xs) = ap (λ b. cond b (x ∷ kept every xs) (kept every xs)) (any (is_text x.content) x.above) ∙ ap (λ l. x ∷ l) (kept-every xs)
  where
    any : (b : Bool) (ns : List ℕ) → (not b || is_known every ns) ≡ true
    any false ns = refl
    any true [] = refl
    any true (n ∷ ns) = refl

turn : (a b : Bool) → (a && b) ≡ (b && a)
turn true true = refl
turn true false = refl
turn false true = refl
turn false false = refl

swap : (p q : Visit → Bool) (xs : List Visit) → filter p (filter q xs) ≡ filter q (filter p xs)
swap p q xs = sym (filter-and p q xs) ∙ filter-same (λ y. q y && p y) (λ y. p y && q y) (λ y. turn (q y) (p y)) xs ∙ filter-and q p xs

-- parents stand among all, too
whole-closed : (all : List Visit) → AreVisits all → (k n : ℕ) (ns : List ℕ) (x : Visit) → found k all ≡ Some x → x.above ≡ n ∷ ns → option_map (λ (z : Visit). z.above) (found n all) ≡ Some ns
whole-closed all v k n ns x e i =
    let z = opened (found n (untexted all)) ns (v.closed k n ns x e i) in
    ap (option_map (λ (q : Visit). q.above)) (solid-found all v n z.0 z.1).0 ∙ ap Some z.2

-- texts of a shape stand in its elements
module _ (forest : Forest) (same_trees : AreVisits (map erased (shape (visits forest.nodes)))) (texts : (k : ℕ) (y : Visit) → found k (map erased (shape (visits forest.nodes))) ≡ Some y → is_text y.content ≡ true → (q : ℕ) × (z : Visit) × (found q (bare forest) ≡ Some z) × (is_element z.content ≡ true) × (y.above ≡ q ∷ z.above))
    (forest_visits : AreVisits (bare forest)) where
  element-solid : (c : Content) → is_element c ≡ true → not (is_text c) ≡ true
  element-solid content.Root h = refl
  element-solid (content.Element name) h = refl
  element-solid (content.Attribute name text) h = refl
  element-solid (content.Text text) h = no h

  hung-shape : AreHung (map erased (shape (visits forest.nodes)))
  hung-shape k x e t =
      let p = texts k x e t in
      let solid = found-in (λ y. not (is_text y.content)) p.0 (bare forest) p.1 forest_visits.apart p.2 (element-solid p.1.content p.3) in
      (p.0, p.1, (solid-found (map erased (shape (visits forest.nodes))) same_trees p.0 p.1 (ap (found p.0) (shape-untexted (visits forest.nodes)) ∙ solid)).0, p.3, p.4)

module _ (scope : Scope) (now before : Forest) (lists : List ℕ) (same : SameWithTexts lists scope now before) (truths : GivesTruths scope) where
  abbrev st : SameStructure lists scope now before
  st = same.structure

  abbrev A : List Visit
  A = bare now

  abbrev B : List Visit
  B = bare before

  abbrev S : List Visit
  S = shape (visits now.nodes)

  abbrev T : List Visit
  T = shape (visits before.nodes)

  abbrev U : List Visit
  U = map erased S

  abbrev U2 : List Visit
  U2 = map erased T

  abbrev uv : AreVisits U
  uv = u scope now before lists st truths

  abbrev uv2 : AreVisits U2
  uv2 = u2 scope now before lists st truths

  abbrev pair : Pair
  pair = record {
    first = now;
    second = before;
    trees = st.trees;
    trees_too = st.trees_before;
    below = st.below;
    below_too = st.below_before;
    stay = st.stay;
    order = same.order;
  }

  abbrev one_frame : HaveOneFrame A B
  one_frame = record { order = st.order; contents = λ n x y h k. ap (λ (z : Visit). z.content) (st.stay n x y h k) }

  abbrev solids : Solids
  solids = record {
    first = now;
    second = before;
    lists = lists;
    first_visits = va scope now before lists st truths;
    second_visits = vb scope now before lists st truths;
    shape_visits = uv;
    hung = all-hung now st.trees st.below st.hung;
    frame = one_frame;
    listed = st.listed;
  }

  as-both : (k : ℕ) → InBoth now before k → forests.InBoth now before k
  as-both k x = record { visit = x.0; in_first = x.1; in_second = x.2 }

  sv : AreVisits S
  sv = subst AreVisits (shape-erased (visits now.nodes)) uv

  tv : AreVisits T
  tv = subst AreVisits (shape-erased (visits before.nodes)) uv2

  frame : Frame (kept every U) (kept every U2)
  frame = subst (λ l. Frame l (kept every U2)) (sym (kept-every U ∙ shape-erased (visits now.nodes))) (subst (λ l. Frame S l) (sym (kept-every U2 ∙ shape-erased (visits before.nodes))) (record {
    apart = sv.apart;
    apart_too = tv.apart;
    closed = whole-closed S sv;
    closed_too = whole-closed T tv;
    order = shape-order pair;
    contents = λ n x y h k. ap (λ (z : Visit). z.content) (same-shaped pair n x y h k);
  }))

  -- a node of both shapes
  abbrev pub InShapes : ℕ → Type 0
  InShapes k = (x : Visit) × (found k (shape (visits now.nodes)) ≡ Some x) × (found k (shape (visits before.nodes)) ≡ Some x)

  -- ---- one node set, from one node

  module _ (e : Expr) (covered : is_covered e ≡ true) (n : ℕ) (here : InBoth now before n) where
    are : forests.AreForests scope.functions None scope.given scope.given.documents now before scope.model n
    are = record {
      is_first = st.trees;
      is_second = st.trees_before;
      below = st.below;
      frame = one_frame;
      current_too = as-both n here;
      documents_stand = λ id k i. let x = st.documents id k i in (x.0, x.1);
      absent = λ id i. i;
      extend = λ code ps p i. i;
      truths = truths;
    }

    abbrev at_now : Setting
    at_now = setting_for None scope S n

    abbrev at_before : Setting
    at_before = setting_for None scope T n

    abbrev asked : Asked
    asked = (trace e).asked at_now (alone n)

    abbrev told : List ℕ
    told = set_looks_in (trace e) at_now (alone n)

    abbrev w : Comparison
    w = shapes.comparison scope.functions scope.given scope.given.documents scope.given.indexes scope.given.event now before scope.model n are st.below_before

    part : are_apart (numbers_of (filter (λ y. has_list y.content) U)) ≡ true
    part = sub-different (map-sub (λ (y : Visit). y.number) (filter-sub (λ y. has_list y.content) U)) uv.apart

    told-has : (k : ℕ) (x : Visit) → has k asked.looks ≡ true → found k U ≡ Some x → has_list x.content ≡ true → has k told ≡ true
    told-has k x h i l =
        present k (filter (λ y. has y.number asked.looks) (filter (λ y. has_list y.content) U)) x
        (found-in (λ y. has y.number asked.looks) k (filter (λ y. has_list y.content) U) x part (found-in (λ y. has_list y.content) k U x uv.apart i l) (ap (λ m. has m asked.looks) (found-number k U x i) ∙ h))

    module _ (unmarked : (k : ℕ) → has k told ≡ true → has k lists ≡ false) where
      free : Free (marked solids) asked.looks
      free k h = by (found k U) refl
        where
          nowhere : (b : Bool) → (b && false) ≡ false
          nowhere true = refl
          nowhere false = refl

          of_list : (x : Visit) → found k U ≡ Some x → (l : Bool) → has_list x.content ≡ l → (has k lists && l) ≡ false
          of_list x i true l = ap (λ b. b && true) (unmarked k (told-has k x h i l))
          of_list x i false l = nowhere (has k lists)

          by : (m : Option Visit) → found k U ≡ m → (has k lists && on (λ (y : Visit). has_list y.content) m) ≡ false
          by None i = nowhere (has k lists)
          by (Some x) i = of_list x i (has_list x.content) refl

      surrounded : Surrounded (Stood solids) (marked solids) at_now (alone n)
      surrounded = record { node = in-both_stood solids n here; current = in-both_stood solids n here; documents = λ id k i f. in-both_stood solids k (st.documents id k i) }

      stood : Among (Stood solids) asked.looks
      stood = (asked-among (Stood solids) (marked solids) e covered at_now (closed solids) (alone n) surrounded).looks free

      -- the lists that are looked at are the same, texts counted
      lists-same : (k : ℕ) → has k asked.looks ≡ true → filter (λ y. is_first k y.above) S ≡ filter (λ y. is_first k y.above) T
      lists-same k h =
          let x = stood k h in
          elim (cases_Bool (has_list x.0.content)) [
            | inl a ↦
                let both = listed-both solids k x.0 x.1 a x in
                let unmarked_list = unmarked k (told-has k x.0 h x.1 a) in
                shape-list pair k (record { here = both; listed = st.listed k both unmarked_list; mixed = same.mixed k both unmarked_list })
            | inr b ↦ no-list pair k x.0 (ap (found k) (sym (shape-erased (visits now.nodes))) ∙ x.1) b
          ]

      kept-lists : (k : ℕ) → has k asked.looks ≡ true → filter (λ y. is_first k y.above) (kept every U) ≡ filter (λ y. is_first k y.above) (kept every U2)
      kept-lists k h =
          ap (filter (λ (y : Visit). is_first k y.above)) (kept-every U ∙ shape-erased (visits now.nodes)) ∙ lists-same k h
          ∙ sym (ap (filter (λ (y : Visit). is_first k y.above)) (kept-every U2 ∙ shape-erased (visits before.nodes)))

      solid-lists : (k : ℕ) → has k asked.looks ≡ true → list_of U k ≡ list_of U2 k
      solid-lists k h =
          ap (λ l. list_of l k) (shape-erased (visits now.nodes))
          ∙ swap (λ y. is_first k y.above) (λ y. not (is_text y.content)) S
          ∙ ap (filter (λ (y : Visit). not (is_text y.content))) (lists-same k h)
          ∙ swap (λ y. not (is_text y.content)) (λ y. is_first k y.above) T
          ∙ ap (λ l. list_of l k) (sym (shape-erased (visits before.nodes)))

      strings-same : (k : ℕ) → string_value k S ≡ string_value k T
      strings-same k = shape-string k (visits now.nodes) ∙ sym (shape-string k (visits before.nodes))

      hung : AreHung U
      hung = hung-shape now uv (λ k y i t. shape-texts now st.trees st.below st.hung k y i t) (va scope now before lists st truths)

      hung-too : AreHung U2
      hung-too = hung-shape before uv2 (λ k y i t. shape-texts before st.trees_before st.below_before st.hung_before k y i t) (vb scope now before lists st truths)

      shaped : IsShaped (λ k. None) U U
      shaped = record { visits = uv; shape_visits = uv; rest = refl; one = λ q z i el s. no s; only = λ k q y i f s. no s; hung = hung }

      meets : Meeting w
      meets = record {
        texts = λ k. None;
        shaped = shaped;
        other_hung = hung-too;
        known = every;
        frame = frame;
        reads = asked.reads;
        looks = asked.looks;
        agree = record {
          first = λ k h. refl;
          second = solid-lists;
          same = λ id k i j. record {
            first = i;
            second = i;
            solid = shapes.solid scope.functions scope.given scope.given.documents scope.given.indexes scope.given.event now before scope.model n are st.below_before k (as-both k (st.documents id k i));
          };
        };
        lists = kept-lists;
        read = λ k p z i j t h. refl;
        looked = λ p h i. refl;
        strings = λ k x i j t h l. strings-same k;
        texts_same = λ k q x qs i j t a h. strings-same k;
      }

      in-shapes : (k : ℕ) → Good meets asked.set k → InShapes k
      unfolding meets
      in-shapes k g = (
        g.visit,
        ap (found k) (sym (kept-every U ∙ shape-erased (visits now.nodes))) ∙ g.in_first,
        ap (found k) (sym (kept-every U2 ∙ shape-erased (visits before.nodes))) ∙ g.in_second,
      )

      all-asked : Asks meets asked
      unfolding meets
      all-asked = record { reads = λ k h. h; looks = λ k h. h }

      -- it gives the same nodes over both shapes, each the same in both
      pub one-set : Alike (λ v. (k : ℕ) → has k (nodes_of v) ≡ true → InShapes k) ((trace e).meaning at_now (alone n)) ((trace e).meaning at_before (alone n))
      one-set =
          alike-weaker (meeting meets (shapes.standing scope.functions scope.given scope.given.documents scope.given.indexes scope.given.event now before scope.model n are st.below_before) e covered (alone n)
          (shapes.solid scope.functions scope.given scope.given.documents scope.given.indexes scope.given.event now before scope.model n are st.below_before n (as-both n here)) all-asked)
          (λ v f k h. in-shapes k (f.good k h))
