-- What a bind sets is the same where no list is marked that its node sets look at.
use Rattle.std.proofs.Common.{◌≡◌, ℕ, ◌==◌, Bool, true, false, not, cond, ◌&&◌, List, [], ◌∷◌, ◌++◌, map, Option, Some, None, refl, sym, ap, ◌∙◌, subst}
use Rattle.std.specs.Prelude.{filter}
use Rattle.std.specs.List.{flat_map}
use Rattle.std.proofs.lemmas.Bool.{eqb-true}
use Rattle.xf_def_syntax.specs.declared.expr.Expr.{Expr}
use Rattle.xf_def_forest.specs.declared.content.Content.{Content}
use Rattle.xf_def_forest.specs.declared.content.Content.TheVariants as content
use Rattle.xf_def_forest.specs.Forest.{Forest, is_root, is_text, is_element, is_attribute}
use Rattle.xf_def_forest.specs.Visit.{Visit, visits, has, is_first}
use Rattle.xf_def_forest.specs.Shape.{erased, shape}
use Rattle.xf_def_forest.proofs.OrderLaws.{filter-sub, map-sub, sub-different}
use Rattle.xf_def_xpath.specs.declared.value.Value.{Value}
use Rattle.xf_def_xpath.specs.Setting.{Setting, ◌>>=◌, each}
use Rattle.xf_def_xpath.specs.Conversions.{nodes_of}
use Rattle.xf_def_xpath.specs.Meaning.{meaning}
use Rattle.xf_def_xpath.specs.Asked.{Asked, has_list, found}
use Rattle.xf_def_xpath.specs.Reads.{trace, set_looks_in}
use Rattle.xf_def_xpath.specs.Agree.{numbers_of, are_apart, untexted, list_of, AreVisits, HaveOneFrame, AgreeOnLists}
use Rattle.xf_def_xpath.proofs.VisitFacts.{self-same, or-left, or-right, no, some-same, none-some, filter-and, found-number, present, found-in, found-out}
use Rattle.xf_def_xpath.proofs.SameKept.{on, kept-found}
use Rattle.xf_def_xpath.proofs.UntextedLaws.{solid-found}
use Rattle.xf_def_xpath.proofs.ForestVisits.{Each, self-found, forest-visits}
use Rattle.xf_def_xpath.proofs.ShapeVisits.{shape-untexted, shape-visits}
use Rattle.xf_def_xpath.proofs.Comparison.{Comparison, AllSolid}
use Rattle.xf_def_xpath.proofs.ValueAgree.{Premise}
use Rattle.xf_def_xpath.proofs.Gives.{Gives, nothing, both}
use Rattle.xf_def_xpath.proofs.AgreeLaw.{agreement}
use Rattle.xf_def_xpath.proofs.ForestsAgree as forests
use Rattle.xf_def_xpath.proofs.ShapesAgree as shapes
use Rattle.xf_def_xpath.proofs.ReadsAgree.{lists-told, shape-stands, parents-stand}
use Rattle.xf_def_xpath.proofs.LooksStand.{asked-stands}
use Rattle.xf_def_xpath.proofs.QuietLaws.{reads-none}
use Rattle.xf_def_xpath.proofs.TraceKeeps.{meaning-of_trace}
use Rattle.xf_def_model.specs.Rules.{Scope}
use Rattle.xf_def_model.specs.Nested.{alone, setting_for}
use Rattle.xf_law_recalculation.specs.Agree.Forests.{bare, InBoth}
use Rattle.xf_law_recalculation.proofs.AgreeLemmas.HeldShape.{shape-erased}
use Rattle.xf_law_recalculation.specs.Marks.Binds.{SameStructure, GivesTruths, IsPlace}
use Rattle.xf_law_recalculation.proofs.MarksLemmas.Reached.{Among, Free, Surrounded}
use Rattle.xf_law_recalculation.proofs.MarksLemmas.Asked.{asked-among}
use Rattle.xf_law_recalculation.proofs.MarksLemmas.Solids.{Solids, Stood, marked, in-both_stood, listed-both, closed}
use Rattle.xf_law_recalculation.proofs.MarksLemmas.ShapeHung.{all-hung}

of-given : {A : Type 0} {P : A → Type 0} {m m' : Option A} (x : A) → Gives P m m' → m ≡ Some x → P x
of-given x nothing e = none-some e
of-given {P = P} x (both p) e = subst P (some-same e) p

pub flat-on : (f g : ℕ → List ℕ) (ns : List ℕ) → ((k : ℕ) → has k ns ≡ true → f k ≡ g k) → flat_map f ns ≡ flat_map g ns
flat-on f g [] h = refl
flat-on f g (n ∷ ns) h = ap (λ l. l ++ flat_map f ns) (h n (or-left (n == n) (has n ns) (self-same n))) ∙ ap (λ l. g n ++ l) (flat-on f g ns (λ k i. h k (or-right (k == n) (has k ns) i)))

pub each-on : (f g : ℕ → Option (List ℕ)) (ns : List ℕ) → ((k : ℕ) → has k ns ≡ true → f k ≡ g k) → each f ns ≡ each g ns
each-on f g [] h = refl
each-on f g (n ∷ ns) h =
    ap (λ m. m >>= λ y. each f ns >>= λ ys. Some (y ∷ ys)) (h n (or-left (n == n) (has n ns) (self-same n)))
    ∙ ap (λ m. g n >>= λ y. m >>= λ ys. Some (y ∷ ys)) (each-on f g ns (λ k i. h k (or-right (k == n) (has k ns) i)))

module _ (scope : Scope) (now before : Forest) (lists : List ℕ) (same : SameStructure lists scope now before) (truths : GivesTruths scope) where
  abbrev V : List Visit
  V = visits now.nodes

  abbrev W : List Visit
  W = visits before.nodes

  abbrev A : List Visit
  A = bare now

  abbrev B : List Visit
  B = bare before

  abbrev S : List Visit
  S = shape V

  abbrev T : List Visit
  T = shape W

  abbrev U : List Visit
  U = map erased S

  abbrev U2 : List Visit
  U2 = map erased T

  pub va : AreVisits A
  va = forest-visits now same.trees

  pub vb : AreVisits B
  vb = forest-visits before same.trees_before

  pub u : AreVisits U
  u = shape-visits now same.trees same.below

  pub u2 : AreVisits U2
  u2 = shape-visits before same.trees_before same.below_before

  abbrev one_frame : HaveOneFrame A B
  one_frame = record { order = same.order; contents = λ n x y h k. ap (λ (z : Visit). z.content) (same.stay n x y h k) }

  abbrev solids : Solids
  solids = record {
    first = now;
    second = before;
    lists = lists;
    first_visits = va;
    second_visits = vb;
    shape_visits = u;
    hung = all-hung now same.trees same.below same.hung;
    frame = one_frame;
    listed = same.listed;
  }

  as-both : (k : ℕ) → InBoth now before k → forests.InBoth now before k
  as-both k x = record { visit = x.0; in_first = x.1; in_second = x.2 }

  abbrev AllBoth : List ℕ → Type 0
  AllBoth ns = (k : ℕ) → has k ns ≡ true → InBoth now before k

  -- ---- one node set, from one node

  module _ (e : Expr) (place : IsPlace e) (n : ℕ) (here : InBoth now before n) where
    are : forests.AreForests scope.functions None scope.given scope.given.documents now before scope.model n
    are = record {
      is_first = same.trees;
      is_second = same.trees_before;
      below = same.below;
      frame = one_frame;
      current_too = as-both n here;
      documents_stand = λ id k i. let x = same.documents id k i in (x.0, x.1);
      absent = λ id i. i;
      extend = λ code ps p i. i;
      truths = truths;
    }

    abbrev at_now : Setting
    at_now = setting_for None scope S n

    abbrev at_before : Setting
    at_before = setting_for None scope T n

    abbrev asked : Asked
    asked = (trace e).asked at_now (alone n)

    abbrev told : List ℕ
    told = set_looks_in (trace e) at_now (alone n)

    abbrev w : Comparison
    w = shapes.comparison scope.functions scope.given scope.given.documents scope.given.indexes scope.given.event now before scope.model n are same.below_before

    part : are_apart (numbers_of (filter (λ y. has_list y.content) U)) ≡ true
    part = sub-different (map-sub (λ (y : Visit). y.number) (filter-sub (λ y. has_list y.content) U)) u.apart

    told-has : (k : ℕ) (x : Visit) → has k asked.looks ≡ true → found k U ≡ Some x → has_list x.content ≡ true → has k told ≡ true
    told-has k x h i l =
        present k (filter (λ y. has y.number asked.looks) (filter (λ y. has_list y.content) U)) x
        (found-in (λ y. has y.number asked.looks) k (filter (λ y. has_list y.content) U) x part (found-in (λ y. has_list y.content) k U x u.apart i l) (ap (λ m. has m asked.looks) (found-number k U x i) ∙ h))

    told-of : (k : ℕ) → has k told ≡ true → (x : Visit) × (found k U ≡ Some x) × (has_list x.content ≡ true) × (has k asked.looks ≡ true)
    told-of k h =
        let x = kept-found (λ y. has y.number asked.looks) k (filter (λ y. has_list y.content) U) part h in
        let y = found-out (λ z. has_list z.content) k U x.0 u.apart x.1 in
        (x.0, y.0, y.1, ap (λ m. has m asked.looks) (sym (found-number k U x.0 y.0)) ∙ x.2)

    module _ (unmarked : (k : ℕ) → has k told ≡ true → has k lists ≡ false) where
      free : Free (marked solids) asked.looks
      free k h = by (found k U) refl
        where
          nowhere : (b : Bool) → (b && false) ≡ false
          nowhere true = refl
          nowhere false = refl

          of_list : (x : Visit) → found k U ≡ Some x → (l : Bool) → has_list x.content ≡ l → (has k lists && l) ≡ false
          of_list x i true l = ap (λ b. b && true) (unmarked k (told-has k x h i l))
          of_list x i false l = nowhere (has k lists)

          by : (m : Option Visit) → found k U ≡ m → (has k lists && on (λ (y : Visit). has_list y.content) m) ≡ false
          by None i = nowhere (has k lists)
          by (Some x) i = of_list x i (has_list x.content) refl

      surrounded : Surrounded (Stood solids) (marked solids) at_now (alone n)
      surrounded = record { node = in-both_stood solids n here; current = in-both_stood solids n here; documents = λ id k i f. in-both_stood solids k (same.documents id k i) }

      stood : Among (Stood solids) asked.looks
      stood = (asked-among (Stood solids) (marked solids) e place.covered at_now (closed solids) (alone n) surrounded).looks free

      lists-same : AgreeOnLists told A B
      lists-same k h = let x = told-of k h in same.listed k (listed-both solids k x.0 x.1 x.2 (stood k x.3)) (unmarked k h)

      documents-same : forests.AgreeOnDocuments told scope.given scope.given.documents now before scope.model
      documents-same id k i f = (i, as-both k (same.documents id k i))

      pub one-meaning : meaning e at_now (alone n) ≡ meaning e at_before (alone n)
      one-meaning = shapes.one-selection scope.functions scope.given scope.given.documents scope.given.indexes scope.given.event now before scope.model n are same.below_before e place.exact place.quiet (alone n) (as-both n here) lists-same documents-same

      all-lists : AgreeOnLists asked.looks A B
      all-lists = lists-told scope.functions None scope.given scope.given.documents scope.given.indexes scope.given.event now before scope.model n are same.below_before asked.looks
          (asked-stands e place.exact at_now (λ j k i. parents-stand U u j k i) (alone n)
          (shape-stands scope.functions None scope.given scope.given.documents scope.given.indexes scope.given.event now before scope.model n are same.below_before (alone n) (as-both n here))).looks lists-same

      premise : Premise w asked
      premise = record {
        lists = record {
          first = λ k i. refl;
          second = λ k i. ap (filter (λ (y : Visit). is_first k y.above)) (shape-untexted V) ∙ all-lists k i ∙ sym (ap (filter (λ (y : Visit). is_first k y.above)) (shape-untexted W));
          same = λ id k i j. record {
            first = i;
            second = i;
            solid = shapes.solid scope.functions scope.given scope.given.documents scope.given.indexes scope.given.event now before scope.model n are same.below_before k (as-both k (same.documents id k i));
          };
        };
        strings = λ k i j. no (ap (has k) (sym (reads-none e place.quiet at_now (alone n))) ∙ j);
      }

      -- the nodes that it gives stand in both
      given-solid : (v : Value) → meaning e at_now (alone n) ≡ Some v → AllSolid w (nodes_of v)
      given-solid v i =
          let fits = of-given v (agreement w (shapes.standing scope.functions scope.given scope.given.documents scope.given.indexes scope.given.event now before scope.model n are same.below_before) e place.exact (alone n)
          (shapes.solid scope.functions scope.given scope.given.documents scope.given.indexes scope.given.event now before scope.model n are same.below_before n (as-both n here)) premise).given
          (ap (λ m. m at_now (alone n)) (meaning-of_trace e) ∙ i) in
          subst (AllSolid w) (sym fits.0) fits.2

      pub given-both : (v : Value) → meaning e at_now (alone n) ≡ Some v → AllBoth (nodes_of v)
      given-both v i k h =
          let x = given-solid v i k h in
          (x.visit, ap (found k) (sym (shape-untexted V)) ∙ x.in_first, ap (found k) (sym (shape-untexted W)) ∙ x.in_second)

  -- ---- what binds take of nodes that stand in both

  pub found-now : (k : ℕ) (x : Visit) → found k (untexted A) ≡ Some x → found k S ≡ Some x
  found-now k x i = ap (found k) (sym (shape-erased V)) ∙ (solid-found U u k x (ap (found k) (shape-untexted V) ∙ i)).0

  pub found-before : (k : ℕ) (x : Visit) → found k (untexted B) ≡ Some x → found k T ≡ Some x
  found-before k x i = ap (found k) (sym (shape-erased W)) ∙ (solid-found U2 u2 k x (ap (found k) (shape-untexted W) ∙ i)).0

  -- no text stands in a root
  pub rooted-list : (X Y : List Visit) → AreVisits X → ((k : ℕ) (y : Visit) → found k X ≡ Some y → is_text y.content ≡ true → (q : ℕ) × (z : Visit) × (found q Y ≡ Some z) × (is_element z.content ≡ true) × (y.above ≡ q ∷ z.above)) →
      (n : ℕ) (r : Visit) → found n Y ≡ Some r → is_root r.content ≡ true → filter (λ y. is_first n y.above && not (is_attribute y.content)) X ≡ filter (λ y. not (is_attribute y.content)) (list_of X n)
  rooted-list X Y v hung n r e is =
      filter-and (λ y. not (is_attribute y.content)) (λ y. is_first n y.above) X
      ∙ ap (filter (λ (y : Visit). not (is_attribute y.content))) (none X (self-found X v.apart))
    where
      clash : (c : Content) → is_root c ≡ true → is_element c ≡ true → false ≡ true
      clash content.Root i j = j
      clash (content.Element name) i j = i
      clash (content.Attribute name text) i j = i
      clash (content.Text text) i j = i

      off : (y : Visit) → found y.number X ≡ Some y → is_first n y.above ≡ true → is_text y.content ≡ true → false ≡ true
      off y i f t =
          let p = hung y.number y i t in
          let named : n ≡ p.0 = eqb-true n p.0 (sym (ap (is_first n) p.4) ∙ f) in
          clash r.content is (ap (λ (z : Visit). is_element z.content) (some-same (sym e ∙ ap (λ k. found k Y) named ∙ p.2)) ∙ p.3)

      none : (ys : List Visit) → Each (λ y. found y.number X ≡ Some y) ys → filter (λ y. is_first n y.above) ys ≡ filter (λ y. is_first n y.above) (untexted ys)
      none [] i = refl
      none (y ∷ ys) i = by (is_first n y.above) (is_text y.content) refl refl (none ys i.1)
        where
          by : (f t : Bool) → is_first n y.above ≡ f → is_text y.content ≡ t → filter (λ q. is_first n q.above) ys ≡ filter (λ q. is_first n q.above) (untexted ys) →
              cond f (y ∷ filter (λ q. is_first n q.above) ys) (filter (λ q. is_first n q.above) ys) ≡ filter (λ q. is_first n q.above) (cond (not t) (y ∷ untexted ys) (untexted ys))
          by true true j k l = no (off y i.0 j k)
          by true false j k l = ap (λ m. y ∷ m) l ∙ sym (ap (λ b. cond b (y ∷ filter (λ q. is_first n q.above) (untexted ys)) (filter (λ q. is_first n q.above) (untexted ys))) j)
          by false true j k l = l
          by false false j k l = l ∙ sym (ap (λ b. cond b (y ∷ filter (λ q. is_first n q.above) (untexted ys)) (filter (λ q. is_first n q.above) (untexted ys))) j)
