-- Nodes that stand in both of two forests, over their shapes: their order, and what a bind takes of them.
use Rattle.std.proofs.Common.{◌≡◌, ℕ, ◌==◌, true, false, not, List, [], ◌∷◌, map, Some, refl, sym, ap, ◌∙◌, subst, inl, inr}
use Rattle.std.specs.Prelude.{filter}
use Rattle.std.proofs.lemmas.Bool.{eqb-true}
use Rattle.xf_def_forest.specs.declared.content.Content.{Content}
use Rattle.xf_def_forest.specs.declared.content.Content.TheVariants as content
use Rattle.xf_def_forest.specs.Forest.{Forest, is_root, is_text, is_attribute}
use Rattle.xf_def_forest.specs.Visit.{Visit, visits, has, is_first, children_of}
use Rattle.xf_def_forest.specs.Shape.{erased, shape}
use Rattle.xf_def_forest.proofs.OrderLaws.{filter-sub, map-sub}
use Rattle.xf_def_xpath.specs.Setting.{in_order}
use Rattle.xf_def_xpath.specs.Binding.{stand_in, stand_ins}
use Rattle.xf_def_xpath.specs.Asked.{found}
use Rattle.xf_def_xpath.specs.Agree.{numbers_of, untexted, list_of, AreVisits}
use Rattle.xf_def_xpath.proofs.VisitFacts.{or-cases, no, found-number}
use Rattle.xf_def_xpath.proofs.SameKept.{region, kept-found}
use Rattle.xf_def_xpath.proofs.AxisAgree.{Frame, has-sub}
use Rattle.xf_def_xpath.proofs.UntextedLaws.{part-order, bare-apart, bare-closed, solid-found}
use Rattle.xf_def_xpath.proofs.ShapeVisits.{shape-untexted}
use Rattle.xf_def_xpath.proofs.Comparison.{in_order-framed}
use Rattle.xf_def_model.specs.Rules.{Scope}
use Rattle.xf_law_recalculation.specs.Agree.Forests.{bare, InBoth}
use Rattle.xf_law_recalculation.proofs.AgreeLemmas.HeldShape.{shape-erased}
use Rattle.xf_law_recalculation.proofs.AgreeLemmas.LooseStep.{in-order_of}
use Rattle.xf_law_recalculation.specs.Marks.Binds.{SameStructure, GivesTruths}
use Rattle.xf_law_recalculation.proofs.MarksLemmas.ShapeHung.{shape-texts}
use Rattle.xf_law_recalculation.proofs.MarksLemmas.BindLaws.{va, vb, u, u2, found-now, found-before, rooted-list}

solid-order : (all : List Visit) (v : AreVisits all) (ns : List ℕ) → ((k : ℕ) → has k ns ≡ true → (y : Visit) × (found k (untexted all) ≡ Some y)) → in_order all ns ≡ in_order (untexted all) ns
solid-order all v ns h =
    region all (untexted all) v.apart (bare-apart all v) (part-order (λ y. not (is_text y.content)) all v.apart) (λ x. has x.number ns)
    (λ k y g j. let z = h k (ap (λ m. has m ns) (sym (found-number k all y g)) ∙ j) in z.1 ∙ sym (solid-found all v k z.0 z.1).0 ∙ g)
    (λ k y g j. (solid-found all v k y g).0)

module _ (scope : Scope) (now before : Forest) (lists : List ℕ) (same : SameStructure lists scope now before) (truths : GivesTruths scope) where
  abbrev A : List Visit
  A = bare now

  abbrev B : List Visit
  B = bare before

  abbrev S : List Visit
  S = shape (visits now.nodes)

  abbrev T : List Visit
  T = shape (visits before.nodes)

  abbrev U : List Visit
  U = map erased S

  abbrev U2 : List Visit
  U2 = map erased T

  abbrev u_visits : AreVisits U
  u_visits = u scope now before lists same truths

  abbrev u2_visits : AreVisits U2
  u2_visits = u2 scope now before lists same truths

  abbrev first_visits : AreVisits A
  first_visits = va scope now before lists same truths

  abbrev second_visits : AreVisits B
  second_visits = vb scope now before lists same truths

  abbrev AllBoth : List ℕ → Type 0
  AllBoth ns = (k : ℕ) → has k ns ≡ true → InBoth now before k

  -- ---- sets in document order

  frame : Frame (untexted U) (untexted U2)
  frame = subst (λ xs. Frame xs (untexted U2)) (sym (shape-untexted (visits now.nodes))) (subst (λ xs. Frame (untexted A) xs) (sym (shape-untexted (visits before.nodes))) (record {
    apart = bare-apart A first_visits;
    apart_too = bare-apart B second_visits;
    closed = bare-closed A first_visits;
    closed_too = bare-closed B second_visits;
    order = same.order;
    contents = λ n x y h k. ap (λ (z : Visit). z.content) (same.stay n x y (solid-found A first_visits n x h).0 (solid-found B second_visits n y k).0);
  }))

  pub order-same : (ns : List ℕ) → AllBoth ns → in_order S ns ≡ in_order T ns
  order-same ns h =
      ap (λ xs. in_order xs ns) (sym (shape-erased (visits now.nodes)))
      ∙ solid-order U u_visits ns (λ k i. let x = h k i in (x.0, ap (found k) (shape-untexted (visits now.nodes)) ∙ x.1))
      ∙ in_order-framed frame ns (λ k i. let x = h k i in record { visit = x.0; first = ap (found k) (shape-untexted (visits now.nodes)) ∙ x.1; second = ap (found k) (shape-untexted (visits before.nodes)) ∙ x.2 })
      ∙ sym (solid-order U2 u2_visits ns (λ k i. let x = h k i in (x.0, ap (found k) (shape-untexted (visits before.nodes)) ∙ x.2)))
      ∙ ap (λ xs. in_order xs ns) (shape-erased (visits before.nodes))

  pub order-both : (ns : List ℕ) → AllBoth ns → AllBoth (in_order S ns)
  order-both ns h k i = h k (in-order_of U u_visits.apart ns k (ap (λ xs. has k (in_order xs ns)) (shape-erased (visits now.nodes)) ∙ i))

  -- ---- what stands for a node that stands in both

  root-children : (n : ℕ) (x : Visit) → found n (untexted A) ≡ Some x → found n (untexted B) ≡ Some x → is_root x.content ≡ true →
      (children_of n S ≡ numbers_of (filter (λ y. not (is_attribute y.content)) (list_of A n))) × (children_of n T ≡ numbers_of (filter (λ y. not (is_attribute y.content)) (list_of A n)))
  root-children n x i j is =
      let at_now = (solid-found A first_visits n x i).0 in
      let at_before = (solid-found B second_visits n x j).0 in
      let unmarked : has n lists ≡ false = same.roots n x at_now is in (
        ap (children_of n) (sym (shape-erased (visits now.nodes)))
            ∙ ap numbers_of (rooted-list scope now before lists same truths U A u_visits (λ k y e t. shape-texts now same.trees same.below same.hung k y e t) n x at_now is)
            ∙ ap (λ xs. numbers_of (filter (λ (y : Visit). not (is_attribute y.content)) (filter (λ (y : Visit). is_first n y.above) xs))) (shape-untexted (visits now.nodes)),
        ap (children_of n) (sym (shape-erased (visits before.nodes)))
            ∙ ap numbers_of (rooted-list scope now before lists same truths U2 B u2_visits (λ k y e t. shape-texts before same.trees_before same.below_before same.hung_before k y e t) n x at_before is)
            ∙ ap (λ xs. numbers_of (filter (λ (y : Visit). not (is_attribute y.content)) (filter (λ (y : Visit). is_first n y.above) xs))) (shape-untexted (visits before.nodes))
            ∙ ap (λ xs. numbers_of (filter (λ (y : Visit). not (is_attribute y.content)) xs)) (sym (same.listed n (x, i, j) unmarked)),
      )

  child-both : (n k : ℕ) (x : Visit) → found n (untexted A) ≡ Some x → found n (untexted B) ≡ Some x → is_root x.content ≡ true → has k (numbers_of (filter (λ y. not (is_attribute y.content)) (list_of A n))) ≡ true → InBoth now before k
  child-both n k x i j is h =
      let in_list : has k (numbers_of (list_of A n)) ≡ true = has-sub k (map-sub (λ (y : Visit). y.number) (filter-sub (λ y. not (is_attribute y.content)) (list_of A n))) h in
      let y = kept-found (λ z. is_first n z.above) k (untexted A) (bare-apart A first_visits) in_list in
      let z = kept-found (λ q. is_first n q.above) k (untexted B) (bare-apart B second_visits) (ap (λ l. has k (numbers_of l)) (sym (same.listed n (x, i, j) (same.roots n x (solid-found A first_visits n x i).0 is))) ∙ in_list) in
      (y.0, y.1, z.1 ∙ ap Some (sym (same.stay k y.0 z.0 (solid-found A first_visits k y.0 y.1).0 (solid-found B second_visits k z.0 z.1).0)))

  not-text : (x : Visit) → not (is_text x.content) ≡ true → (t : List ℕ) → x.content ≡ content.Text t → false ≡ true
  not-text x h t e = sym (ap (λ c. not (is_text c)) e) ∙ h

  pub one-in : (m k : ℕ) → has k (m ∷ []) ≡ true → k ≡ m
  one-in m k h = elim (or-cases (k == m) false h) [ inl a ↦ eqb-true k m a | inr b ↦ no b ]

  pub stands : (k : ℕ) → InBoth now before k → (stand_ins S (found k S) ≡ stand_ins T (found k T)) × AllBoth (stand_ins S (found k S))
  stands k h =
      let x = h.0 in
      let in_now : found k S ≡ Some x = found-now scope now before lists same truths k x h.1 in
      let in_before : found k T ≡ Some x = found-before scope now before lists same truths k x h.2 in
      let named : x.number ≡ k = found-number k S x in_now in
      let by_content = of x.content refl named in
      (ap (stand_ins S) in_now ∙ by_content.0 ∙ sym (ap (stand_ins T) in_before), λ j i. by_content.1 j (ap (λ m. has j (stand_ins S m)) (sym in_now) ∙ i))
    where
      of : (c : Content) → h.0.content ≡ c → h.0.number ≡ k → (stand_in S h.0 c ≡ stand_in T h.0 c) × ((j : ℕ) → has j (stand_in S h.0 c) ≡ true → InBoth now before j)
      of content.Root e m =
          let one = root-children k h.0 h.1 h.2 (ap is_root e) in (
            ap (λ n. children_of n S) m ∙ one.0 ∙ sym one.1 ∙ sym (ap (λ n. children_of n T) m),
            λ j i. child-both k j h.0 h.1 h.2 (ap is_root e) (ap (has j) (sym one.0 ∙ sym (ap (λ n. children_of n S) m)) ∙ i),
          )
      of (content.Element name) e m = (refl, λ j i. subst (InBoth now before) (sym (one-in h.0.number j i ∙ m)) h)
      of (content.Attribute name text) e m = (refl, λ j i. subst (InBoth now before) (sym (one-in h.0.number j i ∙ m)) h)
      of (content.Text text) e m = no (not-text h.0 (solid-found A first_visits k h.0 h.1).1 text e)
