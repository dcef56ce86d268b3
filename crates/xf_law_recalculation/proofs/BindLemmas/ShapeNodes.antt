-- Nodes of the shapes of now and of before, texts counted, and what a bind takes of them.
use Rattle.std.proofs.Common.{◌≡◌, ℕ, ◌==◌, Bool, true, false, not, List, [], ◌∷◌, map, Some, refl, sym, ap, ◌∙◌, subst}
use Rattle.std.specs.List.{flat_map}
use Rattle.xf_def_forest.specs.declared.content.Content.{Content}
use Rattle.xf_def_forest.specs.declared.content.Content.TheVariants as content
use Rattle.xf_def_forest.specs.Forest.{Forest, is_text}
use Rattle.xf_def_forest.specs.Visit.{Visit, visits, has, is_first, first_of}
use Rattle.xf_def_forest.specs.Shape.{erased, shape}
use Rattle.xf_def_xpath.specs.Setting.{in_order}
use Rattle.xf_def_xpath.specs.Binding.{as_list, stand_in, stand_ins, bound_nodes}
use Rattle.xf_def_xpath.specs.Asked.{found}
use Rattle.xf_def_xpath.specs.Agree.{untexted, AreVisits}
use Rattle.xf_def_xpath.proofs.VisitFacts.{self-same, no, found-in}
use Rattle.xf_def_xpath.proofs.BelowAgree.{flat-has}
use Rattle.xf_def_xpath.proofs.UntextedLaws.{solid-found}
use Rattle.xf_def_xpath.proofs.ShapeVisits.{shape-untexted}
use Rattle.xf_def_model.specs.Rules.{Scope}
use Rattle.xf_law_recalculation.specs.Agree.Forests.{bare, InBoth}
use Rattle.xf_law_recalculation.proofs.AgreeLemmas.HeldShape.{shape-erased}
use Rattle.xf_law_recalculation.specs.Marks.Binds.{SameStructure, GivesTruths}
use Rattle.xf_law_recalculation.proofs.MarksLemmas.BindLaws.{flat-on, va, vb, u, u2}
use Rattle.xf_law_recalculation.proofs.MarksLemmas.BindNodes.{order-same, order-both, one-in, stands}
use Rattle.xf_law_recalculation.proofs.BindLemmas.Pair.{parent-found}

module _ (scope : Scope) (now before : Forest) (lists : List ℕ) (same : SameStructure lists scope now before) (truths : GivesTruths scope) where
  abbrev A : List Visit
  A = bare now

  abbrev B : List Visit
  B = bare before

  abbrev S : List Visit
  S = shape (visits now.nodes)

  abbrev T : List Visit
  T = shape (visits before.nodes)

  abbrev u_visits : AreVisits (map erased S)
  u_visits = u scope now before lists same truths

  abbrev u2_visits : AreVisits (map erased T)
  u2_visits = u2 scope now before lists same truths

  abbrev first_visits : AreVisits A
  first_visits = va scope now before lists same truths

  abbrev second_visits : AreVisits B
  second_visits = vb scope now before lists same truths

  abbrev AllBoth : List ℕ → Type 0
  AllBoth ns = (k : ℕ) → has k ns ≡ true → InBoth now before k

  -- ---- what stands for a node of both shapes

  abbrev pub InShapes : ℕ → Type 0
  InShapes k = (x : Visit) × (found k (shape (visits now.nodes)) ≡ Some x) × (found k (shape (visits before.nodes)) ≡ Some x)

  abbrev pub AllShaped : List ℕ → Type 0
  AllShaped ns = (k : ℕ) → has k ns ≡ true → InShapes k

  first-in : (j : ℕ) (ns : List ℕ) → has j (as_list (first_of ns)) ≡ true → is_first j ns ≡ true
  first-in j [] h = no h
  first-in j (n ∷ ns) h = ap (λ m. j == m) (sym (one-in scope now before lists same truths n j h)) ∙ self-same j

  -- a node of both shapes without texts stands in both forests
  solid-both : (k : ℕ) (x y : Visit) → found k (untexted S) ≡ Some x → found k (untexted T) ≡ Some y → InBoth now before k
  solid-both k x y i j =
      let in_now : found k (untexted A) ≡ Some x = ap (found k) (sym (shape-untexted (visits now.nodes)) ∙ ap untexted (shape-erased (visits now.nodes))) ∙ i in
      let in_before : found k (untexted B) ≡ Some y = ap (found k) (sym (shape-untexted (visits before.nodes)) ∙ ap untexted (shape-erased (visits before.nodes))) ∙ j in
      (x, in_now, in_before ∙ ap Some (sym (same.stay k x y (solid-found A first_visits k x in_now).0 (solid-found B second_visits k y in_before).0)))

  -- it stands for itself, a text for the node in which it is, a root for what is in it
  pub stands-any : (k : ℕ) → InShapes k → (stand_ins S (found k S) ≡ stand_ins T (found k T)) × AllBoth (stand_ins S (found k S))
  stands-any k h = by (is_text h.0.content) refl
    where
      sv : AreVisits S
      sv = subst AreVisits (shape-erased (visits now.nodes)) u_visits

      tv : AreVisits T
      tv = subst AreVisits (shape-erased (visits before.nodes)) u2_visits

      as_text : (c : Content) → is_text c ≡ true → (stand_in S h.0 c ≡ as_list (first_of h.0.above)) × (stand_in T h.0 c ≡ as_list (first_of h.0.above))
      as_text content.Root i = no i
      as_text (content.Element name) i = no i
      as_text (content.Attribute name text) i = no i
      as_text (content.Text text) i = (refl, refl)

      by : (t : Bool) → is_text h.0.content ≡ t → (stand_ins S (found k S) ≡ stand_ins T (found k T)) × AllBoth (stand_ins S (found k S))
      by false t = stands scope now before lists same truths k (solid-both k h.0 h.0 (found-in (λ y. not (is_text y.content)) k S h.0 sv.apart h.1 (ap not t)) (found-in (λ y. not (is_text y.content)) k T h.0 tv.apart h.2 (ap not t)))
      by true t =
          let one = as_text h.0.content t in (
            ap (stand_ins S) h.1 ∙ one.0 ∙ sym one.1 ∙ sym (ap (stand_ins T) h.2),
            λ j i.
                let f = first-in j h.0.above (ap (has j) (sym (ap (stand_ins S) h.1 ∙ one.0)) ∙ i) in
                let x = parent-found S sv k j h.0 h.1 f in
                let y = parent-found T tv k j h.0 h.2 f in
                solid-both j x.0 y.0 x.1 y.1,
          )

  abbrev stand_now : ℕ → List ℕ
  stand_now k = stand_ins S (found k S)

  abbrev stand_before : ℕ → List ℕ
  stand_before k = stand_ins T (found k T)

  all-stand : (ns : List ℕ) → AllShaped ns → AllBoth (flat_map stand_now ns)
  all-stand ns h k i = let n = flat-has stand_now k ns i in (stands-any n.0 (h n.0 n.1)).1 k n.2

  pub bound-same : (ns : List ℕ) → AllShaped ns → bound_nodes S ns ≡ bound_nodes T ns
  bound-same ns h = order-same scope now before lists same truths (flat_map stand_now ns) (all-stand ns h) ∙ ap (in_order T) (flat-on stand_now stand_before ns (λ k i. (stands-any k (h k i)).0))

  pub bound-both : (ns : List ℕ) → AllShaped ns → AllBoth (bound_nodes S ns)
  bound-both ns h = order-both scope now before lists same truths (flat_map stand_now ns) (all-stand ns h)
