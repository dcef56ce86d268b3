-- The nodes that stood before: where what stands above them stood, and what stands in their lists that are not marked.
use Rattle.std.proofs.Common.{◌≡◌, ℕ, ◌==◌, Bool, true, false, not, cond, ◌&&◌, List, [], ◌∷◌, map, Some, unwrap_or, refl, sym, ap, ◌∙◌, subst, inl, inr}
use Rattle.std.proofs.lemmas.Bool.{eqb-true}
use Rattle.xf_def_forest.specs.declared.content.Content.{Content}
use Rattle.xf_def_forest.specs.Forest.{Forest, is_text}
use Rattle.xf_def_forest.specs.Visit.{Visit, visits, has, is_first, first_of}
use Rattle.xf_def_forest.specs.Shape.{erased, shape}
use Rattle.xf_def_xpath.specs.Asked.{has_list, found}
use Rattle.xf_def_xpath.specs.Agree.{untexted, list_of, AreVisits, HaveOneFrame}
use Rattle.xf_def_xpath.proofs.VisitFacts.{self-same, or-cases, no, some-same, found-number, found-in, found-out}
use Rattle.xf_def_xpath.proofs.SameKept.{on}
use Rattle.xf_def_xpath.proofs.AxisAgree.{Frame, above-stands}
use Rattle.xf_def_xpath.proofs.UntextedLaws.{bare-apart, bare-closed, solid-found}
use Rattle.xf_def_xpath.proofs.ForestVisits.{list-solid}
use Rattle.xf_def_xpath.proofs.ShapeVisits.{shape-untexted}
use Rattle.xf_def_model.proofs.ReadSolid.{AreHung as AllHung}
use Rattle.xf_law_recalculation.specs.Agree.Forests.{bare, InBoth}
use Rattle.xf_law_recalculation.proofs.MarksLemmas.Reached.{Among, IsClosed}
use Rattle.xf_law_recalculation.proofs.MarksLemmas.TextLists.{opened, not-of, headed}

-- the node itself, or the node in which a text stands
abbrev owner : Visit → ℕ
owner x = cond (is_text x.content) (unwrap_or (first_of x.above) x.number) x.number

pub record Solids : Type 0 where
  pub first : Forest
  pub second : Forest
  pub lists : List ℕ
  pub first_visits : AreVisits (bare first)
  pub second_visits : AreVisits (bare second)
  pub shape_visits : AreVisits (map erased (shape (visits first.nodes)))
  pub hung : AllHung (map erased (shape (visits first.nodes)))
  pub frame : HaveOneFrame (bare first) (bare second)
  -- a list that is not marked is as it was, texts apart
  pub listed : (n : ℕ) → InBoth first second n → has n lists ≡ false → list_of (bare first) n ≡ list_of (bare second) n

module _ (c : Solids) where
  abbrev first : Forest
  first = c.first

  abbrev second : Forest
  second = c.second

  abbrev A : List Visit
  A = bare first

  abbrev B : List Visit
  B = bare second

  abbrev U : List Visit
  U = map erased (shape (visits first.nodes))

  abbrev va : AreVisits A
  va = c.first_visits

  abbrev vb : AreVisits B
  vb = c.second_visits

  abbrev u : AreVisits U
  u = c.shape_visits

  abbrev hung : AllHung U
  hung = c.hung

  same : untexted U ≡ untexted A
  same = shape-untexted (visits first.nodes)

  pub in-shape : (p : ℕ) (z : Visit) → found p (untexted A) ≡ Some z → found p U ≡ Some z
  in-shape p z h = (solid-found U u p z (ap (found p) same ∙ h)).0

  out-of_shape : (p : ℕ) (z : Visit) → found p U ≡ Some z → is_text z.content ≡ false → found p (untexted A) ≡ Some z
  out-of_shape p z h t = ap (found p) (sym same) ∙ found-in (λ y. not (is_text y.content)) p U z u.apart h (ap not t)

  -- ---- what stood: the nodes of both, and the texts that stand for those of elements of both

  abbrev pub Stood : ℕ → Type 0
  Stood k = (x : Visit) × (found k U ≡ Some x) × InBoth first second (owner x)

  abbrev pub marked : ℕ → Bool
  marked n = has n c.lists && on (λ y. has_list y.content) (found n U)

  pub marked-list : (n : ℕ) (x : Visit) → found n U ≡ Some x → has_list x.content ≡ true → marked n ≡ false → has n c.lists ≡ false
  marked-list n x i l h = by (has n c.lists) (ap (λ o. has n c.lists && on (λ (y : Visit). has_list y.content) o) (sym i) ∙ h)
    where
      by : (b : Bool) → (b && has_list x.content) ≡ false → b ≡ false
      by true j = no (sym j ∙ l)
      by false j = refl

  pub solid-owner : (n : ℕ) (x : Visit) → found n U ≡ Some x → is_text x.content ≡ false → owner x ≡ n
  solid-owner n x i t = ap (λ b. cond b (unwrap_or (first_of x.above) x.number) x.number) t ∙ found-number n U x i

  pub in-both_stood : (n : ℕ) → InBoth first second n → Stood n
  in-both_stood n h =
      let i = in-shape n h.0 h.1 in
      (h.0, i, subst (InBoth first second) (sym (solid-owner n h.0 i (not-of (is_text h.0.content) (solid-found A va n h.0 h.1).1))) h)

  pub list-not_text : (c : Content) → has_list c ≡ true → is_text c ≡ false
  list-not_text c h = not-of (is_text c) (list-solid c h)

  pub both-frame : Frame (untexted A) (untexted B)
  both-frame = record {
    apart = bare-apart A va;
    apart_too = bare-apart B vb;
    closed = bare-closed A va;
    closed_too = bare-closed B vb;
    order = c.frame.order;
    contents = λ n x y h k. c.frame.contents n x y (solid-found A va n x h).0 (solid-found B vb n y k).0;
  }

  pub above-both : (n : ℕ) (x : Visit) → found n (untexted A) ≡ Some x → found n (untexted B) ≡ Some x → (p : ℕ) → has p x.above ≡ true → InBoth first second p
  above-both n x i j p h = let s = above-stands both-frame x.above p n x i j refl h in (s.visit, s.first, s.second)

  -- the node in whose list another stands has one
  pub above-listed : (all : List Visit) → AreVisits all → (k n : ℕ) (y : Visit) → found k all ≡ Some y → is_first n y.above ≡ true → (z : Visit) × (found n (untexted all) ≡ Some z) × (has_list z.content ≡ true)
  above-listed all v k n y i h =
      let ps = headed n y.above h in
      let z = opened (found n (untexted all)) ps.0 (v.closed k n ps.0 y i ps.1) in
      (z.0, z.1, v.parents k n ps.0 y z.0 i ps.1 (solid-found all v n z.0 z.1).0)

  pub parent-above : (k n : ℕ) (y z : Visit) → found k U ≡ Some y → is_first n y.above ≡ true → found n (untexted A) ≡ Some z → y.above ≡ n ∷ z.above
  parent-above k n y z i h j =
      let ps = headed n y.above h in
      let w = opened (found n (untexted U)) ps.0 (u.closed k n ps.0 y i ps.1) in
      ps.1 ∙ ap (λ l. n ∷ l) (sym w.2 ∙ ap (λ (q : Visit). q.above) (some-same (sym w.1 ∙ ap (found n) same ∙ j)))

  pub text-owner : (n : ℕ) (x : Visit) → found n U ≡ Some x → is_text x.content ≡ true → is_first (owner x) x.above ≡ true
  text-owner n x i t = ap (λ b. is_first (cond b (unwrap_or (first_of x.above) x.number) x.number) x.above) t ∙ by x.above refl
    where
      by : (ns : List ℕ) → x.above ≡ ns → is_first (unwrap_or (first_of ns) x.number) ns ≡ true
      by [] a = absurd (hung.texts n x i t a)
      by (p ∷ ps) a = self-same p

  pub stood-up : (k : ℕ) (x : Visit) → found k U ≡ Some x → Stood k → Among Stood x.above
  stood-up k x i h p j = by (is_text x.content) refl
    where
      own : InBoth first second (owner x)
      own = subst (λ (q : Visit). InBoth first second (owner q)) (some-same (sym h.1 ∙ i)) h.2

      by : (b : Bool) → is_text x.content ≡ b → Stood p
      by false t =
          let at_k : InBoth first second k = subst (InBoth first second) (solid-owner k x i t) own in
          in-both_stood p (above-both k at_k.0 at_k.1 at_k.2 p (ap (λ (q : Visit). has p q.above) (some-same (sym (in-shape k at_k.0 at_k.1) ∙ i)) ∙ j))
      by true t = elim (or-cases (p == owner x) (has p own.0.above) (sym (ap (has p) (parent-above k (owner x) x own.0 i (text-owner k x i t) own.1)) ∙ j)) [
        | inl a ↦ in-both_stood p (subst (InBoth first second) (sym (eqb-true p (owner x) a)) own)
        | inr b ↦ in-both_stood p (above-both (owner x) own.0 own.1 own.2 p b)
      ]

  -- a node with a list that stood, stands in both
  pub listed-both : (n : ℕ) (z : Visit) → found n U ≡ Some z → has_list z.content ≡ true → Stood n → InBoth first second n
  listed-both n z i l h =
      subst (InBoth first second) (ap owner (some-same (sym h.1 ∙ i)) ∙ solid-owner n z i (list-not_text z.content l)) h.2

  pub stood-down : (k n : ℕ) (x : Visit) → found k U ≡ Some x → is_first n x.above ≡ true → Stood n → marked n ≡ false → Stood k
  stood-down k n x i h s m = by (is_text x.content) refl
    where
      parent : (z : Visit) × (found n (untexted U) ≡ Some z) × (has_list z.content ≡ true)
      parent = above-listed U u k n x i h

      at_n : found n U ≡ Some parent.0
      at_n = (solid-found U u n parent.0 parent.1).0

      both_n : InBoth first second n
      both_n = listed-both n parent.0 at_n parent.2 s

      free : has n c.lists ≡ false
      free = marked-list n parent.0 at_n parent.2 m

      by : (b : Bool) → is_text x.content ≡ b → Stood k
      by true t =
          let own : owner x ≡ n = ap (λ b. cond b (unwrap_or (first_of x.above) x.number) x.number) t ∙ ap (λ l. unwrap_or (first_of l) x.number) (headed n x.above h).1 in
          (x, i, subst (InBoth first second) (sym own) both_n)
      by false t =
          let in_first = out-of_shape k x i t in
          let listed_first : found k (list_of A n) ≡ Some x = found-in (λ y. is_first n y.above) k (untexted A) x (bare-apart A va) in_first h in
          let in_second : found k (untexted B) ≡ Some x = (found-out (λ y. is_first n y.above) k (untexted B) x (bare-apart B vb) (sym (ap (found k) (c.listed n both_n free)) ∙ listed_first)).0 in
          in-both_stood k (x, in_first, in_second)

  pub closed : IsClosed Stood marked U
  closed = record { visits = u; up = stood-up; down = stood-down }
