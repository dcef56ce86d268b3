-- Two forests and the shape beside which they are compared; what a step reaches from a node that is the same in all three.
use Rattle.std.proofs.Common.{◌≡◌, ℕ, ◌==◌, true, not, ◌&&◌, List, Option, Some, None, sym, ap, ◌∙◌, inl, inr}
use Rattle.std.specs.Prelude.{filter}
use Rattle.xf_name.specs.declared.axis.Axis.{Axis}
use Rattle.xf_name.specs.declared.axis.Axis.TheVariants.{Child, Attribute, Self_, Parent, Ancestor, AncestorOrSelf, Descendant, DescendantOrSelf, FollowingSibling, PrecedingSibling}
use Rattle.xf_def_syntax.specs.declared.expr.Test.{Test}
use Rattle.xf_def_forest.specs.Visit.{Visit, has}
use Rattle.xf_def_xpath.specs.declared.value.Value.{Value}
use Rattle.xf_def_xpath.specs.Given.{Document, document_of}
use Rattle.xf_def_values.specs.declared.plain.Plain.{Plain}
use Rattle.xf_def_xpath.specs.Setting.{Setting, in_order}
use Rattle.xf_def_xpath.specs.Asked.{found, parent_in, lists_below, list_around}
use Rattle.xf_def_xpath.specs.AskedSteps.{lists_of, is_kind, meets_texts}
use Rattle.xf_def_xpath.specs.Tests.{meets}
use Rattle.xf_def_xpath.specs.Steps.{reached}
use Rattle.xf_def_xpath.specs.Agree.{untexted, AreVisits, AgreeOnLists}
use Rattle.xf_def_xpath.proofs.VisitFacts.{or-cases, or-left, or-right, found-number, present, found-in}
use Rattle.xf_def_xpath.proofs.SameKept.{region, kept-found}
use Rattle.xf_def_xpath.proofs.AxisAgree.{Frame, Stands, AllStand, stands-there, stands-flipped}
use Rattle.xf_def_xpath.proofs.ReachAgree.{Reach, reach}
use Rattle.xf_def_xpath.proofs.UntextedLaws.{is_solid, part-order, bare-apart, solid-found, reached-untexted}

pub record Comparison : Type 0 where
  -- the setting over the first forest
  pub setting : Setting
  -- the other forest, and its string values
  pub others : List Visit
  pub strings : ℕ → List ℕ
  -- what surrounds it: as the first has, but for documents, indexes and event
  pub documents : List Document
  pub indexes : List (List ℕ × ℕ)
  pub event : Option (List (List ℕ × Value))
  -- the shape, over which it is asked what is read and looked at
  pub shape : List Visit
  pub shape_strings : ℕ → List ℕ
  pub shape_documents : List Document
  pub shape_indexes : List (List ℕ × ℕ)
  pub shape_event : Option (List (List ℕ × Value))
  -- the functions of plain values without a limit on strings
  pub functions : ℕ → List Plain → Option Plain
  pub extend : (code : ℕ) (ps : List Plain) (p : Plain) → setting.functions code ps ≡ Some p → functions code ps ≡ Some p
  pub visits : AreVisits setting.all
  pub other_visits : AreVisits others
  pub shape_visits : AreVisits shape
  pub frame : Frame (untexted shape) (untexted setting.all)
  pub other_frame : Frame (untexted shape) (untexted others)

-- over the other forest, and over the shape
abbrev pub other : Comparison → Setting
other w = record w.setting {
  all = w.others;
  strings = w.strings;
  given = record w.setting.given { documents = w.documents; indexes = w.indexes; event = w.event };
}

abbrev pub over_shape : Comparison → Setting
over_shape w = record w.setting {
  all = w.shape;
  strings = w.shape_strings;
  most = None;
  functions = w.functions;
  given = record w.setting.given { documents = w.shape_documents; indexes = w.shape_indexes; event = w.shape_event };
}

-- a node that is no text and is the same in all three
pub record Solid (w : Comparison) (k : ℕ) : Type 0 where
  pub visit : Visit
  pub in_shape : found k (untexted w.shape) ≡ Some visit
  pub in_first : found k (untexted w.setting.all) ≡ Some visit
  pub in_second : found k (untexted w.others) ≡ Some visit

abbrev pub AllSolid : Comparison → List ℕ → Type 0
AllSolid w ns = (k : ℕ) → has k ns ≡ true → Solid w k

abbrev pub Within : List ℕ → List ℕ → Type 0
Within ns ms = (n : ℕ) → has n ns ≡ true → has n ms ≡ true

-- an instance has the same document element in all three
pub record SameDocument (w : Comparison) (id : List ℕ) (n : ℕ) : Type 0 where
  pub first : document_of w.setting.model id w.setting.given.documents ≡ Some n
  pub second : document_of w.setting.model id w.documents ≡ Some n
  pub solid : Solid w n

pub record Agree (w : Comparison) (looks : List ℕ) : Type 0 where
  pub first : AgreeOnLists looks w.shape w.setting.all
  pub second : AgreeOnLists looks w.shape w.others
  -- a document is the same where the list of its root is looked at
  pub same : (id : List ℕ) (n : ℕ) → document_of w.setting.model id w.shape_documents ≡ Some n → Within (list_around w.shape n) looks → SameDocument w id n

pub agree-less : (w : Comparison) {ns ms : List ℕ} → Within ns ms → Agree w ms → Agree w ns
agree-less w h a = record { first = λ n k. a.first n (h n k); second = λ n k. a.second n (h n k); same = λ id n e k. a.same id n e (λ m i. h m (k m i)) }

pub solid-both : (w : Comparison) (k : ℕ) → Stands (untexted w.shape) (untexted w.setting.all) k → Stands (untexted w.shape) (untexted w.others) k → Solid w k
solid-both w k a b = record { visit = a.visit; in_shape = a.first; in_first = a.second; in_second = b.second ∙ sym b.first ∙ a.first }

-- ---- lists without texts are looked at too

below-untexted : (all : List Visit) → AreVisits all → (n m : ℕ) → has m (lists_below (untexted all) n) ≡ true → has m (lists_below all n) ≡ true
below-untexted all v n m h = elim (or-cases (m == n) _ h) [
  | inl a ↦ or-left (m == n) _ a
  | inr b ↦ let y = kept-found (λ z. has n z.above) m (untexted all) (bare-apart all v) b in
      or-right (m == n) _ (present m (filter (λ z. has n z.above) all) y.0 (found-in (λ z. has n z.above) m all y.0 v.apart (solid-found all v m y.0 y.1).0 y.2))
]

pub lists-untexted : (axis : Axis) (all : List Visit) → AreVisits all → (n : ℕ) (x : Visit) → found n (untexted all) ≡ Some x → (m : ℕ) → has m (lists_of axis (untexted all) n) ≡ true → has m (lists_of axis all n) ≡ true
lists-untexted Child all v n x e m h = h
lists-untexted Attribute all v n x e m h = h
lists-untexted Self_ all v n x e m h = h
lists-untexted Parent all v n x e m h = h
lists-untexted Ancestor all v n x e m h = h
lists-untexted AncestorOrSelf all v n x e m h = h
lists-untexted Descendant all v n x e m h = below-untexted all v n m h
lists-untexted DescendantOrSelf all v n x e m h = below-untexted all v n m h
lists-untexted FollowingSibling all v n x e m h = ap (λ o. has m (parent_in o)) ((solid-found all v n x e).0 ∙ sym e) ∙ h
lists-untexted PrecedingSibling all v n x e m h = ap (λ o. has m (parent_in o)) ((solid-found all v n x e).0 ∙ sym e) ∙ h

-- ---- what is reached

pub record Reached (w : Comparison) (axis : Axis) (test : Test) (n : ℕ) : Type 0 where
  pub first : reached axis test w.setting.all n ≡ reached axis test w.shape n
  pub second : reached axis test w.others n ≡ reached axis test w.shape n
  pub solid : AllSolid w (reached axis test w.shape n)

pub reaches : (w : Comparison) (axis : Axis) (test : Test) (n : ℕ) → not (is_kind test && meets_texts axis) ≡ true → Solid w n → Agree w (lists_of axis w.shape n) → Reached w axis test n
reaches w axis test n exact s a =
    let looked : (m : ℕ) → has m (lists_of axis (untexted w.shape) n) ≡ true → has m (lists_of axis w.shape n) ≡ true = lists-untexted axis w.shape w.shape_visits n s.visit s.in_shape in
    let one : Reach (untexted w.shape) (untexted w.setting.all) (reached axis test (untexted w.shape) n) (reached axis test (untexted w.setting.all) n) =
    reach w.frame (λ y. meets axis test y.content) (lists_of axis w.shape n) a.first n s.visit s.in_shape s.in_first axis looked in
    let two : Reach (untexted w.shape) (untexted w.others) (reached axis test (untexted w.shape) n) (reached axis test (untexted w.others) n) =
    reach w.other_frame (λ y. meets axis test y.content) (lists_of axis w.shape n) a.second n s.visit s.in_shape s.in_second axis looked in
    let bare : reached axis test w.shape n ≡ reached axis test (untexted w.shape) n = reached-untexted w.shape w.shape_visits n s.visit s.in_shape axis test exact in
    record {
      first = reached-untexted w.setting.all w.visits n s.visit s.in_first axis test exact ∙ sym one.same ∙ sym bare;
      second = reached-untexted w.others w.other_visits n s.visit s.in_second axis test exact ∙ sym two.same ∙ sym bare;
      solid = λ k h. solid-both w k (one.stand k (ap (has k) (sym bare) ∙ h)) (two.stand k (ap (has k) (sym bare) ∙ h));
    }

-- ---- in document order

in_order-untexted : (all : List Visit) (v : AreVisits all) (ns : List ℕ) → ((k : ℕ) → has k ns ≡ true → (y : Visit) × (found k (untexted all) ≡ Some y)) → in_order all ns ≡ in_order (untexted all) ns
in_order-untexted all v ns h =
    region all (untexted all) v.apart (bare-apart all v) (part-order is_solid all v.apart) (λ x. has x.number ns)
    (λ k y g j. let z = h k (ap (λ m. has m ns) (sym (found-number k all y g)) ∙ j) in z.1 ∙ sym (solid-found all v k z.0 z.1).0 ∙ g)
    (λ k y g j. (solid-found all v k y g).0)

pub in_order-framed : {A B : List Visit} → Frame A B → (ns : List ℕ) → AllStand A B ns → in_order A ns ≡ in_order B ns
in_order-framed {A} {B} f ns h =
    region A B f.apart f.apart_too f.order (λ x. has x.number ns)
    (λ k y g j. stands-there k y (h k (ap (λ m. has m ns) (sym (found-number k A y g)) ∙ j)) g)
    (λ k y g j. stands-there k y (stands-flipped k (h k (ap (λ m. has m ns) (sym (found-number k B y g)) ∙ j))) g)

pub first-order : (w : Comparison) (ns : List ℕ) → AllSolid w ns → in_order w.setting.all ns ≡ in_order w.shape ns
first-order w ns h =
    in_order-untexted w.setting.all w.visits ns (λ k j. ((h k j).visit, (h k j).in_first))
    ∙ sym (in_order-framed w.frame ns (λ k j. record { visit = (h k j).visit; first = (h k j).in_shape; second = (h k j).in_first }))
    ∙ sym (in_order-untexted w.shape w.shape_visits ns (λ k j. ((h k j).visit, (h k j).in_shape)))

pub second-order : (w : Comparison) (ns : List ℕ) → AllSolid w ns → in_order w.others ns ≡ in_order w.shape ns
second-order w ns h =
    in_order-untexted w.others w.other_visits ns (λ k j. ((h k j).visit, (h k j).in_second))
    ∙ sym (in_order-framed w.other_frame ns (λ k j. record { visit = (h k j).visit; first = (h k j).in_shape; second = (h k j).in_second }))
    ∙ sym (in_order-untexted w.shape w.shape_visits ns (λ k j. ((h k j).visit, (h k j).in_shape)))

pub order-solid : (w : Comparison) (ns : List ℕ) → AllSolid w ns → AllSolid w (in_order w.shape ns)
order-solid w ns h k j =
    let y = kept-found (λ x. has x.number ns) k w.shape w.shape_visits.apart j in
    h k (ap (λ m. has m ns) (sym (found-number k w.shape y.0 y.1)) ∙ y.2)
