-- Two forests that agree, with the texts that are the same in both: those of known elements. What a step reaches among known nodes, it
-- reaches in both.
use Rattle.std.proofs.Common.{◌≡◌, ℕ, ◌==◌, Bool, true, false, not, cond, ◌||◌, List, [], ◌∷◌, ◌++◌, Some, refl, sym, ap, ◌∙◌, inl, inr}
use Rattle.std.specs.Prelude.{filter, is_some}
use Rattle.std.proofs.lemmas.Bool.{eqb-true}
use Rattle.xf_name.specs.declared.axis.Axis.{Axis}
use Rattle.xf_name.specs.declared.axis.Axis.TheVariants.{Child, Attribute, Self_, Parent, Ancestor, AncestorOrSelf, Descendant, DescendantOrSelf, FollowingSibling, PrecedingSibling}
use Rattle.xf_def_syntax.specs.declared.expr.Test.{Test}
use Rattle.xf_def_forest.specs.Forest.{is_text}
use Rattle.xf_def_forest.specs.Visit.{Visit, has, is_first, first_of}
use Rattle.xf_def_forest.specs.Shape.{Texts}
use Rattle.xf_def_xpath.specs.Tests.{meets}
use Rattle.xf_def_xpath.specs.Asked.{Asked, found, as_list, parent_in, list_around, lists_below}
use Rattle.xf_def_xpath.specs.AskedSteps.{lists_of}
use Rattle.xf_def_xpath.specs.Steps.{reached}
use Rattle.xf_def_xpath.specs.Agree.{numbers_of, are_apart, AreVisits}
use Rattle.xf_def_xpath.proofs.VisitFacts.{self-same, or-cases, or-left, or-right, no, some-same, found-number, present, found-in, found-out}
use Rattle.xf_def_xpath.proofs.SameKept.{has-append, has-left, has-right, kept-found}
use Rattle.xf_def_xpath.proofs.AxisAgree.{Frame, SameLists, below-back, flipped, child-there}
use Rattle.xf_def_xpath.proofs.ReachAgree.{Reach, reach}
use Rattle.xf_def_xpath.proofs.UntextedLaws.{solid-found}
use Rattle.xf_def_xpath.proofs.Comparison.{Comparison, Agree, Within}
use Rattle.xf_def_xpath.proofs.ForestVisits.{Each, self-found}
use Rattle.xf_law_recalculation.specs.Agree.Settles.{AreHung}
pub use Rattle.xf_law_recalculation.specs.Agree.Kept.{is_known, keeps, kept}
use Rattle.xf_law_recalculation.proofs.AgreeLemmas.Covers.{IsShaped, stand_in, has-head, above-solid, cov-above, cov-solid, solid-stays, stays-found, around-has}

pub record Meeting (w : Comparison) : Type 0 where
  -- the texts that the shape has in place of others
  pub texts : Texts
  pub shaped : IsShaped texts w.setting.all w.shape
  pub other_hung : AreHung w.others
  -- the elements whose texts are the same in both
  pub known : ℕ → Bool
  pub frame : Frame (kept known w.setting.all) (kept known w.others)
  -- all that is asked: with the nodes that are read those below them are known, and those looked at that have elements
  pub reads : List ℕ
  pub looks : List ℕ
  pub agree : Agree w looks
  pub lists : SameLists looks (kept known w.setting.all) (kept known w.others)
  pub read : (n p : ℕ) (z : Visit) → has n reads ≡ true → found p w.setting.all ≡ Some z → is_text z.content ≡ false → has n (p ∷ z.above) ≡ true → known p ≡ true
  pub looked : (p : ℕ) → has p looks ≡ true → is_some (texts p) ≡ false → known p ≡ true
  -- a node whose string is asked, with the lists below it; a text in a node that is read
  pub strings : (n : ℕ) (x : Visit) → found n w.setting.all ≡ Some x → found n w.others ≡ Some x → is_text x.content ≡ false → has n reads ≡ true → Within (lists_below w.shape n) looks → w.setting.strings n ≡ w.strings n
  pub texts_same : (k q : ℕ) (x : Visit) (qs : List ℕ) → found k w.setting.all ≡ Some x → found k w.others ≡ Some x → is_text x.content ≡ true → x.above ≡ q ∷ qs → has q reads ≡ true → w.setting.strings k ≡ w.strings k

-- a part of all that is asked
pub record Asks {w : Comparison} (m : Meeting w) (a : Asked) : Type 0 where
  pub reads : Within a.reads m.reads
  pub looks : Within a.looks m.looks

each-of : (p q : Visit → Type 0) (ys : List Visit) → ((y : Visit) → p y → q y) → Each p ys → Each q ys
each-of p q [] h e = tt
each-of p q (y ∷ ys) h e = (h y e.0, each-of p q ys h e.1)

filter-nothing : (p : Visit → Bool) (ys : List Visit) → Each (λ y. p y ≡ true → false ≡ true) ys → filter p ys ≡ []
filter-nothing p [] e = refl
filter-nothing p (y ∷ ys) e = by (p y) refl (filter-nothing p ys e.1)
  where
    by : (b : Bool) → p y ≡ b → filter p ys ≡ [] → cond b (y ∷ filter p ys) (filter p ys) ≡ []
    by true h i = no (e.0 h)
    by false h i = i

not-of : (b : Bool) → not b ≡ true → b ≡ false
not-of true h = sym h
not-of false h = refl

module _ {w : Comparison} (m : Meeting w) where
  abbrev pub A : List Visit
  A = w.setting.all

  abbrev pub B : List Visit
  B = w.others

  abbrev pub U : List Visit
  U = w.shape

  abbrev pub KA : List Visit
  KA = kept m.known A

  abbrev pub KB : List Visit
  KB = kept m.known B

  abbrev pub stand : Visit → ℕ
  stand x = stand_in m.texts x

  abbrev texted : List ℕ
  texted = numbers_of (filter (λ y. is_text y.content) KA)

  -- texts have no lists, so that they are the same
  abbrev pub all_looks : List ℕ
  all_looks = m.looks ++ texted

  solid-keeps : (x : Visit) → is_text x.content ≡ false → keeps m.known x ≡ true
  solid-keeps x h = ap (λ b. not b || is_known m.known x.above) h

  pub kept-first : (k : ℕ) (x : Visit) → found k KA ≡ Some x → (found k A ≡ Some x) × (keeps m.known x ≡ true)
  kept-first k x e = found-out (keeps m.known) k A x w.visits.apart e

  pub kept-second : (k : ℕ) (x : Visit) → found k KB ≡ Some x → (found k B ≡ Some x) × (keeps m.known x ≡ true)
  kept-second k x e = found-out (keeps m.known) k B x w.other_visits.apart e

  pub in-first : (k : ℕ) (x : Visit) → found k A ≡ Some x → keeps m.known x ≡ true → found k KA ≡ Some x
  in-first k x e h = found-in (keeps m.known) k A x w.visits.apart e h

  pub in-second : (k : ℕ) (x : Visit) → found k B ≡ Some x → keeps m.known x ≡ true → found k KB ≡ Some x
  in-second k x e h = found-in (keeps m.known) k B x w.other_visits.apart e h

  text-list : (n : ℕ) → has n texted ≡ true → filter (λ y. is_first n y.above) KA ≡ filter (λ y. is_first n y.above) KB
  text-list n h =
      let x = kept-found (λ y. is_text y.content) n KA m.frame.apart h in
      none A w.visits KA m.frame.apart (λ k y e. (kept-first k y e).0) (λ z e t. sym (ap not (ap (λ (q : Visit). is_text q.content) (some-same (sym e ∙ (kept-first n x.0 x.1).0)) ∙ x.2)) ∙ t)
      ∙ sym (none B w.other_visits KB m.frame.apart_too (λ k y e. (kept-second k y e).0)
      (λ z e t. sym (ap not (ap is_text (sym (m.frame.contents n x.0 z x.1 (in-second n z e (solid-keeps z (not-of (is_text z.content) t))))) ∙ x.2)) ∙ t))
    where
      none : (all : List Visit) → AreVisits all → (part : List Visit) → are_apart (numbers_of part) ≡ true → ((k : ℕ) (y : Visit) → found k part ≡ Some y → found k all ≡ Some y) →
          ((z : Visit) → found n all ≡ Some z → not (is_text z.content) ≡ true → false ≡ true) → filter (λ y. is_first n y.above) part ≡ []
      none all v part apart in_all off =
          filter-nothing (λ y. is_first n y.above) part (each-of (λ y. found y.number part ≡ Some y) (λ y. is_first n y.above ≡ true → false ≡ true) part
          (λ y e i. let z = above-solid all v y.number y (in_all y.number y e) n (has-head n y.above i) in let out = solid-found all v n z.0 z.1 in off z.0 out.0 out.1) (self-found part apart))

  pub all_lists : SameLists all_looks KA KB
  all_lists n h = elim (has-append n m.looks texted h) [ inl a ↦ m.lists n a | inr b ↦ text-list n b ]

  -- what is looked at among known nodes is looked at in the shape
  module _ (n : ℕ) (x : Visit) (e : found n KA ≡ Some x) where
    in_first : found n A ≡ Some x
    in_first = (kept-first n x e).0

    own-list : (looks : List ℕ) → (is_text x.content ≡ false → has n looks ≡ true) → Within looks m.looks → has n all_looks ≡ true
    own-list looks h i = by (is_text x.content) refl
      where
        by : (b : Bool) → is_text x.content ≡ b → has n all_looks ≡ true
        by true t = has-right n m.looks texted (present n (filter (λ y. is_text y.content) KA) x (found-in (λ y. is_text y.content) n KA x m.frame.apart e t))
        by false t = has-left n m.looks texted (i n (h t))

    stand-own : is_text x.content ≡ false → stand x ≡ n
    stand-own t = cov-solid m.shaped x t ∙ found-number n KA x e

    below-list : Within (lists_below U (stand x)) m.looks → (k : ℕ) → has k (lists_below KA n) ≡ true → has k all_looks ≡ true
    below-list i k h = elim (or-cases (k == n) _ h) [
      | inl a ↦ ap (λ j. has j all_looks) (eqb-true k n a)
          ∙ own-list (lists_below U (stand x)) (λ t. ap (λ j. has n (lists_below U j)) (stand-own t) ∙ or-left (n == n) _ (self-same n)) i
      | inr b ↦ let y = kept-found (λ z. has n z.above) k KA m.frame.apart b in under y.0 y.1 y.2 (is_text y.0.content) refl
    ]
      where
        under : (y : Visit) → found k KA ≡ Some y → has n y.above ≡ true → (c : Bool) → is_text y.content ≡ c → has k all_looks ≡ true
        under y j l true t = has-right k m.looks texted (present k (filter (λ z. is_text z.content) KA) y (found-in (λ z. is_text z.content) k KA y m.frame.apart j t))
        under y j l false t =
            let whole = (kept-first k y j).0 in
            let named = found-number n KA x e in
            let own : stand x ≡ n = cov-above m.shaped k y whole n x in_first (ap (λ q. has q y.above) named ∙ l) ∙ named in
            let in_shape = stays-found m.shaped k y whole (solid-stays m.shaped y t) in
            has-left k m.looks texted (i k (ap (λ q. has k (lists_below U q)) own
            ∙ or-right (k == n) _ (present k (filter (λ z. has n z.above) U) y (found-in (λ z. has n z.above) k U y m.shaped.shape_visits.apart in_shape l))))

    around-list : Within (list_around U (stand x)) m.looks → (k : ℕ) → has k (list_around KA n) ≡ true → has k all_looks ≡ true
    around-list i k h = by x.above refl (ap (λ o. has k (parent_in o)) (sym e) ∙ h)
      where
        by : (ns : List ℕ) → x.above ≡ ns → has k (as_list (first_of ns)) ≡ true → has k all_looks ≡ true
        by [] j l = no l
        by (q ∷ qs) j l = elim (or-cases (k == q) false l) [
          | inl a ↦ has-left k m.looks texted (i k (ap (λ o. has o (list_around U (stand x))) (eqb-true k q a) ∙ around-has m.shaped n x in_first q qs j))
          | inr b ↦ no b
        ]

    pub looked-lists : (axis : Axis) → Within (lists_of axis U (stand x)) m.looks → (k : ℕ) → has k (lists_of axis KA n) ≡ true → has k all_looks ≡ true
    looked-lists Child i k h = elim (or-cases (k == n) false h) [ inl a ↦ ap (λ j. has j all_looks) (eqb-true k n a) ∙ own-list (stand x ∷ []) (λ t. ap (λ j. has n (j ∷ [])) (stand-own t) ∙ or-left (n == n) false (self-same n)) i | inr b ↦ no b ]
    looked-lists Attribute i k h = elim (or-cases (k == n) false h) [ inl a ↦ ap (λ j. has j all_looks) (eqb-true k n a) ∙ own-list (stand x ∷ []) (λ t. ap (λ j. has n (j ∷ [])) (stand-own t) ∙ or-left (n == n) false (self-same n)) i | inr b ↦ no b ]
    looked-lists Self_ i k h = no h
    looked-lists Parent i k h = no h
    looked-lists Ancestor i k h = no h
    looked-lists AncestorOrSelf i k h = no h
    looked-lists Descendant i k h = below-list i k h
    looked-lists DescendantOrSelf i k h = below-list i k h
    looked-lists FollowingSibling i k h = around-list i k h
    looked-lists PrecedingSibling i k h = around-list i k h

    pub reach-kept : (i : found n KB ≡ Some x) (axis : Axis) (test : Test) → Within (lists_of axis U (stand x)) m.looks → Reach KA KB (reached axis test KA n) (reached axis test KB n)
    reach-kept i axis test h = reach m.frame (λ y. meets axis test y.content) all_looks all_lists n x e i axis (looked-lists axis h)

    -- what stands below a known node in the other forest stands there in the first, too
    pub below-same : Within (lists_below U (stand x)) m.looks → (k : ℕ) (y : Visit) → found k KB ≡ Some y → has n y.above ≡ true → found k KA ≡ Some y
    below-same h k y i l =
        below-back m.frame all_looks all_lists n (record {
          here = below-list h n (or-left (n == n) _ (self-same n));
          under = λ j v g o. below-list h j (or-right (j == n) _ (present j (filter (λ z. has n z.above) KA) v (found-in (λ z. has n z.above) j KA v m.frame.apart g o)));
        }) y.above k y i refl l

  pub child-same : (q : ℕ) → has q m.looks ≡ true → (k : ℕ) (y : Visit) → found k KB ≡ Some y → is_first q y.above ≡ true → found k KA ≡ Some y
  child-same q h k y e i = child-there (flipped m.frame) q k y (sym (m.lists q h)) e i
