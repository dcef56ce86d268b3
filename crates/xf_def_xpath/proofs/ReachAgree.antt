-- What an axis selects from a node that is the same in two lists of visits, by cases on the axis.
use Rattle.std.proofs.Common.{◌≡◌, ℕ, ◌==◌, Bool, true, false, not, cond, ◌&&◌, ◌||◌, List, [], ◌∷◌, map, reverse, Some, refl, sym, ap, ◌∙◌, inl, inr}
use Rattle.std.specs.Prelude.{filter}
use Rattle.std.proofs.lemmas.Bool.{eqb-true}
use Rattle.xf_name.specs.declared.axis.Axis.{Axis}
use Rattle.xf_name.specs.declared.axis.Axis.TheVariants.{Child, Attribute, Self_, Parent, Ancestor, AncestorOrSelf, Descendant, DescendantOrSelf, FollowingSibling, PrecedingSibling}
use Rattle.xf_def_forest.specs.Forest.{is_attribute}
use Rattle.xf_def_forest.specs.Visit.{Visit, has, is_first, same_parent}
use Rattle.xf_def_forest.specs.Axis.{before, after, is_on, on_axis, are_siblings, is_reverse, axis_from}
use Rattle.xf_def_forest.proofs.BackLaws.{and-true}
use Rattle.xf_def_forest.proofs.OrderLaws.{Sub, filter-sub, map-sub, sub-through}
use Rattle.xf_def_forest.proofs.RenumberLaws.{map-reverse}
use Rattle.xf_def_xpath.specs.Asked.{found, parent_in, list_around, lists_below}
use Rattle.xf_def_xpath.specs.AskedSteps.{lists_of}
use Rattle.xf_def_xpath.specs.Agree.{numbers_of}
use Rattle.xf_def_xpath.proofs.VisitFacts.{self-same, or-cases, or-left, or-right, no, filter-and, filter-none, filter-reverse, found-number, present, found-in}
use Rattle.xf_def_xpath.proofs.SameKept.{region, kept-found, has-reverse}
use Rattle.xf_def_xpath.proofs.AxisAgree.{Frame, flipped, Stands, AllStand, SameLists, stands-flipped, stands-there, stands-at, above-stands, child-there, LookedBelow, below-there, below-back, filter-after, filter-before, after-sub, before-sub, has-sub}

-- the same nodes, each of which is the same in both
pub record Reach (A B : List Visit) (ns ms : List ℕ) : Type 0 where
  pub same : ns ≡ ms
  pub stand : AllStand A B ns

module _ {A B : List Visit} (f : Frame A B) (T : Visit → Bool) where
  region-reach : (q : Visit → Bool) → ((k : ℕ) (y : Visit) → found k A ≡ Some y → q y ≡ true → found k B ≡ Some y) → ((k : ℕ) (y : Visit) → found k B ≡ Some y → q y ≡ true → found k A ≡ Some y) →
      Reach A B (numbers_of (filter T (filter q A))) (numbers_of (filter T (filter q B)))
  region-reach q there back = record {
    same = ap numbers_of (sym (filter-and T q A))
        ∙ region A B f.apart f.apart_too f.order (λ y. q y && T y) (λ k y e h. there k y e (and-true (q y) (T y) h).0) (λ k y e h. back k y e (and-true (q y) (T y) h).0)
        ∙ ap numbers_of (filter-and T q B);
    stand = λ k h.
        let y = kept-found (λ z. q z && T z) k A f.apart (ap (λ l. has k (numbers_of l)) (filter-and T q A) ∙ h) in
        record { visit = y.0; first = y.1; second = there k y.0 y.1 (and-true (q y.0) (T y.0) y.2).0 };
  }

  -- the nodes with these numbers, which are the same in both
  by-numbers : (t : ℕ → Bool) → ((k : ℕ) → t k ≡ true → Stands A B k) → Reach A B (numbers_of (filter T (filter (λ y. t y.number) A))) (numbers_of (filter T (filter (λ y. t y.number) B)))
  by-numbers t stand = region-reach (λ y. t y.number)
      (λ k y e h. stands-there k y (stand k (ap t (sym (found-number k A y e)) ∙ h)) e)
      (λ k y e h. stands-there k y (stands-flipped k (stand k (ap t (sym (found-number k B y e)) ∙ h))) e)

  -- ---- siblings: on one side of the node in the list around it

  beside-same : (side : ℕ → List Visit → List Visit) (n : ℕ) (p : ℕ) (x : Visit) (a : Bool) →
      ((q : Visit → Bool) (all : List Visit) → found n all ≡ Some x → q x ≡ true → filter q (side n all) ≡ side n (filter q all)) →
      ((all : List Visit) → Sub (side n all) all) →
      found n A ≡ Some x → found n B ≡ Some x → is_first p x.above ≡ true → filter (λ y. is_first p y.above) A ≡ filter (λ y. is_first p y.above) B →
      Reach A B (numbers_of (filter T (filter (λ y. is_first p y.above && a && not (is_attribute y.content)) (side n A)))) (numbers_of (filter T (filter (λ y. is_first p y.above && a && not (is_attribute y.content)) (side n B))))
  beside-same side n p x a through part e i h same = record {
    same = ap (λ l. numbers_of (filter T l)) (in-list A e ∙ ap (λ l. filter (λ y. not (is_attribute y.content)) (filter (λ (y : Visit). a) (side n l))) same ∙ sym (in-list B i));
    stand = λ k j.
        let y = kept-found (λ z. is_first p z.above) k A f.apart (has-sub k (parts k) (ap (λ l. has k (numbers_of (filter T l))) (sym (in-list A e)) ∙ j)) in
        record { visit = y.0; first = y.1; second = child-there f p k y.0 same y.1 y.2 };
  }
    where
      in-list : (all : List Visit) → found n all ≡ Some x → filter (λ y. is_first p y.above && a && not (is_attribute y.content)) (side n all)
          ≡ filter (λ y. not (is_attribute y.content)) (filter (λ (y : Visit). a) (side n (filter (λ y. is_first p y.above) all)))
      in-list all g =
          filter-and (λ y. not (is_attribute y.content)) (λ y. is_first p y.above && a) (side n all)
          ∙ ap (filter (λ y. not (is_attribute y.content))) (filter-and (λ (y : Visit). a) (λ y. is_first p y.above) (side n all))
          ∙ ap (λ l. filter (λ y. not (is_attribute y.content)) (filter (λ (y : Visit). a) l)) (through (λ y. is_first p y.above) all g h)

      parts : (k : ℕ) → Sub (numbers_of (filter T (filter (λ y. not (is_attribute y.content)) (filter (λ (y : Visit). a) (side n (filter (λ y. is_first p y.above) A)))))) (numbers_of (filter (λ y. is_first p y.above) A))
      parts k = map-sub (λ (y : Visit). y.number) (sub-through (filter-sub T _) (sub-through (filter-sub (λ y. not (is_attribute y.content)) _) (sub-through (filter-sub (λ (y : Visit). a) _) (part (filter (λ y. is_first p y.above) A)))))

  siblings : (side : ℕ → List Visit → List Visit) (n : ℕ) (x : Visit) (above : List ℕ) →
      ((q : Visit → Bool) (all : List Visit) → found n all ≡ Some x → q x ≡ true → filter q (side n all) ≡ side n (filter q all)) →
      ((all : List Visit) → Sub (side n all) all) →
      found n A ≡ Some x → found n B ≡ Some x → x.above ≡ above → ((p : ℕ) (ps : List ℕ) → above ≡ p ∷ ps → filter (λ y. is_first p y.above) A ≡ filter (λ y. is_first p y.above) B) →
      Reach A B (numbers_of (filter T (filter (λ y. same_parent above y.above && not (is_attribute x.content) && not (is_attribute y.content)) (side n A))))
      (numbers_of (filter T (filter (λ y. same_parent above y.above && not (is_attribute x.content) && not (is_attribute y.content)) (side n B))))
  siblings side n x [] through part e i h lists = record {
    same = ap (λ l. numbers_of (filter T l)) (none A ∙ sym (none B));
    stand = λ k j. no (sym (ap (λ l. has k (numbers_of (filter T l))) (none A)) ∙ j);
  }
    where
      none : (all : List Visit) → filter (λ y. same_parent [] y.above && not (is_attribute x.content) && not (is_attribute y.content)) (side n all) ≡ []
      none all = filter-none _ (λ y. refl) (side n all)
  siblings side n x (p ∷ ps) through part e i h lists =
      beside-same side n p x (not (is_attribute x.content)) through part e i (ap (is_first p) h ∙ self-same p) (lists p ps refl)

-- ---- every axis

has-first : (k : ℕ) (ns : List ℕ) → is_first k ns ≡ true → has k ns ≡ true
has-first k [] h = h
has-first k (n ∷ ns) h = or-left (k == n) (has k ns) h

head-in : (p : ℕ) (ps : List ℕ) (all : List Visit) (n : ℕ) (x : Visit) → found n all ≡ Some x → x.above ≡ p ∷ ps → has p (list_around all n) ≡ true
head-in p ps all n x e h = ap (λ m. has p (parent_in m)) e ∙ by x.above h
  where
    by : (ns : List ℕ) → ns ≡ p ∷ ps → has p (parent_in (Some (record { number = x.number; above = ns; content = x.content }))) ≡ true
    by [] i = cc i
    by (m ∷ ms) i = or-left (p == m) false (let j : m ≡ p = cc i in ap (λ q. p == q) j ∙ self-same p)

module _ {A B : List Visit} (f : Frame A B) (T : Visit → Bool) (looks : List ℕ) (lists : SameLists looks A B) (n : ℕ) (x : Visit) (e : found n A ≡ Some x) (i : found n B ≡ Some x) where
  abbrev Selected : Axis → Type 0
  Selected axis = Reach A B (numbers_of (filter T (on_axis axis A x))) (numbers_of (filter T (on_axis axis B x)))

  -- the number of the node, which tests name
  named : x.number ≡ n
  named = found-number n A x e

  above : (k : ℕ) → has k x.above ≡ true → Stands A B k
  above k h = above-stands f x.above k n x e i refl h

  itself : (k : ℕ) → (x.number == k) ≡ true → Stands A B k
  itself k h = stands-at k n (sym (eqb-true x.number k h) ∙ named) (record { visit = x; first = e; second = i })

  child-at : has n looks ≡ true → filter (λ y. is_first x.number y.above) A ≡ filter (λ y. is_first x.number y.above) B
  child-at h = ap (λ m. filter (λ y. is_first m y.above) A) named ∙ lists n h ∙ sym (ap (λ m. filter (λ y. is_first m y.above) B) named)

  below : LookedBelow looks A n → LookedBelow looks A x.number
  below l = record { here = ap (λ m. has m looks) named ∙ l.here; under = λ m w g h. l.under m w g (ap (λ k. has k w.above) (sym named) ∙ h) }

  looked-below : ((m : ℕ) → has m (lists_below A n) ≡ true → has m looks ≡ true) → LookedBelow looks A n
  looked-below h = record {
    here = h n (or-left (n == n) _ (self-same n));
    under = λ m w g j. h m (or-right (m == n) _ (present m (filter (λ y. has n y.above) A) w (found-in (λ y. has n y.above) m A w f.apart g j)));
  }

  pub selected : (axis : Axis) → ((m : ℕ) → has m (lists_of axis A n) ≡ true → has m looks ≡ true) → Selected axis
  selected Child h = region-reach f T (is_on Child x)
      (λ k y g j. child-there f x.number k y (child-at (h n (or-left (n == n) false (self-same n)))) g (and-true _ _ j).0)
      (λ k y g j. child-there (flipped f) x.number k y (sym (child-at (h n (or-left (n == n) false (self-same n))))) g (and-true _ _ j).0)
  selected Attribute h = region-reach f T (is_on Attribute x)
      (λ k y g j. child-there f x.number k y (child-at (h n (or-left (n == n) false (self-same n)))) g (and-true _ _ j).0)
      (λ k y g j. child-there (flipped f) x.number k y (sym (child-at (h n (or-left (n == n) false (self-same n))))) g (and-true _ _ j).0)
  selected Self_ h = by-numbers f T (λ k. x.number == k) itself
  selected Parent h = by-numbers f T (λ k. is_first k x.above) (λ k j. above k (has-first k x.above j))
  selected Ancestor h = by-numbers f T (λ k. has k x.above) above
  selected AncestorOrSelf h = by-numbers f T (λ k. has k x.above || (x.number == k)) (λ k j. elim (or-cases (has k x.above) (x.number == k) j) [ inl l ↦ above k l | inr r ↦ itself k r ])
  selected Descendant h = region-reach f T (is_on Descendant x)
      (λ k y g j. below-there f looks lists x.number (below (looked-below h)) k y g (and-true _ _ j).0)
      (λ k y g j. below-back f looks lists x.number (below (looked-below h)) y.above k y g refl (and-true _ _ j).0)
  selected DescendantOrSelf h = region-reach f T (is_on DescendantOrSelf x)
      (λ k y g j. elim (or-cases (has x.number y.above && not (is_attribute y.content)) (x.number == y.number) j) [
        | inl l ↦ below-there f looks lists x.number (below (looked-below h)) k y g (and-true (has x.number y.above) (not (is_attribute y.content)) l).0
        | inr r ↦ stands-there k y (stands-at k y.number (sym (found-number k A y g)) (itself y.number r)) g
      ])
      (λ k y g j. elim (or-cases (has x.number y.above && not (is_attribute y.content)) (x.number == y.number) j) [
        | inl l ↦ below-back f looks lists x.number (below (looked-below h)) y.above k y g refl (and-true (has x.number y.above) (not (is_attribute y.content)) l).0
        | inr r ↦ stands-there k y (stands-flipped k (stands-at k y.number (sym (found-number k B y g)) (itself y.number r))) g
      ])
  selected FollowingSibling h = ahead x.number named
    where
      ahead : (m : ℕ) → m ≡ n → Reach A B (numbers_of (filter T (filter (are_siblings x) (after m A)))) (numbers_of (filter T (filter (are_siblings x) (after m B))))
      ahead m j = siblings f T after m x x.above (λ q all. filter-after q m x all) (after-sub m) (ap (λ k. found k A) j ∙ e) (ap (λ k. found k B) j ∙ i) refl
          (λ p ps l. lists p (h p (head-in p ps A n x e l)))
  selected PrecedingSibling h = behind x.number named
    where
      behind : (m : ℕ) → m ≡ n → Reach A B (numbers_of (filter T (filter (are_siblings x) (before m A)))) (numbers_of (filter T (filter (are_siblings x) (before m B))))
      behind m j = siblings f T before m x x.above (λ q all. filter-before q m x all) (before-sub m) (ap (λ k. found k A) j ∙ e) (ap (λ k. found k B) j ∙ i) refl
          (λ p ps l. lists p (h p (head-in p ps A n x e l)))

  -- in the order of the axis
  in-proximity : (r : Bool) (all : List Visit) → map (λ (y : Visit). y.number) (filter T (cond r (reverse all) all)) ≡ cond r (reverse (numbers_of (filter T all))) (numbers_of (filter T all))
  in-proximity true all = ap numbers_of (filter-reverse T all) ∙ map-reverse (λ (y : Visit). y.number) (filter T all)
  in-proximity false all = refl

  turned-reach : (r : Bool) {ns ms : List ℕ} → Reach A B ns ms → Reach A B (cond r (reverse ns) ns) (cond r (reverse ms) ms)
  turned-reach true {ns} h = record { same = ap reverse h.same; stand = λ k j. h.stand k (has-reverse k ns j) }
  turned-reach false h = h

  pub reach : (axis : Axis) → ((m : ℕ) → has m (lists_of axis A n) ≡ true → has m looks ≡ true) →
      Reach A B (map (λ (y : Visit). y.number) (filter T (axis_from axis A (found n A)))) (map (λ (y : Visit). y.number) (filter T (axis_from axis B (found n B))))
  reach axis h =
      let turned = turned-reach (is_reverse axis) (selected axis h) in
      let first : map (λ (y : Visit). y.number) (filter T (axis_from axis A (found n A))) ≡ cond (is_reverse axis) (reverse (numbers_of (filter T (on_axis axis A x)))) (numbers_of (filter T (on_axis axis A x))) =
      ap (λ m. numbers_of (filter T (axis_from axis A m))) e ∙ in-proximity (is_reverse axis) (on_axis axis A x) in
      let second : map (λ (y : Visit). y.number) (filter T (axis_from axis B (found n B))) ≡ cond (is_reverse axis) (reverse (numbers_of (filter T (on_axis axis B x)))) (numbers_of (filter T (on_axis axis B x))) =
      ap (λ m. numbers_of (filter T (axis_from axis B m))) i ∙ in-proximity (is_reverse axis) (on_axis axis B x) in
      record { same = first ∙ turned.same ∙ sym second; stand = λ k j. turned.stand k (ap (has k) (sym first) ∙ j) }
