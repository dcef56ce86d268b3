-- Two forests of which the nodes that stand in both, texts counted, are the same and keep their order: so do those of their shapes.
use Rattle.std.proofs.Common.{◌≡◌, ℕ, ◌==◌, ◌^◌, Bool, true, false, not, cond, ◌&&◌, List, [], ◌∷◌, nat_lt, Some, None, refl, sym, ap, ◌∙◌, subst, inl, inr}
use Rattle.std.specs.Prelude.{filter}
use Rattle.xf_def_forest.specs.Forest.{Forest, is_element}
use Rattle.xf_def_forest.specs.Visit.{Visit, visits, has, is_first}
use Rattle.xf_def_forest.specs.Shape.{text_number, text_visit, given_visits, visits_in, is_gone, filled, has_elements, only_text, shape}
use Rattle.xf_def_forest.specs.WellFormed.{HasTrees}
use Rattle.xf_def_forest.proofs.BackLaws.{and-true}
use Rattle.xf_def_forest.proofs.RenumberLaws.{filter-through}
use Rattle.xf_def_xpath.specs.Asked.{found}
use Rattle.xf_def_xpath.specs.Agree.{numbers_of, untexted, AreVisits}
use Rattle.xf_def_xpath.proofs.VisitFacts.{self-same, no, some-same, filter-and, found-number, present}
use Rattle.xf_def_xpath.proofs.SameKept.{region}
use Rattle.xf_def_xpath.proofs.UntextedLaws.{solid-found}
use Rattle.xf_def_xpath.proofs.ForestVisits.{Each, each-map, each-filter, self-found}
use Rattle.xf_def_xpath.proofs.ShapeVisits.{AreBelow}
use Rattle.xf_law_recalculation.specs.Agree.Forests.{bare}
use Rattle.xf_law_recalculation.proofs.MarksLemmas.TextLists.{standing-at, headed, opened}
use Rattle.xf_law_recalculation.proofs.BindLemmas.Filled.{filled-part, filled-on, led-stays, takes-all}
use Rattle.xf_law_recalculation.proofs.BindLemmas.Led.{forest-led}
use Rattle.xf_law_recalculation.proofs.BindLemmas.Members as members

pub record Pair : Type 0 where
  pub first : Forest
  pub second : Forest
  pub trees : HasTrees first
  pub trees_too : HasTrees second
  pub below : AreBelow (numbers_of (visits first.nodes))
  pub below_too : AreBelow (numbers_of (visits second.nodes))
  pub stay : (n : ℕ) (x y : Visit) → found n (bare first) ≡ Some x → found n (bare second) ≡ Some y → x ≡ y
  pub order : filter (λ n. has n (numbers_of (bare second))) (numbers_of (bare first)) ≡ filter (λ n. has n (numbers_of (bare first))) (numbers_of (bare second))

abbrev pub flipped : Pair → Pair
flipped c = record {
  first = c.second;
  second = c.first;
  trees = c.trees_too;
  trees_too = c.trees;
  below = c.below_too;
  below_too = c.below;
  stay = λ n x y i j. sym (c.stay n y x j i);
  order = sym c.order;
}

pub both-hold : (a b : Bool) → a ≡ true → b ≡ true → (a && b) ≡ true
both-hold true b h i = i
both-hold false b h i = h

pub both-true : (b : Bool) → (b && true) ≡ b
both-true true = refl
both-true false = refl

pub filter-each : (p q : Visit → Bool) (xs : List Visit) → Each (λ y. p y ≡ q y) xs → filter p xs ≡ filter q xs
filter-each p q [] e = refl
filter-each p q (x ∷ xs) e = ap (λ b. cond b (x ∷ filter p xs) (filter p xs)) e.0 ∙ ap (λ l. cond (q x) (x ∷ l) l) (filter-each p q xs e.1)

-- the parent of a node stands
pub parent-found : (all : List Visit) → AreVisits all → (k n : ℕ) (y : Visit) → found k all ≡ Some y → is_first n y.above ≡ true → (z : Visit) × (found n (untexted all) ≡ Some z) × (y.above ≡ n ∷ z.above)
parent-found all v k n y e h =
    let ps = headed n y.above h in
    let z = opened (found n (untexted all)) ps.0 (v.closed k n ps.0 y e ps.1) in
    (z.0, z.1, ps.1 ∙ ap (λ l. n ∷ l) (sym z.2))

-- visits with the same numbers, each the same in both lists
same-visits : (X Y xs ys : List Visit) → ((n : ℕ) (x y : Visit) → found n X ≡ Some x → found n Y ≡ Some y → x ≡ y) → Each (λ x. found x.number X ≡ Some x) xs → Each (λ y. found y.number Y ≡ Some y) ys → numbers_of xs ≡ numbers_of ys → xs ≡ ys
same-visits X Y [] [] h d e i = refl
same-visits X Y [] (y ∷ ys) h d e i = cc i
same-visits X Y (x ∷ xs) [] h d e i = cc i
same-visits X Y (x ∷ xs) (y ∷ ys) h d e i =
    let number : x.number ≡ y.number = cc i in
    let rest : numbers_of xs ≡ numbers_of ys = cc i in
    ap (λ z. z ∷ xs) (h x.number x y d.0 (ap (λ n. found n Y) number ∙ e.0)) ∙ ap (λ l. y ∷ l) (same-visits X Y xs ys h d.1 e.1 rest)

module _ (c : Pair) where
  abbrev V : List Visit
  V = visits c.first.nodes

  abbrev W : List Visit
  W = visits c.second.nodes

  abbrev A : List Visit
  A = bare c.first

  abbrev B : List Visit
  B = bare c.second

  abbrev S : List Visit
  S = shape V

  abbrev T : List Visit
  T = shape W

  abbrev va : AreVisits A
  va = members.bare_visits c.first c.trees c.below

  abbrev vb : AreVisits B
  vb = members.bare_visits c.second c.trees_too c.below_too

  abbrev sv : AreVisits S
  sv = members.shape_visits c.first c.trees c.below

  abbrev tv : AreVisits T
  tv = members.shape_visits c.second c.trees_too c.below_too

  abbrev pub in_both : ℕ → Bool
  in_both k = has k (numbers_of (shape (visits c.first.nodes))) && has k (numbers_of (shape (visits c.second.nodes)))

  abbrev p : Visit → Bool
  p y = in_both y.number

  -- ---- a node of both shapes is the same in both

  pub same-shaped : (k : ℕ) (x y : Visit) → found k S ≡ Some x → found k T ≡ Some y → x ≡ y
  same-shaped k x y e f = elim (members.member c.first c.trees c.below k x e) [
    | inl a ↦ elim (members.member c.second c.trees_too c.below_too k y f) [
      | inl b ↦ c.stay k x y (ap (λ n. found n A) (sym (found-number k S x e)) ∙ a.0) (ap (λ n. found n B) (sym (found-number k T y f)) ∙ b.0)
      | inr b ↦ no (members.not-text k b.0.number (members.own-below c.first c.trees c.below k x (ap (λ n. found n A) (sym (found-number k S x e)) ∙ a.0)) (sym (found-number k T y f) ∙ ap (λ (v : Visit). v.number) b.4))
    ]
    | inr a ↦ elim (members.member c.second c.trees_too c.below_too k y f) [
      | inl b ↦ no (members.not-text k a.0.number (members.own-below c.second c.trees_too c.below_too k y (ap (λ n. found n B) (sym (found-number k T y f)) ∙ b.0)) (sym (found-number k S x e) ∙ ap (λ (v : Visit). v.number) a.4))
      | inr b ↦
          let number : a.0.number ≡ b.0.number = members.one-text a.0.number b.0.number (sym (ap (λ (v : Visit). v.number) a.4) ∙ found-number k S x e ∙ sym (found-number k T y f) ∙ ap (λ (v : Visit). v.number) b.4) in
          let one : a.0 ≡ b.0 = c.stay a.0.number a.0 b.0 a.1 (ap (λ n. found n B) number ∙ b.1) in
          a.4 ∙ ap (λ z. text_visit z []) one ∙ sym b.4
    ]
  ]

  -- what stands above it stands in both
  pub up-both : (k n : ℕ) (y : Visit) → found k S ≡ Some y → in_both k ≡ true → is_first n y.above ≡ true → in_both n ≡ true
  up-both k n y e h i =
      let w = standing-at k T (and-true (has k (numbers_of S)) (has k (numbers_of T)) h).1 in
      let one : y ≡ w.0 = same-shaped k y w.0 e w.1 in
      let z = parent-found S sv k n y e i in
      let q = parent-found T tv k n w.0 w.1 (ap (λ (v : Visit). is_first n v.above) (sym one) ∙ i) in
      both-hold (has n (numbers_of S)) (has n (numbers_of T)) (present n S z.0 (solid-found S sv n z.0 z.1).0) (present n T q.0 (solid-found T tv n q.0 q.1).0)

  -- a node of both forests that is of both shapes
  own-both : (k : ℕ) → in_both k ≡ true → nat_lt k (2 ^ 128) ≡ true → (y : Visit) × (found k A ≡ Some y) × (found k B ≡ Some y) × (is_gone (only_text V) y ≡ false) × (is_gone (only_text W) y ≡ false)
  own-both k h less =
      let parts = and-true (has k (numbers_of S)) (has k (numbers_of T)) h in
      let x = standing-at k S parts.0 in
      let y = standing-at k T parts.1 in
      let one : x.0 ≡ y.0 = same-shaped k x.0 y.0 x.1 y.1 in
      elim (members.member c.first c.trees c.below k x.0 x.1) [
        | inr a ↦ no (members.not-text k a.0.number less (sym (found-number k S x.0 x.1) ∙ ap (λ (v : Visit). v.number) a.4))
        | inl a ↦ elim (members.member c.second c.trees_too c.below_too k y.0 y.1) [
          | inr b ↦ no (members.not-text k b.0.number less (sym (found-number k T y.0 y.1) ∙ ap (λ (v : Visit). v.number) b.4))
          | inl b ↦ (
            x.0,
            ap (λ n. found n A) (sym (found-number k S x.0 x.1)) ∙ a.0,
            ap (λ n. found n B) (sym (found-number k T y.0 y.1)) ∙ b.0 ∙ ap Some (sym one),
            a.1,
            ap (is_gone (only_text W)) one ∙ b.1,
          )
        ]
      ]

  -- ---- the part that stands in both

  abbrev stays_first : Visit → Bool
  stays_first y = not (is_gone (only_text V) y)

  abbrev stays_second : Visit → Bool
  stays_second y = not (is_gone (only_text W) y)

  abbrev A0 : List Visit
  A0 = filter stays_first A

  abbrev B0 : List Visit
  B0 = filter stays_second B

  abbrev test : Visit → Bool
  test y = stays_first y && p y

  there : (k : ℕ) (y : Visit) → found k A ≡ Some y → test y ≡ true → found k B ≡ Some y
  there k y e h =
      let number = found-number k A y e in
      let w = own-both k (ap in_both (sym number) ∙ (and-true (stays_first y) (p y) h).1) (members.own-below c.first c.trees c.below k y e) in
      w.2 ∙ ap Some (some-same (sym w.1 ∙ e))

  back : (k : ℕ) (y : Visit) → found k B ≡ Some y → test y ≡ true → found k A ≡ Some y
  back k y e h =
      let number = found-number k B y e in
      let w = own-both k (ap in_both (sym number) ∙ (and-true (stays_first y) (p y) h).1) (members.own-below c.second c.trees_too c.below_too k y e) in
      w.1 ∙ ap Some (some-same (sym w.2 ∙ e))

  either-test : (y : Visit) → found y.number B ≡ Some y → test y ≡ (stays_second y && p y)
  either-test y e = by (p y) refl
    where
      none : (b : Bool) → (b && false) ≡ false
      none true = refl
      none false = refl

      by : (b : Bool) → p y ≡ b → (stays_first y && b) ≡ (stays_second y && b)
      by false i = none (stays_first y) ∙ sym (none (stays_second y))
      by true i =
          let w = own-both y.number i (members.own-below c.second c.trees_too c.below_too y.number y e) in
          let one : w.0 ≡ y = some-same (sym w.2 ∙ e) in
          ap (λ b. not b && true) (ap (is_gone (only_text V)) (sym one) ∙ w.3) ∙ sym (ap (λ b. not b && true) (ap (is_gone (only_text W)) (sym one) ∙ w.4))

  same-numbers : numbers_of (filter p A0) ≡ numbers_of (filter p B0)
  same-numbers =
      ap numbers_of (sym (filter-and p stays_first A))
      ∙ region A B va.apart vb.apart c.order test there back
      ∙ ap numbers_of (filter-each test (λ y. stays_second y && p y) B (each-map (λ y. found y.number B ≡ Some y) (λ y. test y ≡ (stays_second y && p y)) B either-test (self-found B vb.apart)))
      ∙ ap numbers_of (filter-and p stays_second B)

  found-first : Each (λ y. found y.number A ≡ Some y) (filter p A0)
  found-first = each-filter (λ y. found y.number A ≡ Some y) p A0 (each-filter (λ y. found y.number A ≡ Some y) stays_first A (self-found A va.apart))

  found-second : Each (λ y. found y.number B ≡ Some y) (filter p B0)
  found-second = each-filter (λ y. found y.number B ≡ Some y) p B0 (each-filter (λ y. found y.number B ≡ Some y) stays_second B (self-found B vb.apart))

  same-rest : filter p A0 ≡ filter p B0
  same-rest = same-visits A B (filter p A0) (filter p B0) c.stay found-first found-second same-numbers

  -- ---- the texts that are put in

  abbrev given_first : Visit → List Visit
  given_first y = visits_in (only_text V) y

  abbrev given_second : Visit → List Visit
  given_second y = visits_in (only_text W) y

  -- a text that is put in, in an element that has none in the other shape, does not stand there
  absent-text : (y : Visit) → found y.number A ≡ Some y → has_elements W y.number ≡ true → in_both (text_number y.number) ≡ false
  absent-text y e h = by (in_both (text_number y.number)) refl
    where
      by : (b : Bool) → in_both (text_number y.number) ≡ b → b ≡ false
      by false i = refl
      by true i =
          let t = standing-at (text_number y.number) T (and-true (has (text_number y.number) (numbers_of S)) (has (text_number y.number) (numbers_of T)) i).1 in
          let named = found-number (text_number y.number) T t.0 t.1 in
          elim (members.member c.second c.trees_too c.below_too (text_number y.number) t.0 t.1) [
            | inl b ↦ no (members.not-text (text_number y.number) y.number (members.own-below c.second c.trees_too c.below_too (text_number y.number) t.0 (ap (λ n. found n B) (sym named) ∙ b.0)) refl)
            | inr b ↦
                let one : b.0.number ≡ y.number = members.one-text b.0.number y.number (sym (ap (λ (v : Visit). v.number) b.4) ∙ named) in
                sym h ∙ ap (has_elements W) (sym one) ∙ b.3
          ]

  absent-text_too : (y : Visit) → found y.number B ≡ Some y → has_elements V y.number ≡ true → in_both (text_number y.number) ≡ false
  absent-text_too y e h = by (in_both (text_number y.number)) refl
    where
      by : (b : Bool) → in_both (text_number y.number) ≡ b → b ≡ false
      by false i = refl
      by true i =
          let t = standing-at (text_number y.number) S (and-true (has (text_number y.number) (numbers_of S)) (has (text_number y.number) (numbers_of T)) i).0 in
          let named = found-number (text_number y.number) S t.0 t.1 in
          elim (members.member c.first c.trees c.below (text_number y.number) t.0 t.1) [
            | inl b ↦ no (members.not-text (text_number y.number) y.number (members.own-below c.first c.trees c.below (text_number y.number) t.0 (ap (λ n. found n A) (sym named) ∙ b.0)) refl)
            | inr b ↦
                let one : b.0.number ≡ y.number = members.one-text b.0.number y.number (sym (ap (λ (v : Visit). v.number) b.4) ∙ named) in
                sym h ∙ ap (has_elements V) (sym one) ∙ b.3
          ]

  -- the element of a text that stands in both does so
  text-up : (y : Visit) → in_both (text_number y.number) ≡ true → in_both y.number ≡ true
  text-up y h =
      let t = standing-at (text_number y.number) S (and-true (has (text_number y.number) (numbers_of S)) (has (text_number y.number) (numbers_of T)) h).0 in
      let named = found-number (text_number y.number) S t.0 t.1 in
      elim (members.member c.first c.trees c.below (text_number y.number) t.0 t.1) [
        | inl b ↦ no (members.not-text (text_number y.number) y.number (members.own-below c.first c.trees c.below (text_number y.number) t.0 (ap (λ n. found n A) (sym named) ∙ b.0)) refl)
        | inr b ↦
            let one : b.0.number ≡ y.number = members.one-text b.0.number y.number (sym (ap (λ (v : Visit). v.number) b.4) ∙ named) in
            up-both (text_number y.number) y.number t.0 t.1 h (ap (λ (v : Visit). is_first y.number v.above) b.4 ∙ ap (λ n. y.number == n) one ∙ self-same y.number)
      ]

  given-part : (y : Visit) → found y.number A ≡ Some y → found y.number B ≡ Some y → filter p (given_first y) ≡ filter p (given_second y)
  given-part y e f = by (is_element y.content) (has_elements V y.number) (has_elements W y.number) refl refl
    where
      off : (d : Bool) → d ≡ false → cond d (text_visit y [] ∷ []) [] ≡ []
      off true h = no (sym h)
      off false h = refl

      by : (a b d : Bool) → has_elements V y.number ≡ b → has_elements W y.number ≡ d → filter p (cond a (given_visits y (cond b None (Some ([] ∷ [])))) []) ≡ filter p (cond a (given_visits y (cond d None (Some ([] ∷ [])))) [])
      by false b d i j = refl
      by true true true i j = refl
      by true false false i j = refl
      by true true false i j = sym (off (in_both (text_number y.number)) (absent-text_too y f i))
      by true false true i j = off (in_both (text_number y.number)) (absent-text y e j)

  given-out : (all : List Visit) (y : Visit) → in_both y.number ≡ false → filter p (visits_in (only_text all) y) ≡ []
  given-out all y h = by (is_element y.content) (has_elements all y.number) (in_both (text_number y.number)) refl
    where
      by : (a b d : Bool) → in_both (text_number y.number) ≡ d → filter p (cond a (given_visits y (cond b None (Some ([] ∷ [])))) []) ≡ []
      by false b d i = refl
      by true true d i = refl
      by true false true i = no (sym h ∙ text-up y i)
      by true false false i = ap (λ d. cond d (text_visit y [] ∷ []) []) i

  -- ---- the shapes

  up-first : (y : Visit) → found y.number A ≡ Some y → is_gone (only_text V) y ≡ false → (n : ℕ) → is_first n y.above ≡ true → in_both n ≡ false → in_both y.number ≡ false
  up-first y e g n h i = by (in_both y.number) refl
    where
      by : (b : Bool) → in_both y.number ≡ b → b ≡ false
      by false j = refl
      by true j = sym (up-both y.number n y (members.own-in c.first c.trees c.below y.number y e g) j h) ∙ i

  up-second : (y : Visit) → found y.number B ≡ Some y → is_gone (only_text W) y ≡ false → (n : ℕ) → is_first n y.above ≡ true → in_both n ≡ false → in_both y.number ≡ false
  up-second y e g n h i = by (in_both y.number) refl
    where
      in_second : found y.number T ≡ Some y
      in_second = members.own-in c.second c.trees_too c.below_too y.number y e g

      by : (b : Bool) → in_both y.number ≡ b → b ≡ false
      by false j = refl
      by true j =
          let x = standing-at y.number S (and-true (has y.number (numbers_of S)) (has y.number (numbers_of T)) j).0 in
          let one : x.0 ≡ y = same-shaped y.number x.0 y x.1 in_second in
          sym (up-both y.number n x.0 x.1 j (ap (λ (v : Visit). is_first n v.above) one ∙ h)) ∙ i

  not-of : (b : Bool) → not b ≡ true → b ≡ false
  not-of true h = sym h
  not-of false h = refl

  each-stays : (q : Visit → Bool) (P Q : Visit → Type 0) (xs : List Visit) → ((y : Visit) → P y → q y ≡ true → Q y) → Each P xs → Each Q (filter q xs)
  each-stays q P Q [] h e = tt
  each-stays q P Q (x ∷ xs) h e = by (q x) refl (each-stays q P Q xs h e.1)
    where
      by : (b : Bool) → q x ≡ b → Each Q (filter q xs) → Each Q (cond b (x ∷ filter q xs) (filter q xs))
      by true i j = (h x e.0 i, j)
      by false i j = j

  each-any : (Q : Visit → Type 0) (xs : List Visit) → ((y : Visit) → Q y) → Each Q xs
  each-any Q [] h = tt
  each-any Q (x ∷ xs) h = (h x, each-any Q xs h)

  pub same-part : filter p S ≡ filter p T
  same-part =
      filled-part p given_first A0
      (takes-all in_both given_first None false A0 (led-stays (only_text V) None A (forest-led c.first.nodes c.trees.first)) (λ o. no o)
      (each-stays stays_first (λ y. found y.number A ≡ Some y) (λ y. (n : ℕ) → is_first n y.above ≡ true → in_both n ≡ false → in_both y.number ≡ false) A (λ y e g. up-first y e (not-of (is_gone (only_text V) y) g)) (self-found A va.apart))
      (each-any (λ y. in_both y.number ≡ false → filter p (given_first y) ≡ []) A0 (λ y. given-out V y)))
      ∙ filled-on (λ y. filter p (given_first y)) (λ y. filter p (given_second y)) [] (filter p A0)
      (each-both (filter p A0) found-first (subst (λ l. Each (λ y. found y.number B ≡ Some y) l) (sym same-rest) found-second))
      ∙ ap (filled (λ y. filter p (given_second y)) []) same-rest
      ∙ sym (filled-part p given_second B0
      (takes-all in_both given_second None false B0 (led-stays (only_text W) None B (forest-led c.second.nodes c.trees_too.first)) (λ o. no o)
      (each-stays stays_second (λ y. found y.number B ≡ Some y) (λ y. (n : ℕ) → is_first n y.above ≡ true → in_both n ≡ false → in_both y.number ≡ false) B (λ y e g. up-second y e (not-of (is_gone (only_text W) y) g)) (self-found B vb.apart))
      (each-any (λ y. in_both y.number ≡ false → filter p (given_second y) ≡ []) B0 (λ y. given-out W y))))
    where
      each-both : (xs : List Visit) → Each (λ y. found y.number A ≡ Some y) xs → Each (λ y. found y.number B ≡ Some y) xs → Each (λ y. filter p (given_first y) ≡ filter p (given_second y)) xs
      each-both [] d e = tt
      each-both (x ∷ xs) d e = (given-part x d.0 e.0, each-both xs d.1 e.1)

  -- what stands in both shapes keeps its order
  pub shape-order : filter (λ n. has n (numbers_of (shape (visits c.second.nodes)))) (numbers_of (shape (visits c.first.nodes))) ≡ filter (λ n. has n (numbers_of (shape (visits c.first.nodes)))) (numbers_of (shape (visits c.second.nodes)))
  shape-order =
      filter-through (λ (x : Visit). x.number) (λ n. has n (numbers_of T)) (λ x. has x.number (numbers_of T)) (λ x. refl) S
      ∙ ap numbers_of (filter-each (λ x. has x.number (numbers_of T)) p S (each-map (λ y. found y.number S ≡ Some y) (λ y. has y.number (numbers_of T) ≡ p y) S
      (λ y e. sym (ap (λ b. b && has y.number (numbers_of T)) (present y.number S y e))) (self-found S sv.apart)))
      ∙ ap numbers_of same-part
      ∙ ap numbers_of (filter-each p (λ x. has x.number (numbers_of S)) T (each-map (λ y. found y.number T ≡ Some y) (λ y. p y ≡ has y.number (numbers_of S)) T
      (λ y e. ap (λ b. has y.number (numbers_of S) && b) (present y.number T y e) ∙ both-true (has y.number (numbers_of S))) (self-found T tv.apart)))
      ∙ sym (filter-through (λ (x : Visit). x.number) (λ n. has n (numbers_of S)) (λ x. has x.number (numbers_of S)) (λ x. refl) T)
