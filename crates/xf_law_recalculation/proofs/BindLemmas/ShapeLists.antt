-- The list of a node in the shapes of two forests, texts counted: it is the same where it is in the forests.
use Rattle.std.proofs.Common.{◌≡◌, ℕ, Bool, true, false, not, cond, ◌&&◌, ◌||◌, List, [], ◌∷◌, map, Some, None, is_some, refl, sym, ap, ◌∙◌, inl, inr}
use Rattle.std.specs.Prelude.{filter}
use Rattle.std.specs.List.{list_any}
use Rattle.std.proofs.lemmas.Bool.{eqb-true}
use Rattle.xf_def_forest.specs.declared.content.Content.{Content}
use Rattle.xf_def_forest.specs.declared.content.Content.TheVariants as content
use Rattle.xf_def_forest.specs.Forest.{is_text, is_element}
use Rattle.xf_def_forest.specs.Visit.{Visit, visits, has, is_first}
use Rattle.xf_def_forest.specs.Shape.{is_replaced, is_gone, has_elements, only_text, erased, without_text, shape}
use Rattle.xf_def_xpath.specs.Asked.{has_list, found}
use Rattle.xf_def_xpath.specs.Agree.{numbers_of, untexted, list_of, AreVisits}
use Rattle.xf_def_xpath.proofs.VisitFacts.{no, some-same, found-in, found-out, present}
use Rattle.xf_def_xpath.proofs.UntextedLaws.{bare-apart, solid-found}
use Rattle.xf_def_xpath.proofs.ForestVisits.{Each, each-map, self-found}
use Rattle.xf_law_recalculation.specs.Agree.Forests.{bare, InBoth}
use Rattle.xf_law_recalculation.proofs.MarksLemmas.TextLists.{headed, opened, within-each}
use Rattle.xf_law_recalculation.proofs.BindLemmas.Members as members
use Rattle.xf_law_recalculation.proofs.BindLemmas.Pair.{Pair, flipped, both-hold, in_both, same-shaped, same-part}

filter-nothing : (p : Visit → Bool) (ys : List Visit) → Each (λ y. p y ≡ true → false ≡ true) ys → filter p ys ≡ []
filter-nothing p [] e = refl
filter-nothing p (y ∷ ys) e = by (p y) refl (filter-nothing p ys e.1)
  where
    by : (b : Bool) → p y ≡ b → filter p ys ≡ [] → cond b (y ∷ filter p ys) (filter p ys) ≡ []
    by true h i = no (e.0 h)
    by false h i = i

abbrev no_texts : List (List ℕ)
no_texts = [] ∷ []

abbrev is_one : Visit → Bool
is_one y = is_element y.content

-- one more visit in a list
module _ (n : ℕ) (x : Visit) (xs : List Visit) where
  abbrev bare_as : Content → Visit
  bare_as c = record { number = x.number; above = x.above; content = without_text c }

  abbrev rest : List Visit
  rest = untexted (map erased xs)

  abbrev own : List Visit
  own = filter (λ y. is_first n y.above) rest

  apart : (c : Content) (f : Bool) → is_first n x.above ≡ f → list_any is_one (cond f (bare_as c ∷ own) own) ≡ list_any is_one (filter (λ y. is_first n y.above) (bare_as c ∷ rest))
  apart c f e = ap (λ b. list_any is_one (cond b (bare_as c ∷ own) own)) (sym e)

  one-more : (c : Content) (f : Bool) → is_first n x.above ≡ f → has_elements xs n ≡ list_any is_one own →
      ((is_element c && f) || has_elements xs n) ≡ list_any is_one (filter (λ y. is_first n y.above) (cond (not (is_text (without_text c))) (bare_as c ∷ rest) rest))
  one-more content.Root true e h = h ∙ apart content.Root true e
  one-more content.Root false e h = h ∙ apart content.Root false e
  one-more (content.Element name) true e h = apart (content.Element name) true e
  one-more (content.Element name) false e h = h ∙ apart (content.Element name) false e
  one-more (content.Attribute name text) true e h = h ∙ apart (content.Attribute name text) true e
  one-more (content.Attribute name text) false e h = h ∙ apart (content.Attribute name text) false e
  one-more (content.Text text) f e h = h

-- whether elements stand in a node its list tells, texts apart
elements-listed : (n : ℕ) (all : List Visit) → has_elements all n ≡ list_any is_one (list_of (map erased all) n)
elements-listed n [] = refl
elements-listed n (x ∷ xs) = in-parts (is_first n x.above) refl (elements-listed n xs)
  where
    in-parts : (f : Bool) → is_first n x.above ≡ f → has_elements xs n ≡ list_any is_one (list_of (map erased xs) n) → has_elements (x ∷ xs) n ≡ list_any is_one (list_of (map erased (x ∷ xs)) n)
    in-parts f e h = ap (λ b. (is_element x.content && b) || has_elements xs n) e ∙ one-more n x xs x.content f e h

-- a node of both forests with one list, in which the texts are the same where elements stand
pub record IsListed (c : Pair) (n : ℕ) : Type 0 where
  pub here : InBoth c.first c.second n
  pub listed : list_of (bare c.first) n ≡ list_of (bare c.second) n
  pub mixed : has_elements (visits c.first.nodes) n ≡ true → filter (λ y. is_first n y.above) (bare c.first) ≡ filter (λ y. is_first n y.above) (bare c.second)

module _ (c : Pair) (n : ℕ) (h : IsListed c n) where
  abbrev V : List Visit
  V = visits c.first.nodes

  abbrev W : List Visit
  W = visits c.second.nodes

  abbrev A : List Visit
  A = bare c.first

  abbrev B : List Visit
  B = bare c.second

  abbrev S : List Visit
  S = shape V

  abbrev T : List Visit
  T = shape W

  abbrev va : AreVisits A
  va = members.bare_visits c.first c.trees c.below

  abbrev vb : AreVisits B
  vb = members.bare_visits c.second c.trees_too c.below_too

  pub leaf-same : has_elements V n ≡ has_elements W n
  leaf-same = elements-listed n V ∙ ap (list_any is_one) h.listed ∙ sym (elements-listed n W)

  pub listed-flipped : IsListed (flipped c) n
  listed-flipped = record { here = (h.here.0, h.here.2, h.here.1); listed = sym h.listed; mixed = λ e. sym (h.mixed (leaf-same ∙ e)) }

  mixed-first : (y : Visit) → is_text y.content ≡ true → is_gone (only_text V) y ≡ false → is_first n y.above ≡ true → has_elements V n ≡ true
  mixed-first y t g f =
      let ps = headed n y.above f in
      by (has_elements V n) (ap (λ ns. is_replaced (only_text V) ns) (sym ps.1) ∙ ap (λ b. b && is_replaced (only_text V) y.above) (sym t) ∙ g)
    where
      by : (b : Bool) → is_some (cond b None (Some no_texts)) ≡ false → b ≡ true
      by true i = refl
      by false i = sym i

  -- what stands in its list in the one shape stands in the other
  there : (y : Visit) → found y.number S ≡ Some y → is_first n y.above ≡ true → in_both c y.number ≡ true
  there y e f = both-hold (has y.number (numbers_of S)) (has y.number (numbers_of T)) (present y.number S y e) (elim (members.member c.first c.trees c.below y.number y e) [
    | inl own ↦ of_own own.0 own.1 (is_text y.content) refl
    | inr made ↦
        let above : y.above ≡ made.0.number ∷ made.0.above = ap (λ (v : Visit). v.above) made.4 in
        let named : n ≡ made.0.number = eqb-true n made.0.number (ap (is_first n) (sym above) ∙ f) in
        let one : made.0 ≡ h.here.0 = some-same (sym made.1 ∙ ap (λ k. found k A) (sym named) ∙ (solid-found A va n h.here.0 h.here.1).0) in
        let in_second : found made.0.number B ≡ Some made.0 = ap (λ k. found k B) (sym named) ∙ (solid-found B vb n h.here.0 h.here.2).0 ∙ ap Some (sym one) in
        ap (λ (v : Visit). has v.number (numbers_of T)) made.4
        ∙ members.made-in c.second c.trees_too c.below_too made.0 in_second made.2 (ap (has_elements W) (sym named) ∙ sym leaf-same ∙ ap (has_elements V) named ∙ made.3)
  ])
    where
      of_own : found y.number A ≡ Some y → is_gone (only_text V) y ≡ false → (t : Bool) → is_text y.content ≡ t → has y.number (numbers_of T) ≡ true
      of_own i g false t =
          let in_list : found y.number (list_of A n) ≡ Some y = found-in (λ z. is_first n z.above) y.number (untexted A) y (bare-apart A va) (found-in (λ z. not (is_text z.content)) y.number A y va.apart i (ap not t)) f in
          let solid : found y.number (untexted B) ≡ Some y = (found-out (λ z. is_first n z.above) y.number (untexted B) y (bare-apart B vb) (sym (ap (found y.number) h.listed) ∙ in_list)).0 in
          present y.number T y (members.own-in c.second c.trees_too c.below_too y.number y (solid-found B vb y.number y solid).0 (ap (λ b. b && is_replaced (only_text W) y.above) t))
      of_own i g true t =
          let mixed = mixed-first y t g f in
          let in_list : found y.number (filter (λ z. is_first n z.above) A) ≡ Some y = found-in (λ z. is_first n z.above) y.number A y va.apart i f in
          let in_second : found y.number B ≡ Some y = (found-out (λ z. is_first n z.above) y.number B y vb.apart (sym (ap (found y.number) (h.mixed mixed)) ∙ in_list)).0 in
          let ps = headed n y.above f in
          present y.number T y (members.own-in c.second c.trees_too c.below_too y.number y in_second
          (ap (λ b. b && is_replaced (only_text W) y.above) t ∙ ap (is_replaced (only_text W)) ps.1 ∙ ap (λ b. is_some (cond b None (Some no_texts))) (sym leaf-same ∙ mixed)))

module _ (c : Pair) (n : ℕ) where
  abbrev S1 : List Visit
  S1 = shape (visits c.first.nodes)

  abbrev S2 : List Visit
  S2 = shape (visits c.second.nodes)

  abbrev first : Visit → Bool
  first y = is_first n y.above

  sv : AreVisits S1
  sv = members.shape_visits c.first c.trees c.below

  tv : AreVisits S2
  tv = members.shape_visits c.second c.trees_too c.below_too

  turn : (a b : Bool) → (a && b) ≡ true → (b && a) ≡ true
  turn true b h = both-hold b true h refl
  turn false b h = no h

  -- so has it in the shapes
  pub shape-list : IsListed c n → filter (λ y. is_first n y.above) (shape (visits c.first.nodes)) ≡ filter (λ y. is_first n y.above) (shape (visits c.second.nodes))
  shape-list h =
      sym (within-each first (λ y. in_both c y.number) S1 (each-map (λ y. found y.number S1 ≡ Some y) (λ y. first y ≡ true → in_both c y.number ≡ true) S1 (λ y e f. there c n h y e f) (self-found S1 sv.apart)))
      ∙ ap (filter first) (same-part c)
      ∙ within-each first (λ y. in_both c y.number) S2 (each-map (λ y. found y.number S2 ≡ Some y) (λ y. first y ≡ true → in_both c y.number ≡ true) S2
      (λ y e f. turn (has y.number (numbers_of S2)) (has y.number (numbers_of S1)) (there (flipped c) n (listed-flipped c n h) y e f)) (self-found S2 tv.apart))

  -- a node without a list has nothing in it
  none : (x : Visit) → has_list x.content ≡ false → (all : List Visit) → AreVisits all → ((z : Visit) → found n all ≡ Some z → x ≡ z) → filter first all ≡ []
  none x l all v same = filter-nothing first all (each-map (λ y. found y.number all ≡ Some y) (λ y. is_first n y.above ≡ true → false ≡ true) all off (self-found all v.apart))
    where
      off : (y : Visit) → found y.number all ≡ Some y → is_first n y.above ≡ true → false ≡ true
      off y i f =
          let ps = headed n y.above f in
          let z = opened (found n (untexted all)) ps.0 (v.closed y.number n ps.0 y i ps.1) in
          let at_n = (solid-found all v n z.0 z.1).0 in
          sym l ∙ ap (λ (q : Visit). has_list q.content) (same z.0 at_n) ∙ v.parents y.number n ps.0 y z.0 i ps.1 at_n

  pub no-list : (x : Visit) → found n (shape (visits c.first.nodes)) ≡ Some x → has_list x.content ≡ false → filter (λ y. is_first n y.above) (shape (visits c.first.nodes)) ≡ filter (λ y. is_first n y.above) (shape (visits c.second.nodes))
  no-list x e l = none x l S1 sv (λ z i. some-same (sym e ∙ i)) ∙ sym (none x l S2 tv (λ z i. same-shaped c n x z e i))
