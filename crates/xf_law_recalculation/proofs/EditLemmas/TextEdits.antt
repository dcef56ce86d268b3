-- A text that is set keeps what is so of the data of now beside those of before, once its node is marked.
use Rattle.std.proofs.Common.{◌≡◌, ℕ, ◌==◌, Bool, true, false, not, cond, ◌&&◌, ◌||◌, List, [], ◌∷◌, map, Option, Some, None, option_map, refl, sym, ap, ◌∙◌, inl, inr}
use Rattle.std.specs.Prelude.{filter}
use Rattle.std.proofs.lemmas.Bool.{eqb-true}
use Rattle.xf_def_forest.specs.declared.content.Content.{Content}
use Rattle.xf_def_forest.specs.declared.content.Content.TheVariants as content
use Rattle.xf_def_forest.specs.Forest.{is_text, is_element}
use Rattle.xf_def_forest.specs.Visit.{Visit, has, is_first}
use Rattle.xf_def_forest.specs.Shape.{erased, without_text, has_elements}
use Rattle.xf_def_forest.proofs.BackLaws.{and-true}
use Rattle.xf_def_forest.proofs.RenumberLaws.{map-map, filter-through, find-through}
use Rattle.xf_def_xpath.specs.Asked.{found}
use Rattle.xf_def_xpath.specs.Agree.{numbers_of, are_apart, untexted}
use Rattle.xf_def_xpath.proofs.VisitFacts.{self-same, or-left, no, some-same, none-some, filter-within, found-number, present, found-in, found-out}
use Rattle.xf_def_xpath.proofs.ForestVisits.{Each, each-map, self-found, found-erased}
use Rattle.xf_law_recalculation.specs.Agree.Kept.{is_known, keeps}
use Rattle.xf_law_recalculation.proofs.AgreeLemmas.HeldShape.{original}
use Rattle.xf_law_recalculation.specs.Marks.Marks.{is_unmarked, texts_in, IsInBoth, without_marked, SameNodes}
use Rattle.xf_law_recalculation.specs.Edit.Edits.{blanked, without_text_of, IsRetexted, MarksMore, TextMarked}
use Rattle.xf_law_recalculation.proofs.MarksLemmas.TextLists.{text-kept}
use Rattle.xf_law_recalculation.proofs.MarksLemmas.Behind.{erased-apart, numbers-erased}
use Rattle.xf_law_recalculation.proofs.EditLemmas.EditLaws.{more-marked}

-- ---- visits without the text of a node

erased-twice : (y : Visit) → erased (erased y) ≡ erased y
erased-twice y = ap (λ c. record { number = y.number; above = y.above; content = c }) (twice y.content)
  where
    twice : (c : Content) → without_text (without_text c) ≡ without_text c
    twice content.Root = refl
    twice (content.Element name) = refl
    twice (content.Attribute name text) = refl
    twice (content.Text text) = refl

map-each : (f g : Visit → Visit) (xs : List Visit) → ((y : Visit) → f y ≡ g y) → map f xs ≡ map g xs
map-each f g [] h = refl
map-each f g (x ∷ xs) h = ap (λ y. y ∷ map f xs) (h x) ∙ ap (λ l. g x ∷ l) (map-each f g xs h)

module _ (n : ℕ) where
  abbrev other : Visit → Bool
  other y = not (is_text y.content && is_first n y.above)

  blanked-erased : (y : Visit) → erased (blanked n y) ≡ erased y
  blanked-erased y = by (y.number == n)
    where
      by : (b : Bool) → erased (cond b (erased y) y) ≡ erased y
      by true = erased-twice y
      by false = refl

  blanked-number : (y : Visit) → (blanked n y).number ≡ y.number
  blanked-number y = by (y.number == n)
    where
      by : (b : Bool) → (cond b (erased y) y).number ≡ y.number
      by true = refl
      by false = refl

  blanked-above : (y : Visit) → (blanked n y).above ≡ y.above
  blanked-above y = by (y.number == n)
    where
      by : (b : Bool) → (cond b (erased y) y).above ≡ y.above
      by true = refl
      by false = refl

  blanked-text : (y : Visit) → is_text (blanked n y).content ≡ is_text y.content
  blanked-text y = by (y.number == n)
    where
      by : (b : Bool) → is_text (cond b (erased y) y).content ≡ is_text y.content
      by true = text-kept y.content
      by false = refl

  element-kept : (c : Content) → is_element (without_text c) ≡ is_element c
  element-kept content.Root = refl
  element-kept (content.Element name) = refl
  element-kept (content.Attribute name text) = refl
  element-kept (content.Text text) = refl

  blanked-element : (y : Visit) → is_element (blanked n y).content ≡ is_element y.content
  blanked-element y = by (y.number == n)
    where
      by : (b : Bool) → is_element (cond b (erased y) y).content ≡ is_element y.content
      by true = element-kept y.content
      by false = refl

  -- texts empty, they are those that are not texts in it
  rest-erased : (xs : List Visit) → map erased (without_text_of n xs) ≡ filter other (map erased xs)
  rest-erased xs =
      sym (filter-through erased other other (λ y. ap (λ t. not (t && is_first n y.above)) (text-kept y.content)) (map (blanked n) xs))
      ∙ ap (filter other) (map-map erased (blanked n) xs ∙ map-each (λ y. erased (blanked n y)) erased xs blanked-erased)

  numbers-blanked : (xs : List Visit) → numbers_of (map (blanked n) xs) ≡ numbers_of xs
  numbers-blanked [] = refl
  numbers-blanked (x ∷ xs) = ap (λ k. k ∷ numbers_of (map (blanked n) xs)) (blanked-number x) ∙ ap (λ l. x.number ∷ l) (numbers-blanked xs)

  found-blanked : (k : ℕ) (xs : List Visit) → found k (map (blanked n) xs) ≡ option_map (blanked n) (found k xs)
  found-blanked k xs = find-through (blanked n) (λ y. y.number == k) (λ y. y.number == k) (λ y. ap (λ m. m == k) (blanked-number y)) xs

  elements-rest : (m : ℕ) (xs : List Visit) → has_elements (without_text_of n xs) m ≡ has_elements xs m
  elements-rest m [] = refl
  elements-rest m (x ∷ xs) = by (is_text x.content && is_first n x.above) refl (elements-rest m xs)
    where
      none : (c : Content) → is_text c ≡ true → is_element c ≡ false
      none content.Root h = no h
      none (content.Element name) h = no h
      none (content.Attribute name text) h = refl
      none (content.Text text) h = refl

      same-test : (is_text (blanked n x).content && is_first n (blanked n x).above) ≡ (is_text x.content && is_first n x.above)
      same-test = ap (λ t. t && is_first n (blanked n x).above) (blanked-text x) ∙ ap (λ l. is_text x.content && is_first n l) (blanked-above x)

      by : (b : Bool) → (is_text x.content && is_first n x.above) ≡ b → has_elements (without_text_of n xs) m ≡ has_elements xs m → has_elements (without_text_of n (x ∷ xs)) m ≡ ((is_element x.content && is_first m x.above) || has_elements xs m)
      by true e h =
          ap (λ c. has_elements (cond (not c) (blanked n x ∷ without_text_of n xs) (without_text_of n xs)) m) (same-test ∙ e) ∙ h
          ∙ sym (ap (λ c. (c && is_first m x.above) || has_elements xs m) (none x.content (and-true (is_text x.content) (is_first n x.above) e).0))
      by false e h =
          ap (λ c. has_elements (cond (not c) (blanked n x ∷ without_text_of n xs) (without_text_of n xs)) m) (same-test ∙ e)
          ∙ ap (λ c. (c && is_first m (blanked n x).above) || has_elements (without_text_of n xs) m) (blanked-element x)
          ∙ ap (λ l. (is_element x.content && is_first m l) || has_elements (without_text_of n xs) m) (blanked-above x)
          ∙ ap (λ c. (is_element x.content && is_first m x.above) || c) h

  -- another node that is no text is the same without it
  apart-blanked : (xs : List Visit) → are_apart (numbers_of xs) ≡ true → are_apart (numbers_of (map (blanked n) xs)) ≡ true
  apart-blanked xs h = ap are_apart (numbers-blanked xs) ∙ h

  rest-found : (xs : List Visit) → are_apart (numbers_of xs) ≡ true → (m : ℕ) (v : Visit) → found m xs ≡ Some v → is_text v.content ≡ false → found m (without_text_of n xs) ≡ Some (blanked n v)
  rest-found xs a m v e t =
      found-in other m (map (blanked n) xs) (blanked n v) (apart-blanked xs a) (found-blanked m xs ∙ ap (option_map (blanked n)) e) (ap (λ b. not (b && is_first n (blanked n v).above)) (blanked-text v ∙ t))

  rest-back : (xs : List Visit) → are_apart (numbers_of xs) ≡ true → (m : ℕ) (w : Visit) → found m (without_text_of n xs) ≡ Some w → (v : Visit) × (found m xs ≡ Some v) × (blanked n v ≡ w)
  rest-back xs a m w e = by (found m xs) refl (sym (found-blanked m xs) ∙ (found-out other m (map (blanked n) xs) w (apart-blanked xs a) e).0)
    where
      by : (o : Option Visit) → found m xs ≡ o → option_map (blanked n) o ≡ Some w → (v : Visit) × (found m xs ≡ Some v) × (blanked n v ≡ w)
      by None i j = none-some j
      by (Some v) i j = (v, i, some-same j)

  itself : (m : ℕ) (v : Visit) → v.number ≡ m → (m == n) ≡ false → blanked n v ≡ v
  itself m v e h = ap (λ b. cond b (erased v) v) (ap (λ k. k == n) e ∙ h)

  -- the texts of another node, where the node itself is none
  texts-rest : (m : ℕ) → (m == n) ≡ false → (xs : List Visit) → Each (λ y. (y.number == n) ≡ true → is_text y.content ≡ false) xs → texts_in xs m ≡ texts_in (without_text_of n xs) m
  texts-rest m h xs e =
      blanked-texts xs e
      ∙ sym (filter-within (λ y. is_text y.content && is_first m y.above) other apart-lists (map (blanked n) xs))
    where
      first-one : (ns : List ℕ) → is_first m ns ≡ true → is_first n ns ≡ true → false ≡ true
      first-one [] i j = i
      first-one (p ∷ ps) i j = sym h ∙ ap (λ k. m == k) (eqb-true n p j) ∙ i

      not-both : (ns : List ℕ) → is_first m ns ≡ true → is_first n ns ≡ false
      not-both ns i = of (is_first n ns) refl
        where
          of : (b : Bool) → is_first n ns ≡ b → b ≡ false
          of true j = sym (first-one ns i j)
          of false j = refl

      and-no : (b : Bool) → (b && false) ≡ false
      and-no true = refl
      and-no false = refl

      apart-lists : (y : Visit) → (is_text y.content && is_first m y.above) ≡ true → other y ≡ true
      apart-lists y i = ap not (ap (λ b. is_text y.content && b) (not-both y.above (and-true (is_text y.content) (is_first m y.above) i).1) ∙ and-no (is_text y.content))

      one-test : (y : Visit) → (is_text (blanked n y).content && is_first m (blanked n y).above) ≡ (is_text y.content && is_first m y.above)
      one-test y = ap (λ t. t && is_first m (blanked n y).above) (blanked-text y) ∙ ap (λ l. is_text y.content && is_first m l) (blanked-above y)

      blanked-texts : (ys : List Visit) → Each (λ y. (y.number == n) ≡ true → is_text y.content ≡ false) ys → texts_in ys m ≡ texts_in (map (blanked n) ys) m
      blanked-texts [] i = refl
      blanked-texts (y ∷ ys) i = by (is_text y.content && is_first m y.above) refl (blanked-texts ys i.1)
        where
          stays : is_text y.content ≡ true → blanked n y ≡ y
          stays t = of (y.number == n) refl
            where
              of : (b : Bool) → (y.number == n) ≡ b → cond b (erased y) y ≡ y
              of true j = no (sym (i.0 j) ∙ t)
              of false j = refl

          by : (b : Bool) → (is_text y.content && is_first m y.above) ≡ b → texts_in ys m ≡ texts_in (map (blanked n) ys) m →
              cond b (y ∷ texts_in ys m) (texts_in ys m) ≡ cond (is_text (blanked n y).content && is_first m (blanked n y).above) (blanked n y ∷ texts_in (map (blanked n) ys) m) (texts_in (map (blanked n) ys) m)
          by true j l =
              ap (λ k. y ∷ k) l ∙ ap (λ v. v ∷ texts_in (map (blanked n) ys) m) (sym (stays (and-true (is_text y.content) (is_first m y.above) j).0))
              ∙ sym (ap (λ c. cond c (blanked n y ∷ texts_in (map (blanked n) ys) m) (texts_in (map (blanked n) ys) m)) (one-test y ∙ j))
          by false j l = l ∙ sym (ap (λ c. cond c (blanked n y ∷ texts_in (map (blanked n) ys) m) (texts_in (map (blanked n) ys) m)) (one-test y ∙ j))

  solid-each : (xs : List Visit) → are_apart (numbers_of xs) ≡ true → (x : Visit) → found n xs ≡ Some x → is_text x.content ≡ false → Each (λ y. (y.number == n) ≡ true → is_text y.content ≡ false) xs
  solid-each xs a x e t = each-map (λ y. found y.number xs ≡ Some y) (λ y. (y.number == n) ≡ true → is_text y.content ≡ false) xs
      (λ y i h. ap (λ (v : Visit). is_text v.content) (some-same (sym i ∙ ap (λ k. found k xs) (eqb-true y.number n h) ∙ e)) ∙ t) (self-found xs a)

-- ---- the law

module _ (texts lists more : List ℕ) (n : ℕ) (now after before : List Visit) (marks : MarksMore texts n more) (re : IsRetexted n now after before) (apart_too : are_apart (numbers_of before) ≡ true) (same : SameNodes texts lists now before) where
  wider : SameNodes more lists now before
  wider = more-marked texts lists more n now before marks re.apart apart_too re.childless same

  abbrev keep2 : Visit → Bool
  keep2 = keeps (is_unmarked more)

  abbrev K2 : List Visit → List Visit
  K2 xs = without_marked more xs

  n-marked : has n more ≡ true
  n-marked = marks n ∙ or-left (n == n) (has n texts) (self-same n)

  keeps-other : (y : Visit) → keep2 y ≡ true → other n y ≡ true
  keeps-other y h = by (is_text y.content) y.above h
    where
      by : (t : Bool) (ns : List ℕ) → (not t || is_known (is_unmarked more) ns) ≡ true → not (t && is_first n ns) ≡ true
      by false ns i = refl
      by true [] i = refl
      by true (p ∷ ps) i = of (n == p) refl
        where
          of : (b : Bool) → (n == p) ≡ b → not b ≡ true
          of true e = sym (ap not (ap (λ k. has k more) (sym (eqb-true n p e)) ∙ n-marked)) ∙ i
          of false e = refl

  kept-rest : (xs : List Visit) → K2 xs ≡ filter keep2 (map erased (without_text_of n xs))
  kept-rest xs = sym (filter-within keep2 (other n) keeps-other (map erased xs)) ∙ ap (filter keep2) (sym (rest-erased n xs))

  kept-same : K2 after ≡ K2 now
  kept-same = kept-rest after ∙ ap (λ l. filter keep2 (map erased l)) re.rest ∙ sym (kept-rest now)

  solid-other : (y : Visit) → not (is_text y.content) ≡ true → other n y ≡ true
  solid-other y h = by (is_text y.content) h
    where
      by : (t : Bool) → not t ≡ true → not (t && is_first n y.above) ≡ true
      by true i = no i
      by false i = refl

  solid-rest : (xs : List Visit) → untexted (map erased xs) ≡ untexted (map erased (without_text_of n xs))
  solid-rest xs = sym (filter-within (λ y. not (is_text y.content)) (other n) solid-other (map erased xs)) ∙ ap untexted (sym (rest-erased n xs))

  solid-same : untexted (map erased after) ≡ untexted (map erased now)
  solid-same = solid-rest after ∙ ap (λ l. untexted (map erased l)) re.rest ∙ sym (solid-rest now)

  was-both : (m : ℕ) → IsInBoth after before m → IsInBoth now before m
  was-both m h = (h.0, ap (found m) (sym solid-same) ∙ h.1, h.2)

  stay : (k : ℕ) (x y : Visit) → found k (map erased after) ≡ Some x → found k (map erased before) ≡ Some y → x ≡ y
  stay k x y e i = by (is_text x.content && is_first n x.above) refl
    where
      by : (b : Bool) → (is_text x.content && is_first n x.above) ≡ b → x ≡ y
      by true h =
          let parts = and-true (is_text x.content) (is_first n x.above) h in
          let v = original k after x e in
          elim (re.fresh k v.0 v.1 (sym (text-kept v.0.content) ∙ ap (λ (w : Visit). is_text w.content) v.2 ∙ parts.0) (ap (λ (w : Visit). is_first n w.above) v.2 ∙ parts.1)) [
            | inl none ↦ no (sym none ∙ ap (has k) (sym (numbers-erased before)) ∙ present k (map erased before) y i)
            | inr stood ↦ wider.stay k x y (found-erased k now ∙ ap (option_map erased) stood ∙ ap Some v.2) i
          ]
      by false h =
          let rest : found k (map erased (without_text_of n after)) ≡ Some x = ap (found k) (rest-erased n after) ∙ found-in (other n) k (map erased after) x (erased-apart after re.apart_after) e (ap not h) in
          let back = found-out (other n) k (map erased now) x (erased-apart now re.apart) (ap (found k) (sym (rest-erased n now)) ∙ ap (λ l. found k (map erased l)) (sym re.rest) ∙ rest) in
          wider.stay k x y back.0 i

  elements-same : (m : ℕ) → has_elements after m ≡ has_elements now m
  elements-same m = sym (elements-rest n m after) ∙ ap (λ l. has_elements l m) re.rest ∙ elements-rest n m now

  differs : (m : ℕ) → has m more ≡ false → (m == n) ≡ false
  differs m h = by (m == n) refl
    where
      by : (b : Bool) → (m == n) ≡ b → b ≡ false
      by true e = sym n-marked ∙ ap (λ k. has k more) (sym (eqb-true m n e)) ∙ h
      by false e = refl

  -- another node that is no text is found as it was
  found-same : (m : ℕ) → IsInBoth now before m → has m more ≡ false → found m after ≡ found m now
  found-same m h free =
      let out = found-out (λ y. not (is_text y.content)) m (map erased now) h.0 (erased-apart now re.apart) h.1 in
      let v = original m now h.0 out.0 in
      let solid : is_text v.0.content ≡ false = not-of (is_text v.0.content) (ap not (sym (text-kept v.0.content) ∙ ap (λ (w : Visit). is_text w.content) v.2) ∙ out.1) in
      let unchanged = itself n m v.0 (found-number m now v.0 v.1) (differs m free) in
      let w = rest-back n after re.apart_after m (blanked n v.0) (ap (found m) re.rest ∙ rest-found n now re.apart m v.0 v.1 solid) in
      w.1 ∙ ap Some (sym (itself n m w.0 (found-number m after w.0 w.1) (differs m free)) ∙ w.2 ∙ unchanged) ∙ sym v.1
    where
      not-of : (b : Bool) → not b ≡ true → b ≡ false
      not-of true i = sym i
      not-of false i = refl

  after-solid : (x : Visit) × (found n after ≡ Some x) × (is_text x.content ≡ false)
  after-solid =
      let x = re.solid in
      let w = rest-back n after re.apart_after n (blanked n x.0) (ap (found n) re.rest ∙ rest-found n now re.apart n x.0 x.1 x.2) in
      (w.0, w.1, sym (blanked-text n w.0) ∙ ap (λ (v : Visit). is_text v.content) w.2 ∙ blanked-text n x.0 ∙ x.2)

  texts-same : (m : ℕ) → has m more ≡ false → texts_in after m ≡ texts_in now m
  texts-same m free =
      texts-rest n m (differs m free) after (solid-each n after re.apart_after after-solid.0 after-solid.1 after-solid.2)
      ∙ ap (λ l. texts_in l m) re.rest
      ∙ sym (texts-rest n m (differs m free) now (solid-each n now re.apart re.solid.0 re.solid.1 re.solid.2))

  text-marked : SameNodes more lists after before
  text-marked = record {
    stay = stay;
    order = ap (λ l. filter (λ k. has k (numbers_of (K2 before))) (numbers_of l)) kept-same ∙ wider.order ∙ sym (ap (λ l. filter (λ k. has k (numbers_of l)) (numbers_of (K2 before))) kept-same);
    listed = λ m h free. ap (filter (λ (y : Visit). is_first m y.above)) kept-same ∙ wider.listed m (was-both m h) free;
    mixed = λ m h e free. wider.mixed m (was-both m h) (sym (elements-same m) ∙ e) free;
    own = λ m h free. found-same m (was-both m h) free ∙ wider.own m (was-both m h) free;
    held = λ m h free. texts-same m free ∙ wider.held m (was-both m h) free;
  }

pub text_marked_law : TextMarked
text_marked_law texts lists more n now after before marks re apart_too same = text-marked texts lists more n now after before marks re apart_too same
