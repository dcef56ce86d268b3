-- A list that got or lost nodes keeps what is so of the data of now beside those of before, once it is marked.
use Rattle.std.proofs.Common.{◌≡◌, ℕ, ◌==◌, Bool, true, false, not, cond, ◌&&◌, ◌||◌, List, [], ◌∷◌, map, Some, refl, sym, ap, ◌∙◌}
use Rattle.std.specs.Prelude.{filter}
use Rattle.std.specs.List.{list_any}
use Rattle.std.proofs.lemmas.Bool.{eqb-true}
use Rattle.xf_def_forest.specs.Forest.{is_text, is_element}
use Rattle.xf_def_forest.specs.Visit.{Visit, has, is_first}
use Rattle.xf_def_forest.specs.Shape.{erased, has_elements}
use Rattle.xf_def_forest.proofs.BackLaws.{and-true, or-false}
use Rattle.xf_def_forest.proofs.RenumberLaws.{filter-through}
use Rattle.xf_def_xpath.specs.Asked.{found}
use Rattle.xf_def_xpath.specs.Agree.{numbers_of, are_apart}
use Rattle.xf_def_xpath.proofs.VisitFacts.{no, or-left, self-same, filter-and, found-number, present, found-in, found-out}
use Rattle.xf_def_xpath.proofs.ForestVisits.{each-map, self-found}
use Rattle.xf_law_recalculation.specs.Agree.Kept.{keeps}
use Rattle.xf_law_recalculation.proofs.AgreeLemmas.Parts.{part-apart}
use Rattle.xf_law_recalculation.proofs.AgreeLemmas.HeldShape.{original}
use Rattle.xf_law_recalculation.specs.Marks.Marks.{is_unmarked, texts_in, IsInBoth, without_marked, SameNodes}
use Rattle.xf_law_recalculation.specs.Edit.Edits.{MarksMore, without_nodes, StandsUnder, IsRelisted, ListMarked}
use Rattle.xf_law_recalculation.proofs.MarksLemmas.TextLists.{standing-at}
use Rattle.xf_law_recalculation.proofs.MarksLemmas.Behind.{erased-apart, numbers-erased}
use Rattle.xf_law_recalculation.proofs.EditLemmas.EditLaws.{filter-each, swap}

has-filter : (p : ℕ → Bool) (k : ℕ) (ns : List ℕ) → has k (filter p ns) ≡ (p k && has k ns)
has-filter p k [] = sym (none (p k))
  where
    none : (b : Bool) → (b && false) ≡ false
    none true = refl
    none false = refl
has-filter p k (m ∷ ms) = by (p m) (k == m) refl refl (has-filter p k ms)
  where
    turn : (a b c : Bool) → b ≡ false → (a && c) ≡ (a && (b || c))
    turn a true c h = no (sym h)
    turn a false c h = refl

    by : (a b : Bool) → p m ≡ a → (k == m) ≡ b → has k (filter p ms) ≡ (p k && has k ms) → has k (cond a (m ∷ filter p ms) (filter p ms)) ≡ (p k && (b || has k ms))
    by true true i j h = ap (λ b. b || has k (filter p ms)) j ∙ sym (ap (λ b. b && true) (ap p (eqb-true k m j) ∙ i))
    by true false i j h = ap (λ b. b || has k (filter p ms)) j ∙ h
    by false true i j h = h ∙ ap (λ b. b && has k ms) (ap p (eqb-true k m j) ∙ i) ∙ sym (ap (λ b. b && true) (ap p (eqb-true k m j) ∙ i))
    by false false i j h = h

filter-where : (p q : ℕ → Bool) (ns : List ℕ) → ((k : ℕ) → has k ns ≡ true → p k ≡ q k) → filter p ns ≡ filter q ns
filter-where p q [] h = refl
filter-where p q (n ∷ ns) h =
    ap (λ b. cond b (n ∷ filter p ns) (filter p ns)) (h n (or-left (n == n) (has n ns) (self-same n)))
    ∙ ap (λ l. cond (q n) (n ∷ l) l) (filter-where p q ns (λ k i. h k (later (k == n) (has k ns) i)))
  where
    later : (a b : Bool) → b ≡ true → (a || b) ≡ true
    later true b i = refl
    later false b i = i

any-filter : (e f : Visit → Bool) (xs : List Visit) → list_any (λ y. e y && f y) xs ≡ list_any e (filter f xs)
any-filter e f [] = refl
any-filter e f (x ∷ xs) = by (f x) (any-filter e f xs)
  where
    none : (b : Bool) → (b && false) ≡ false
    none true = refl
    none false = refl

    all : (b : Bool) → (b && true) ≡ b
    all true = refl
    all false = refl

    by : (b : Bool) → list_any (λ y. e y && f y) xs ≡ list_any e (filter f xs) → ((e x && b) || list_any (λ y. e y && f y) xs) ≡ list_any e (cond b (x ∷ filter f xs) (filter f xs))
    by true h = ap (λ c. c || list_any (λ y. e y && f y) xs) (all (e x)) ∙ ap (λ c. e x || c) h
    by false h = ap (λ c. c || list_any (λ y. e y && f y) xs) (none (e x)) ∙ h

module _ (texts lists more moved : List ℕ) (n : ℕ) (now after before : List Visit) (marks : MarksMore lists n more) (re : IsRelisted n moved now after before) (apart_too : are_apart (numbers_of before) ≡ true) (same : SameNodes texts lists now before) where
  abbrev stays : ℕ → Bool
  stays k = not (has k moved)

  abbrev other : Visit → Bool
  other y = stays y.number

  abbrev keep : Visit → Bool
  keep = keeps (is_unmarked texts)

  abbrev K : List Visit → List Visit
  K xs = without_marked texts xs

  abbrev solid : Visit → Bool
  solid y = not (is_text y.content)

  -- what stood and stands did not move
  unmoved : (k : ℕ) → has k (numbers_of after) ≡ true → has k (numbers_of before) ≡ true → stays k ≡ true
  unmoved k h i = by (has k moved) refl
    where
      by : (b : Bool) → has k moved ≡ b → not b ≡ true
      by true e = no (sym (re.fresh k e h) ∙ i)
      by false e = refl

  -- all else, texts empty
  rest-erased : filter other (map erased after) ≡ filter other (map erased now)
  rest-erased = filter-through erased other other (λ y. refl) after ∙ ap (map erased) re.rest ∙ sym (filter-through erased other other (λ y. refl) now)

  rest-part : (p : Visit → Bool) → filter other (filter p (map erased after)) ≡ filter other (filter p (map erased now))
  rest-part p = swap other p (map erased after) ∙ ap (filter p) rest-erased ∙ swap p other (map erased now)

  apart-part : (p : Visit → Bool) (xs : List Visit) → are_apart (numbers_of xs) ≡ true → are_apart (numbers_of (filter p (map erased xs))) ≡ true
  apart-part p xs a = part-apart p (map erased xs) (erased-apart xs a)

  -- a node of after that did not move, in now
  back : (p : Visit → Bool) (k : ℕ) (x : Visit) → stays k ≡ true → found k (filter p (map erased after)) ≡ Some x → found k (filter p (map erased now)) ≡ Some x
  back p k x h e =
      (found-out other k (filter p (map erased now)) x (apart-part p now re.apart)
      (ap (found k) (sym (rest-part p)) ∙ found-in other k (filter p (map erased after)) x (apart-part p after re.apart_after) e (ap stays (found-number k (filter p (map erased after)) x e) ∙ h))).0

  stood : (m : ℕ) → IsInBoth after before m → stays m ≡ true
  stood m h =
      unmoved m
      (ap (has m) (sym (numbers-erased after)) ∙ present m (map erased after) h.0 (found-out solid m (map erased after) h.0 (erased-apart after re.apart_after) h.1).0)
      (ap (has m) (sym (numbers-erased before)) ∙ present m (map erased before) h.0 (found-out solid m (map erased before) h.0 (erased-apart before apart_too) h.2).0)

  was-both : (m : ℕ) → IsInBoth after before m → IsInBoth now before m
  was-both m h = (h.0, back solid m h.0 (stood m h) h.1, h.2)

  stay : (k : ℕ) (x y : Visit) → found k (map erased after) ≡ Some x → found k (map erased before) ≡ Some y → x ≡ y
  stay k x y e i =
      let h = unmoved k (ap (has k) (sym (numbers-erased after)) ∙ present k (map erased after) x e) (ap (has k) (sym (numbers-erased before)) ∙ present k (map erased before) y i) in
      let rest = ap (found k) (sym rest-erased) ∙ found-in other k (map erased after) x (erased-apart after re.apart_after) e (ap stays (found-number k (map erased after) x e) ∙ h) in
      same.stay k x y (found-out other k (map erased now) x (erased-apart now re.apart) rest).0 i

  -- ---- order

  numbers-rest : (xs : List Visit) → numbers_of (filter other xs) ≡ filter stays (numbers_of xs)
  numbers-rest xs = sym (filter-through (λ (y : Visit). y.number) stays other (λ y. refl) xs)

  has-part : (p : Visit → Bool) (xs : List Visit) → are_apart (numbers_of xs) ≡ true → (k : ℕ) → has k (numbers_of (filter p (map erased xs))) ≡ true → has k (numbers_of xs) ≡ true
  has-part p xs a k h =
      let z = standing-at k (filter p (map erased xs)) h in
      ap (has k) (sym (numbers-erased xs)) ∙ present k (map erased xs) z.0 (found-out p k (map erased xs) z.0 (erased-apart xs a) z.1).0

  kept-numbers : filter stays (numbers_of (K after)) ≡ filter stays (numbers_of (K now))
  kept-numbers = sym (numbers-rest (K after)) ∙ ap numbers_of (rest-part keep) ∙ numbers-rest (K now)

  unmoved-kept : (k : ℕ) → has k (numbers_of (K after)) ≡ true → has k (numbers_of (K before)) ≡ true → stays k ≡ true
  unmoved-kept k h i = unmoved k (has-part keep after re.apart_after k h) (has-part keep before apart_too k i)

  order : filter (λ k. has k (numbers_of (K before))) (numbers_of (K after)) ≡ filter (λ k. has k (numbers_of (K after))) (numbers_of (K before))
  order =
      filter-where (λ k. has k (numbers_of (K before))) (λ k. stays k && has k (numbers_of (K before))) (numbers_of (K after)) left
      ∙ filter-and (λ k. has k (numbers_of (K before))) stays (numbers_of (K after))
      ∙ ap (filter (λ k. has k (numbers_of (K before)))) kept-numbers
      ∙ swap (λ k. has k (numbers_of (K before))) stays (numbers_of (K now))
      ∙ ap (filter stays) same.order
      ∙ sym (filter-and stays (λ k. has k (numbers_of (K now))) (numbers_of (K before)))
      ∙ sym (filter-where (λ k. has k (numbers_of (K after))) (λ k. has k (numbers_of (K now)) && stays k) (numbers_of (K before)) right)
    where
      left : (k : ℕ) → has k (numbers_of (K after)) ≡ true → has k (numbers_of (K before)) ≡ (stays k && has k (numbers_of (K before)))
      left k h = by (has k (numbers_of (K before))) (stays k) refl refl
        where
          by : (a b : Bool) → has k (numbers_of (K before)) ≡ a → stays k ≡ b → a ≡ (b && a)
          by true true i j = refl
          by true false i j = no (sym j ∙ unmoved-kept k h i)
          by false true i j = refl
          by false false i j = refl

      both : (k : ℕ) → (stays k && has k (numbers_of (K after))) ≡ (stays k && has k (numbers_of (K now)))
      both k = sym (has-filter stays k (numbers_of (K after))) ∙ ap (has k) kept-numbers ∙ has-filter stays k (numbers_of (K now))

      right : (k : ℕ) → has k (numbers_of (K before)) ≡ true → has k (numbers_of (K after)) ≡ (has k (numbers_of (K now)) && stays k)
      right k h = by (has k (numbers_of (K after))) (has k (numbers_of (K now))) (stays k) refl refl (both k)
        where
          by : (a b c : Bool) → has k (numbers_of (K after)) ≡ a → stays k ≡ c → (c && a) ≡ (c && b) → a ≡ (b && c)
          by true true true i j l = refl
          by true false true i j l = l
          by true b false i j l = no (sym j ∙ unmoved-kept k i h)
          by false true true i j l = l
          by false true false i j l = refl
          by false false c i j l = refl

  -- ---- lists

  -- what a test takes that takes none that moved
  tested : (p : Visit → Bool) → ((y : Visit) → StandsUnder n moved y → p y ≡ false) → filter p after ≡ filter p now
  tested p h = within after re.apart_after re.came ∙ ap (filter p) re.rest ∙ sym (within now re.apart re.went)
    where
      within : (xs : List Visit) → are_apart (numbers_of xs) ≡ true → ((k : ℕ) (y : Visit) → found k xs ≡ Some y → has k moved ≡ true → StandsUnder n moved y) → filter p xs ≡ filter p (without_nodes moved xs)
      within xs a i =
          sym (filter-each (λ y. other y && p y) p xs (each-map (λ y. found y.number xs ≡ Some y) (λ y. (other y && p y) ≡ p y) xs one (self-found xs a)))
          ∙ filter-and p other xs
        where
          one : (y : Visit) → found y.number xs ≡ Some y → (other y && p y) ≡ p y
          one y e = by (has y.number moved) refl
            where
              by : (b : Bool) → has y.number moved ≡ b → (not b && p y) ≡ p y
              by true j = sym (h y (i y.number y e j))
              by false j = refl

  texts-same : (m : ℕ) → stays m ≡ true → texts_in after m ≡ texts_in now m
  texts-same m s = tested (λ y. is_text y.content && is_first m y.above) none
    where
      none : (y : Visit) → StandsUnder n moved y → (is_text y.content && is_first m y.above) ≡ false
      none y u = by (is_text y.content && is_first m y.above) refl
        where
          by : (b : Bool) → (is_text y.content && is_first m y.above) ≡ b → b ≡ false
          by false e = refl
          by true e = of (m == n) refl
            where
              of : (b : Bool) → (m == n) ≡ b → true ≡ false
              of true i = sym e ∙ ap (λ k. is_text y.content && is_first k y.above) (eqb-true m n i) ∙ u.0
              of false i = no (sym (ap not (ap (λ b. b || has m moved) (sym i) ∙ u.1 m (and-true (is_text y.content) (is_first m y.above) e).1)) ∙ s)

  differs : (m : ℕ) → has m more ≡ false → ((m == n) ≡ false) × (has m lists ≡ false)
  differs m h = or-false (m == n) (has m lists) (sym (marks m) ∙ h)

  list-same : (m : ℕ) → stays m ≡ true → has m more ≡ false → filter (λ y. is_first m y.above) after ≡ filter (λ y. is_first m y.above) now
  list-same m s free = tested (λ y. is_first m y.above) none
    where
      none : (y : Visit) → StandsUnder n moved y → is_first m y.above ≡ false
      none y u = by (is_first m y.above) refl
        where
          by : (b : Bool) → is_first m y.above ≡ b → b ≡ false
          by false e = refl
          by true e = no (sym (ap not (ap (λ b. b || has m moved) (sym (differs m free).0) ∙ u.1 m e)) ∙ s)

  in-list : (m : ℕ) (xs : List Visit) → filter (λ y. is_first m y.above) (K xs) ≡ filter keep (map erased (filter (λ y. is_first m y.above) xs))
  in-list m xs = swap (λ y. is_first m y.above) keep (map erased xs) ∙ ap (filter keep) (filter-through erased (λ y. is_first m y.above) (λ y. is_first m y.above) (λ y. refl) xs)

  listed : (m : ℕ) → IsInBoth after before m → has m more ≡ false → filter (λ y. is_first m y.above) (K after) ≡ filter (λ y. is_first m y.above) (K before)
  listed m h free = in-list m after ∙ ap (λ l. filter keep (map erased l)) (list-same m (stood m h) free) ∙ sym (in-list m now) ∙ same.listed m (was-both m h) (differs m free).1

  elements-same : (m : ℕ) → stays m ≡ true → has m more ≡ false → has_elements after m ≡ has_elements now m
  elements-same m s free =
      any-filter (λ y. is_element y.content) (λ y. is_first m y.above) after
      ∙ ap (list_any (λ (y : Visit). is_element y.content)) (list-same m s free)
      ∙ sym (any-filter (λ y. is_element y.content) (λ y. is_first m y.above) now)

  own-same : (m : ℕ) → IsInBoth after before m → found m after ≡ found m now
  own-same m h =
      let v = original m after h.0 (found-out solid m (map erased after) h.0 (erased-apart after re.apart_after) h.1).0 in
      v.1 ∙ sym (found-out other m now v.0 re.apart (ap (found m) (sym re.rest) ∙ found-in other m after v.0 re.apart_after v.1 (ap stays (found-number m after v.0 v.1) ∙ stood m h))).0

  list-marked : SameNodes texts more after before
  list-marked = record {
    stay = stay;
    order = order;
    listed = listed;
    mixed = λ m h e free. same.mixed m (was-both m h) (sym (elements-same m (stood m h) free) ∙ e) (differs m free).1;
    own = λ m h free. own-same m h ∙ same.own m (was-both m h) free;
    held = λ m h free. texts-same m (stood m h) ∙ same.held m (was-both m h) free;
  }

pub list_marked_law : ListMarked
list_marked_law texts lists more moved n now after before marks re apart_too same = list-marked texts lists more moved n now after before marks re apart_too same
