-- A text that is set, with its mark, keeps what is so of the data of now beside those of before.
use Rattle.std.proofs.Common.{◌≡◌, ℕ, ◌==◌, Bool, true, false, not, cond, ◌&&◌, ◌||◌, List, [], ◌∷◌, map, Some, refl, sym, ap, ◌∙◌}
use Rattle.std.specs.Prelude.{filter}
use Rattle.std.proofs.lemmas.Bool.{eqb-true}
use Rattle.xf_def_forest.specs.Forest.{is_text}
use Rattle.xf_def_forest.specs.Visit.{Visit, has, is_first}
use Rattle.xf_def_forest.specs.Shape.{erased, has_elements}
use Rattle.xf_def_forest.proofs.BackLaws.{and-true, or-false}
use Rattle.xf_def_forest.proofs.RenumberLaws.{filter-through}
use Rattle.xf_def_xpath.specs.Asked.{found}
use Rattle.xf_def_xpath.specs.Agree.{numbers_of, are_apart}
use Rattle.xf_def_xpath.proofs.VisitFacts.{no, some-same, filter-and, filter-same, filter-within, found-number, present, found-in, found-out}
use Rattle.xf_def_xpath.proofs.SameKept.{region}
use Rattle.xf_def_xpath.proofs.ForestVisits.{Each, each-map, self-found}
use Rattle.xf_law_recalculation.specs.Agree.Kept.{is_known, keeps}
use Rattle.xf_law_recalculation.proofs.AgreeLemmas.Parts.{part-apart}
use Rattle.xf_law_recalculation.specs.Marks.Marks.{is_unmarked, IsInBoth, without_marked, SameNodes}
use Rattle.xf_law_recalculation.specs.Edit.Edits.{MarksMore, SameAtFirst}
use Rattle.xf_law_recalculation.proofs.MarksLemmas.TextLists.{standing-at}
use Rattle.xf_law_recalculation.proofs.MarksLemmas.Behind.{erased-apart}

same_at_first_law : (all : List Visit) → SameNodes [] [] all all
same_at_first_law all = record {
  stay = λ n x y h k. some-same (sym h ∙ k);
  order = refl;
  listed = λ n h i. refl;
  mixed = λ n h i j. refl;
  own = λ n h i. refl;
  held = λ n h i. refl;
}

pub same_at_first : SameAtFirst
same_at_first = same_at_first_law

pub filter-each : (p q : Visit → Bool) (xs : List Visit) → Each (λ y. p y ≡ q y) xs → filter p xs ≡ filter q xs
filter-each p q [] e = refl
filter-each p q (x ∷ xs) e = ap (λ b. cond b (x ∷ filter p xs) (filter p xs)) e.0 ∙ ap (λ l. cond (q x) (x ∷ l) l) (filter-each p q xs e.1)

pub swap : {X : Type 0} (p q : X → Bool) (xs : List X) → filter p (filter q xs) ≡ filter q (filter p xs)
swap p q xs = sym (filter-and p q xs) ∙ filter-same (λ y. q y && p y) (λ y. p y && q y) (λ y. turn (q y) (p y)) xs ∙ filter-and q p xs
  where
    turn : (a b : Bool) → (a && b) ≡ (b && a)
    turn true true = refl
    turn true false = refl
    turn false true = refl
    turn false false = refl

-- ---- one more mark

module _ (texts lists more : List ℕ) (n : ℕ) (now before : List Visit) (marks : MarksMore texts n more) (apart : are_apart (numbers_of now) ≡ true) (apart_too : are_apart (numbers_of before) ≡ true)
    (childless : has_elements now n ≡ false) (same : SameNodes texts lists now before) where
  abbrev K : List Visit → List Visit
  K xs = without_marked texts xs

  abbrev K2 : List Visit → List Visit
  K2 xs = without_marked more xs

  abbrev keep : Visit → Bool
  keep = keeps (is_unmarked texts)

  abbrev keep2 : Visit → Bool
  keep2 = keeps (is_unmarked more)

  less-marked : (k : ℕ) → has k more ≡ false → has k texts ≡ false
  less-marked k h = (or-false (k == n) (has k texts) (sym (marks k) ∙ h)).1

  fewer : (y : Visit) → keep2 y ≡ true → keep y ≡ true
  fewer y h = by (is_text y.content) y.above h
    where
      known : (p : ℕ) (b : Bool) → has p more ≡ b → not b ≡ true → not (has p texts) ≡ true
      known p true e i = no i
      known p false e i = ap not (less-marked p e)

      by : (t : Bool) (ns : List ℕ) → (not t || is_known (is_unmarked more) ns) ≡ true → (not t || is_known (is_unmarked texts) ns) ≡ true
      by false ns i = refl
      by true [] i = refl
      by true (p ∷ ps) i = known p (has p more) refl i

  part : (xs : List Visit) → filter keep2 (K xs) ≡ K2 xs
  part xs = filter-within keep2 keep fewer (map erased xs)

  apart-kept : (xs : List Visit) → are_apart (numbers_of xs) ≡ true → are_apart (numbers_of (K xs)) ≡ true
  apart-kept xs a = part-apart keep (map erased xs) (erased-apart xs a)

  found-kept : (xs : List Visit) → are_apart (numbers_of xs) ≡ true → (k : ℕ) (y : Visit) → found k (K xs) ≡ Some y → (found k (map erased xs) ≡ Some y) × (keep y ≡ true)
  found-kept xs a k y e = found-out keep k (map erased xs) y (erased-apart xs a) e

  abbrev in_both : Visit → Bool
  in_both y = keep2 y && (has y.number (numbers_of (K now)) && has y.number (numbers_of (K before)))

  there : (k : ℕ) (y : Visit) → found k (K now) ≡ Some y → in_both y ≡ true → found k (K before) ≡ Some y
  there k y e h =
      let z = standing-at k (K before) (ap (λ m. has m (numbers_of (K before))) (sym (found-number k (K now) y e)) ∙ (and-true _ _ (and-true _ _ h).1).1) in
      z.1 ∙ ap Some (sym (same.stay k y z.0 (found-kept now apart k y e).0 (found-kept before apart_too k z.0 z.1).0))

  back : (k : ℕ) (y : Visit) → found k (K before) ≡ Some y → in_both y ≡ true → found k (K now) ≡ Some y
  back k y e h =
      let z = standing-at k (K now) (ap (λ m. has m (numbers_of (K now))) (sym (found-number k (K before) y e)) ∙ (and-true _ _ (and-true _ _ h).1).0) in
      z.1 ∙ ap Some (same.stay k z.0 y (found-kept now apart k z.0 z.1).0 (found-kept before apart_too k y e).0)

  more-has : (xs : List Visit) → are_apart (numbers_of xs) ≡ true → (k : ℕ) (y : Visit) → found k (K xs) ≡ Some y → keep2 y ≡ true → has k (numbers_of (K2 xs)) ≡ true
  more-has xs a k y e h = ap (λ l. has k (numbers_of l)) (sym (part xs)) ∙ present k (filter keep2 (K xs)) y (found-in keep2 k (K xs) y (apart-kept xs a) e h)

  more-of : (xs : List Visit) → are_apart (numbers_of xs) ≡ true → (k : ℕ) → has k (numbers_of (K2 xs)) ≡ true → has k (numbers_of (K xs)) ≡ true
  more-of xs a k h =
      let z = standing-at k (K2 xs) h in
      present k (K xs) z.0 (found-out keep2 k (K xs) z.0 (apart-kept xs a) (ap (found k) (part xs) ∙ z.1)).0

  -- of a node that both have, kept with the new mark
  tested : (xs ys : List Visit) → are_apart (numbers_of xs) ≡ true → are_apart (numbers_of ys) ≡ true →
      ((y : Visit) → found y.number (K xs) ≡ Some y → has y.number (numbers_of (K ys)) ≡ true → found y.number (K ys) ≡ Some y) →
      ((y : Visit) → found y.number (K xs) ≡ Some y → in_both y ≡ (keep2 y && has y.number (numbers_of (K ys)))) →
      filter (λ k. has k (numbers_of (K2 ys))) (numbers_of (K2 xs)) ≡ numbers_of (filter in_both (K xs))
  tested xs ys a b cross is =
      ap (λ l. filter (λ k. has k (numbers_of (K2 ys))) (numbers_of l)) (sym (part xs))
      ∙ filter-through (λ (y : Visit). y.number) (λ k. has k (numbers_of (K2 ys))) (λ y. has y.number (numbers_of (K2 ys))) (λ y. refl) (filter keep2 (K xs))
      ∙ ap numbers_of (sym (filter-and (λ y. has y.number (numbers_of (K2 ys))) keep2 (K xs)))
      ∙ ap numbers_of (filter-each (λ y. keep2 y && has y.number (numbers_of (K2 ys))) in_both (K xs) (each-map (λ y. found y.number (K xs) ≡ Some y) (λ y. (keep2 y && has y.number (numbers_of (K2 ys))) ≡ in_both y) (K xs) one (self-found (K xs) (apart-kept xs a))))
    where
      one : (y : Visit) → found y.number (K xs) ≡ Some y → (keep2 y && has y.number (numbers_of (K2 ys))) ≡ in_both y
      one y e = by (keep2 y) refl ∙ sym (is y e)
        where
          same-has : keep2 y ≡ true → has y.number (numbers_of (K2 ys)) ≡ has y.number (numbers_of (K ys))
          same-has h = of (has y.number (numbers_of (K2 ys))) (has y.number (numbers_of (K ys))) refl refl
            where
              of : (p q : Bool) → has y.number (numbers_of (K2 ys)) ≡ p → has y.number (numbers_of (K ys)) ≡ q → p ≡ q
              of true true i j = refl
              of false false i j = refl
              of true false i j = sym (more-of ys b y.number i) ∙ j
              of false true i j = sym i ∙ more-has ys b y.number y (cross y e j) h

          by : (c : Bool) → keep2 y ≡ c → (c && has y.number (numbers_of (K2 ys))) ≡ (c && has y.number (numbers_of (K ys)))
          by true h = same-has h
          by false h = refl

  order : filter (λ k. has k (numbers_of (K2 before))) (numbers_of (K2 now)) ≡ filter (λ k. has k (numbers_of (K2 now))) (numbers_of (K2 before))
  order =
      tested now before apart apart_too
      (λ y e h. let z = standing-at y.number (K before) h in z.1 ∙ ap Some (sym (same.stay y.number y z.0 (found-kept now apart y.number y e).0 (found-kept before apart_too y.number z.0 z.1).0)))
      (λ y e. ap (λ c. keep2 y && (c && has y.number (numbers_of (K before)))) (present y.number (K now) y e))
      ∙ region (K now) (K before) (apart-kept now apart) (apart-kept before apart_too) same.order in_both there back
      ∙ sym (tested before now apart_too apart
      (λ y e h. let z = standing-at y.number (K now) h in z.1 ∙ ap Some (same.stay y.number z.0 y (found-kept now apart y.number z.0 z.1).0 (found-kept before apart_too y.number y e).0))
      (λ y e. ap (λ c. keep2 y && (has y.number (numbers_of (K now)) && c)) (present y.number (K before) y e) ∙ ap (λ c. keep2 y && c) (and-all (has y.number (numbers_of (K now))))))
    where
      and-all : (c : Bool) → (c && true) ≡ c
      and-all true = refl
      and-all false = refl

  listed : (m : ℕ) → IsInBoth now before m → has m lists ≡ false → filter (λ y. is_first m y.above) (K2 now) ≡ filter (λ y. is_first m y.above) (K2 before)
  listed m h free =
      ap (filter (λ (y : Visit). is_first m y.above)) (sym (part now)) ∙ swap (λ y. is_first m y.above) keep2 (K now)
      ∙ ap (filter keep2) (same.listed m h free)
      ∙ sym (ap (filter (λ (y : Visit). is_first m y.above)) (sym (part before)) ∙ swap (λ y. is_first m y.above) keep2 (K before))

  pub more-marked : SameNodes more lists now before
  more-marked = record {
    stay = same.stay;
    order = order;
    listed = listed;
    mixed = λ m h e free. marks m ∙ by m (m == n) refl e ∙ same.mixed m h e free;
    own = λ m h free. same.own m h (less-marked m free);
    held = λ m h free. same.held m h (less-marked m free);
  }
    where
      by : (m : ℕ) (b : Bool) → (m == n) ≡ b → has_elements now m ≡ true → (b || has m texts) ≡ has m texts
      by m true e i = no (sym childless ∙ ap (has_elements now) (sym (eqb-true m n e)) ∙ i)
      by m false e i = refl
