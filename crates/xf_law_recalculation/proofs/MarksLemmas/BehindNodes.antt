-- The order of the nodes in front, and the lists and texts in them, are those of all.
use Rattle.std.proofs.Common.{◌≡◌, ℕ, ◌==◌, Bool, true, false, not, cond, ◌&&◌, ◌||◌, List, [], ◌∷◌, ◌++◌, map, Option, Some, refl, sym, ap, ◌∙◌, inl, inr}
use Rattle.std.specs.Prelude.{filter, is_some}
use Rattle.std.specs.List.{list_any}
use Rattle.std.proofs.lemmas.Bool.{eqb-true}
use Rattle.std.proofs.lemmas.List.{map-append}
use Rattle.xf_def_forest.specs.declared.content.Content.{Content}
use Rattle.xf_def_forest.specs.Forest.{is_text, is_element}
use Rattle.xf_def_forest.specs.Visit.{Visit, has, is_first}
use Rattle.xf_def_forest.specs.Shape.{erased, has_elements}
use Rattle.xf_def_forest.specs.Same.{renumbered_visit}
use Rattle.xf_def_forest.proofs.BackLaws.{and-true}
use Rattle.xf_def_forest.proofs.OrderLaws.{filter-sub, map-sub}
use Rattle.xf_def_forest.proofs.RenumberLaws.{filter-through}
use Rattle.xf_def_xpath.specs.Asked.{found}
use Rattle.xf_def_xpath.specs.Agree.{numbers_of, are_apart}
use Rattle.xf_def_xpath.proofs.VisitFacts.{self-same, or-left, no, filter-and, filter-same, filter-append, has-found, present, kept_if, found-filter, found-in}
use Rattle.xf_def_xpath.proofs.AxisAgree.{has-sub}
use Rattle.xf_def_xpath.proofs.ForestVisits.{Each, each-map}
use Rattle.xf_law_recalculation.specs.Agree.Kept.{is_known, keeps}
use Rattle.xf_law_recalculation.specs.Marks.Marks.{is_unmarked, texts_in, IsInBoth, without_marked, SameNodes}
use Rattle.xf_law_recalculation.proofs.MarksLemmas.TextLists.{text-kept}
use Rattle.xf_law_recalculation.proofs.MarksLemmas.Behind.{Behind, append-none, each-both, numbers-append, has-both, front-apart, filter-no, none-of, same-of, first-made, numbers-erased, erased-apart, Good, good, away-each, found-front, found-before, found-nowhere, found-now, erased-before, in-all, stay, in_both}

module _ (b : Behind) where
  abbrev known : ℕ → Bool
  known = is_unmarked b.texts

  abbrev rf : Visit → Visit
  rf = renumbered_visit b.f

  abbrev rg : Visit → Visit
  rg = renumbered_visit b.g

  abbrev F : List Visit
  F = map rf b.before

  abbrev all_now : List Visit
  all_now = b.now ++ b.past_now

  abbrev all_before : List Visit
  all_before = map rg (b.before ++ b.past_before)

  abbrev wm : List Visit → List Visit
  wm xs = without_marked b.texts xs

  -- ---- order

  wm-append : (xs ys : List Visit) → wm (xs ++ ys) ≡ wm xs ++ wm ys
  wm-append xs ys = ap (filter (keeps known)) (map-append erased xs ys) ∙ filter-append (keeps known) (map erased xs) (map erased ys)

  wm-numbers : (xs ys : List Visit) → numbers_of (wm (xs ++ ys)) ≡ numbers_of (wm xs) ++ numbers_of (wm ys)
  wm-numbers xs ys = ap numbers_of (wm-append xs ys) ∙ numbers-append (wm xs) (wm ys)

  wm-has : (k : ℕ) (xs : List Visit) → has k (numbers_of (wm xs)) ≡ true → has k (numbers_of xs) ≡ true
  wm-has k xs h = ap (has k) (sym (numbers-erased xs)) ∙ has-sub k (map-sub (λ (y : Visit). y.number) (filter-sub (keeps known) (map erased xs))) h

  -- by what is found
  wm-found : (k : ℕ) (xs : List Visit) → are_apart (numbers_of xs) ≡ true → has k (numbers_of (wm xs)) ≡ is_some (kept_if (keeps known) (found k (map erased xs)))
  wm-found k xs a = has-found k (wm xs) ∙ ap is_some (found-filter (keeps known) k (map erased xs) (erased-apart xs a))

  abbrev in_before : ℕ → Bool
  in_before n = has n (numbers_of (wm all_before))

  abbrev in_now : ℕ → Bool
  in_now n = has n (numbers_of (wm all_now))

  in-before_front : (k : ℕ) → has k (numbers_of b.now) ≡ true → in_before k ≡ has k (numbers_of (wm F))
  in-before_front k h = wm-found k all_before b.apart_too ∙ ap (λ m. is_some (kept_if (keeps known) m)) (erased-before b k h) ∙ sym (wm-found k F b.apart_front)

  in-before_past : (k : ℕ) → has k (numbers_of b.past_now) ≡ true → in_before k ≡ false
  in-before_past k h = by (in_before k) refl
    where
      none : (m : Option Visit) → found k all_before ≡ m → is_some m ≡ true → false ≡ true
      none m e i = sym (ap is_some (sym e ∙ found-nowhere b k h)) ∙ i

      by : (c : Bool) → in_before k ≡ c → c ≡ false
      by true e = sym (none (found k all_before) refl (sym (has-found k all_before) ∙ wm-has k all_before e))
      by false e = refl

  in-now_front : (k : ℕ) → has k (numbers_of b.now) ≡ true → in_now k ≡ has k (numbers_of (wm b.now))
  in-now_front k h = ap (λ xs. has k (numbers_of xs)) (wm-append b.now b.past_now) ∙ has-both k (wm b.now) (wm b.past_now) ∙ by (has k (numbers_of (wm b.past_now))) refl
    where
      or-no : (c : Bool) → (c || false) ≡ c
      or-no true = refl
      or-no false = refl

      by : (c : Bool) → has k (numbers_of (wm b.past_now)) ≡ c → (has k (numbers_of (wm b.now)) || c) ≡ has k (numbers_of (wm b.now))
      by true e = no (sym (front-apart b.now b.past_now b.apart k h) ∙ wm-has k b.past_now e)
      by false e = or-no (has k (numbers_of (wm b.now)))

  not-now : (k : ℕ) → has k (numbers_of all_now) ≡ false → in_now k ≡ false
  not-now k h = by (in_now k) refl
    where
      by : (c : Bool) → in_now k ≡ c → c ≡ false
      by true e = sym (wm-has k all_now e) ∙ h
      by false e = refl

  not-front : (k : ℕ) → has k (numbers_of b.now) ≡ false → has k (numbers_of (wm b.now)) ≡ false
  not-front k h = by (has k (numbers_of (wm b.now))) refl
    where
      by : (c : Bool) → has k (numbers_of (wm b.now)) ≡ c → c ≡ false
      by true e = sym (wm-has k b.now e) ∙ h
      by false e = refl

  -- a visit of which the number is not asked makes no difference
  passed-over : (q : ℕ → Bool) (v : Visit) (vs : List Visit) → q v.number ≡ false → filter q (numbers_of (wm (v ∷ vs))) ≡ filter q (numbers_of (wm vs))
  passed-over q v vs h = by (keeps known (erased v))
    where
      by : (c : Bool) → filter q (numbers_of (cond c (erased v ∷ wm vs) (wm vs))) ≡ filter q (numbers_of (wm vs))
      by true = ap (λ d. cond d (v.number ∷ filter q (numbers_of (wm vs))) (filter q (numbers_of (wm vs)))) h
      by false = refl

  one-more : (q r : ℕ → Bool) (v : Visit) (vs ws : List Visit) → q v.number ≡ r v.number → filter q (numbers_of (wm vs)) ≡ filter r (numbers_of (wm ws)) → filter q (numbers_of (wm (v ∷ vs))) ≡ filter r (numbers_of (wm (v ∷ ws)))
  one-more q r v vs ws h e = by (keeps known (erased v))
    where
      by : (c : Bool) → filter q (numbers_of (cond c (erased v ∷ wm vs) (wm vs))) ≡ filter r (numbers_of (cond c (erased v ∷ wm ws) (wm ws)))
      by true = ap (λ d. cond d (v.number ∷ filter q (numbers_of (wm vs))) (filter q (numbers_of (wm vs)))) h ∙ ap (λ l. cond (r v.number) (v.number ∷ l) l) e
      by false = e

  front-order : (ys : List Visit) → Each (Good b) ys → filter in_now (numbers_of (wm (map rg ys))) ≡ filter (λ n. has n (numbers_of (wm b.now))) (numbers_of (wm (map rf ys)))
  front-order [] e = refl
  front-order (y ∷ ys) e = elim e.0 [
    | inl i ↦ ap (λ (v : Visit). filter in_now (numbers_of (wm (v ∷ map rg ys)))) i.1 ∙ one-more in_now (λ n. has n (numbers_of (wm b.now))) (rf y) (map rg ys) (map rf ys) (in-now_front (b.f y.number) i.0) (front-order ys e.1)
    | inr j ↦ passed-over in_now (rg y) (map rg ys) (not-now (b.g y.number) j.1) ∙ front-order ys e.1 ∙ sym (passed-over (λ n. has n (numbers_of (wm b.now))) (rf y) (map rf ys) (not-front (b.f y.number) j.0))
  ]

  past-order : (ys : List Visit) → Each (λ y. has (b.g y.number) (numbers_of all_now) ≡ false) ys → filter in_now (numbers_of (wm (map rg ys))) ≡ []
  past-order [] e = refl
  past-order (y ∷ ys) e = passed-over in_now (rg y) (map rg ys) (not-now (b.g y.number) e.0) ∙ past-order ys e.1

  number-filter : (q : ℕ → Bool) (ns ms : List ℕ) → filter q ms ≡ [] → filter q (ns ++ ms) ≡ filter q ns
  number-filter q ns ms h = filter-append q ns ms ∙ ap (λ l. filter q ns ++ l) h ∙ append-none (filter q ns)

  order : filter in_before (numbers_of (wm all_now)) ≡ filter in_now (numbers_of (wm all_before))
  order =
      ap (filter in_before) (wm-numbers b.now b.past_now)
      ∙ number-filter in_before (numbers_of (wm b.now)) (numbers_of (wm b.past_now)) (none-of in_before (numbers_of (wm b.past_now)) (λ k h. in-before_past k (wm-has k b.past_now h)))
      ∙ same-of in_before (λ n. has n (numbers_of (wm F))) (numbers_of (wm b.now)) (λ k h. in-before_front k (wm-has k b.now h))
      ∙ b.nodes.order
      ∙ sym (front-order b.before (good b))
      ∙ sym (number-filter in_now (numbers_of (wm (map rg b.before))) (numbers_of (wm (map rg b.past_before))) (past-order b.past_before (away-each b)))
      ∙ sym (ap (filter in_now) (wm-numbers (map rg b.before) (map rg b.past_before)))
      ∙ sym (ap (λ xs. filter in_now (numbers_of (wm xs))) (map-append rg b.before b.past_before))

  -- ---- what stands in the list of a node, by a test of contents

  abbrev test : (Content → Bool) → ℕ → Visit → Bool
  test c n y = c y.content && is_first n y.above

  first-has : (n : ℕ) (ns : List ℕ) → is_first n ns ≡ true → has n ns ≡ true
  first-has n [] h = no h
  first-has n (m ∷ ms) h = or-left (n == m) (has n ms) h

  test-off : (c : Content → Bool) (n : ℕ) (y : Visit) → (is_first n y.above ≡ true → false ≡ true) → test c n y ≡ false
  test-off c n y h = by (test c n y) refl
    where
      by : (d : Bool) → test c n y ≡ d → d ≡ false
      by true e = sym (h (and-true (c y.content) (is_first n y.above) e).1)
      by false e = refl

  now-tested : (c : Content → Bool) (n : ℕ) → has n (numbers_of b.now) ≡ true → filter (test c n) all_now ≡ filter (test c n) b.now
  now-tested c n h =
      filter-append (test c n) b.now b.past_now
      ∙ ap (λ l. filter (test c n) b.now ++ l) (filter-no (test c n) (λ y. (p : ℕ) → has p y.above ≡ true → has p (numbers_of b.now) ≡ false) b.past_now
      (λ y i. test-off c n y (λ j. sym (i n (first-has n y.above j)) ∙ h)) b.beside)
      ∙ append-none (filter (test c n) b.now)

  module _ (c : Content → Bool) (n : ℕ) (h : has n (numbers_of b.now) ≡ true) (part : (k : ℕ) → has k (numbers_of (filter (test c n) F)) ≡ true → has k (numbers_of b.now) ≡ true) where
    abbrev InFront : Visit → Type 0
    InFront y = test c n (rf y) ≡ true → has (b.f y.number) (numbers_of b.now) ≡ true

    tested-front : Each InFront b.before
    tested-front = each-map (λ y. found (b.f y.number) F ≡ Some (rf y)) InFront b.before
        (λ y e i. part (b.f y.number) (present (b.f y.number) (filter (test c n) F) (rf y) (found-in (test c n) (b.f y.number) F (rf y) b.apart_front e i))) (found-front b)

    -- of a node that does not stand in front no test holds, with either number
    off : (y : Visit) → ((p : ℕ) → has p y.above ≡ true → has p (numbers_of b.before) ≡ true) → InFront y → has (b.f y.number) (numbers_of b.now) ≡ false → (test c n (rf y) ≡ false) × (test c n (rg y) ≡ false)
    off y w i j = (by (test c n (rf y)) refl, by_other (test c n (rg y)) refl)
      where
        by : (d : Bool) → test c n (rf y) ≡ d → d ≡ false
        by true e = sym (i e) ∙ j
        by false e = refl

        other : test c n (rg y) ≡ true → test c n (rf y) ≡ true
        other e =
            let parts = and-true (c y.content) (is_first n (map b.g y.above)) e in
            let p = first-made b.g n y.above parts.1 in
            let p_in : has p.0 (numbers_of b.before) ≡ true = w p.0 (ap (has p.0) p.2 ∙ or-left (p.0 == p.0) (has p.0 p.1) (self-same p.0)) in
            ap (λ d. d && is_first n (map b.f y.above)) parts.0
            ∙ ap (λ ns. is_first n (map b.f ns)) p.2
            ∙ ap (λ m. n == m) (sym (kept_number p.0 p_in p.3) ∙ sym p.3) ∙ self-same n
          where
            kept_number : (p : ℕ) → has p (numbers_of b.before) ≡ true → n ≡ b.g p → b.g p ≡ b.f p
            kept_number p q m = from (has (b.f p) (numbers_of b.now)) refl
              where
                from : (d : Bool) → has (b.f p) (numbers_of b.now) ≡ d → b.g p ≡ b.f p
                from true k = b.kept p q k
                from false k = no (sym (b.gone p q k) ∙ ap (λ l. has l (numbers_of all_now)) (sym m) ∙ in-all b n h)

        by_other : (d : Bool) → test c n (rg y) ≡ d → d ≡ false
        by_other true e = by true (other e)
        by_other false e = refl

    abbrev Ready : Visit → Type 0
    Ready y = Good b y × ((p : ℕ) → has p y.above ≡ true → has p (numbers_of b.before) ≡ true) × InFront y

    ready : Each Ready b.before
    ready = each-both (Good b) (λ y. ((p : ℕ) → has p y.above ≡ true → has p (numbers_of b.before) ≡ true) × InFront y) Ready b.before (λ y i j. (i, j.0, j.1)) (good b)
        (each-both (λ y. (p : ℕ) → has p y.above ≡ true → has p (numbers_of b.before) ≡ true) InFront (λ y. ((p : ℕ) → has p y.above ≡ true → has p (numbers_of b.before) ≡ true) × InFront y) b.before (λ y i j. (i, j)) b.within_too tested-front)

    front-tested : (ys : List Visit) → Each Ready ys → filter (test c n) (map rg ys) ≡ filter (test c n) (map rf ys)
    front-tested [] e = refl
    front-tested (y ∷ ys) e = elim e.0.0 [
      | inl i ↦ ap (λ (v : Visit). filter (test c n) (v ∷ map rg ys)) i.1 ∙ ap (λ l. cond (test c n (rf y)) (rf y ∷ l) l) (front-tested ys e.1)
      | inr j ↦
          let none = off y e.0.1 e.0.2 j.0 in
          ap (λ d. cond d (rg y ∷ filter (test c n) (map rg ys)) (filter (test c n) (map rg ys))) none.1
          ∙ front-tested ys e.1
          ∙ sym (ap (λ d. cond d (rf y ∷ filter (test c n) (map rf ys)) (filter (test c n) (map rf ys))) none.0)
    ]

    abbrev Away : Visit → Type 0
    Away y = (p : ℕ) → has p y.above ≡ true → has p (numbers_of b.past_before) ≡ true

    past-tested : (ys : List Visit) → Each Away ys → filter (test c n) (map rg ys) ≡ []
    past-tested [] e = refl
    past-tested (y ∷ ys) e = ap (λ d. cond d (rg y ∷ filter (test c n) (map rg ys)) (filter (test c n) (map rg ys))) (test-off c n (rg y) gone) ∙ past-tested ys e.1
      where
        gone : is_first n (map b.g y.above) ≡ true → false ≡ true
        gone i =
            let p = first-made b.g n y.above i in
            sym (b.away p.0 (e.0 p.0 (ap (has p.0) p.2 ∙ or-left (p.0 == p.0) (has p.0 p.1) (self-same p.0)))) ∙ ap (λ k. has k (numbers_of all_now)) (sym p.3) ∙ in-all b n h

    before-tested : filter (test c n) all_before ≡ filter (test c n) F
    before-tested =
        ap (filter (test c n)) (map-append rg b.before b.past_before)
        ∙ filter-append (test c n) (map rg b.before) (map rg b.past_before)
        ∙ ap (λ l. filter (test c n) (map rg b.before) ++ l) (past-tested b.past_before b.beside_too)
        ∙ append-none (filter (test c n) (map rg b.before))
        ∙ front-tested b.before ready

  -- ---- lists and texts

  abbrev listed_content : ℕ → Content → Bool
  listed_content n content = not (is_text content) || known n

  -- the list of a node, by a test of contents
  by-content : (n : ℕ) (xs : List Visit) → filter (λ y. is_first n y.above) (wm xs) ≡ map erased (filter (test (listed_content n) n) xs)
  by-content n xs =
      sym (filter-and (λ (y : Visit). is_first n y.above) (keeps known) (map erased xs))
      ∙ filter-same (λ y. keeps known y && is_first n y.above) (test (listed_content n) n) one (map erased xs)
      ∙ filter-through erased (test (listed_content n) n) (test (listed_content n) n) (λ y. ap (λ t. (not t || known n) && is_first n y.above) (text-kept y.content)) xs
    where
      one : (y : Visit) → (keeps known y && is_first n y.above) ≡ test (listed_content n) n y
      one y = by (is_text y.content) y.above
        where
          and-no : (d : Bool) → (d && false) ≡ false
          and-no true = refl
          and-no false = refl

          by : (t : Bool) (ns : List ℕ) → ((not t || is_known known ns) && is_first n ns) ≡ ((not t || known n) && is_first n ns)
          by t [] = and-no (not t || true) ∙ sym (and-no (not t || known n))
          by t (p ∷ ps) = of (n == p) refl
            where
              of : (d : Bool) → (n == p) ≡ d → ((not t || known p) && d) ≡ ((not t || known n) && d)
              of true e = ap (λ q. (not t || known q) && true) (sym (eqb-true n p e))
              of false e = and-no (not t || known p) ∙ sym (and-no (not t || known n))

  numbers-listed : (n k : ℕ) (xs : List Visit) → has k (numbers_of (filter (test (listed_content n) n) xs)) ≡ has k (numbers_of (filter (λ y. is_first n y.above) (wm xs)))
  numbers-listed n k xs = ap (has k) (sym (numbers-erased (filter (test (listed_content n) n) xs)) ∙ ap numbers_of (sym (by-content n xs)))

  test-has : (c : Content → Bool) (n k : ℕ) (xs : List Visit) → has k (numbers_of (filter (test c n) xs)) ≡ true → has k (numbers_of xs) ≡ true
  test-has c n k xs h = has-sub k (map-sub (λ (y : Visit). y.number) (filter-sub (test c n) xs)) h

  listed : (n : ℕ) → IsInBoth all_now all_before n → has n b.lists ≡ false → filter (λ y. is_first n y.above) (wm all_now) ≡ filter (λ y. is_first n y.above) (wm all_before)
  listed n i free =
      let both = in_both b n i in
      let same = b.nodes.listed n both.1 free in
      let part : (k : ℕ) → has k (numbers_of (filter (test (listed_content n) n) F)) ≡ true → has k (numbers_of b.now) ≡ true =
      λ k h. test-has (listed_content n) n k b.now (numbers-listed n k b.now ∙ ap (λ l. has k (numbers_of l)) same ∙ sym (numbers-listed n k F) ∙ h) in
      by-content n all_now
      ∙ ap (map erased) (now-tested (listed_content n) n both.0)
      ∙ sym (by-content n b.now) ∙ same ∙ by-content n F
      ∙ ap (map erased) (sym (before-tested (listed_content n) n both.0 part))
      ∙ sym (by-content n all_before)

  held : (n : ℕ) → IsInBoth all_now all_before n → has n b.texts ≡ false → texts_in all_now n ≡ texts_in all_before n
  held n i free =
      let both = in_both b n i in
      let same = b.nodes.held n both.1 free in
      now-tested is_text n both.0 ∙ same ∙ sym (before-tested is_text n both.0 (λ k h. test-has is_text n k b.now (ap (λ l. has k (numbers_of l)) same ∙ h)))

  own : (n : ℕ) → IsInBoth all_now all_before n → has n b.texts ≡ false → found n all_now ≡ found n all_before
  own n i free = let both = in_both b n i in found-now b n both.0 ∙ b.nodes.own n both.1 free ∙ sym (found-before b n both.0)

  any-append : (p : Visit → Bool) (xs ys : List Visit) → list_any p (xs ++ ys) ≡ (list_any p xs || list_any p ys)
  any-append p [] ys = refl
  any-append p (x ∷ xs) ys = ap (λ d. p x || d) (any-append p xs ys) ∙ by (p x)
    where
      by : (d : Bool) → (d || (list_any p xs || list_any p ys)) ≡ ((d || list_any p xs) || list_any p ys)
      by true = refl
      by false = refl

  any-none : (p : Visit → Bool) (q : Visit → Type 0) (ys : List Visit) → ((y : Visit) → q y → p y ≡ false) → Each q ys → list_any p ys ≡ false
  any-none p q [] h e = refl
  any-none p q (y ∷ ys) h e = ap (λ d. d || list_any p ys) (h y e.0) ∙ any-none p q ys h e.1

  elements-front : (n : ℕ) → has n (numbers_of b.now) ≡ true → has_elements all_now n ≡ has_elements b.now n
  elements-front n h =
      any-append (λ y. is_element y.content && is_first n y.above) b.now b.past_now
      ∙ ap (λ d. has_elements b.now n || d) (any-none (λ y. is_element y.content && is_first n y.above) (λ y. (p : ℕ) → has p y.above ≡ true → has p (numbers_of b.now) ≡ false) b.past_now
      (λ y i. test-off is_element n y (λ j. sym (i n (first-has n y.above j)) ∙ h)) b.beside)
      ∙ or-no (has_elements b.now n)
    where
      or-no : (d : Bool) → (d || false) ≡ d
      or-no true = refl
      or-no false = refl

  pub same_nodes : SameNodes b.texts b.lists all_now all_before
  same_nodes = record {
    stay = stay b;
    order = order;
    listed = listed;
    mixed = λ n i e free. let both = in_both b n i in b.nodes.mixed n both.1 (sym (elements-front n both.0) ∙ e) free;
    own = own;
    held = held;
  }
