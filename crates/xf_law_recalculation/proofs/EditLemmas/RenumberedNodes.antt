-- What is so of the data of now beside those of before is so where both have other numbers.
use Rattle.std.proofs.Common.{◌≡◌, ℕ, ◌==◌, false, not, ◌&&◌, ◌||◌, List, [], ◌∷◌, map, Option, Some, None, option_map, refl, sym, ap, ◌∙◌}
use Rattle.std.specs.Prelude.{filter}
use Rattle.xf_def_forest.specs.Forest.{is_text, is_element}
use Rattle.xf_def_forest.specs.Visit.{Visit, has, is_first}
use Rattle.xf_def_forest.specs.Shape.{erased, has_elements}
use Rattle.xf_def_forest.specs.Same.{IsRenumbering, renumbered_visit}
use Rattle.xf_def_forest.proofs.RenumberLaws.{map-map, filter-through, any-through}
use Rattle.xf_def_xpath.specs.Asked.{found}
use Rattle.xf_def_xpath.specs.Agree.{numbers_of, untexted}
use Rattle.xf_def_xpath.proofs.RenumberLaws.{found-renumbered}
use Rattle.xf_def_xpath.proofs.VisitFacts.{self-same, some-same, none-some, found-number, present}
use Rattle.std.proofs.lemmas.Bool.{eqb-true}
use Rattle.xf_law_recalculation.specs.Agree.Kept.{is_known, keeps}
use Rattle.xf_law_recalculation.specs.Marks.Marks.{is_unmarked, texts_in, IsInBoth, without_marked, SameNodes}
use Rattle.xf_law_recalculation.specs.Edit.Edits.{SameRenumbered}
use Rattle.xf_law_recalculation.proofs.MarksLemmas.Standing.{number-from}

module _ (s : ℕ → ℕ) (texts lists : List ℕ) (now before : List Visit) (same_numbers : IsRenumbering s) (marks : (k : ℕ) → has (s k) texts ≡ has k texts) (list_marks : (k : ℕ) → has (s k) lists ≡ has k lists)
    (same : SameNodes texts lists now before) where
  abbrev rs : Visit → Visit
  rs = renumbered_visit s

  abbrev K : List Visit → List Visit
  K xs = without_marked texts xs

  erased-through : (xs : List Visit) → map erased (map rs xs) ≡ map rs (map erased xs)
  erased-through xs = map-map erased rs xs ∙ sym (map-map rs erased xs)

  untexted-through : (xs : List Visit) → untexted (map erased (map rs xs)) ≡ map rs (untexted (map erased xs))
  untexted-through xs = ap untexted (erased-through xs) ∙ filter-through rs (λ y. not (is_text y.content)) (λ y. not (is_text y.content)) (λ y. refl) (map erased xs)

  keeps-through : (y : Visit) → keeps (is_unmarked texts) (rs y) ≡ keeps (is_unmarked texts) y
  keeps-through y = by y.above
    where
      by : (ns : List ℕ) → (not (is_text y.content) || is_known (is_unmarked texts) (map s ns)) ≡ (not (is_text y.content) || is_known (is_unmarked texts) ns)
      by [] = refl
      by (p ∷ ps) = ap (λ b. not (is_text y.content) || not b) (marks p)

  kept-through : (xs : List Visit) → K (map rs xs) ≡ map rs (K xs)
  kept-through xs = ap (filter (keeps (is_unmarked texts))) (erased-through xs) ∙ filter-through rs (keeps (is_unmarked texts)) (keeps (is_unmarked texts)) keeps-through (map erased xs)

  numbers-through : (xs : List Visit) → numbers_of (map rs xs) ≡ map s (numbers_of xs)
  numbers-through xs = map-map (λ (y : Visit). y.number) rs xs ∙ sym (map-map s (λ (y : Visit). y.number) xs)

  has-through : (k : ℕ) (ns : List ℕ) → has (s k) (map s ns) ≡ has k ns
  has-through k ns = any-through s (λ m. s k == m) (λ m. k == m) (λ m. same_numbers k m) ns

  first-through : (m : ℕ) (ns : List ℕ) → is_first (s m) (map s ns) ≡ is_first m ns
  first-through m [] = refl
  first-through m (p ∷ ps) = same_numbers m p

  -- where a node of the renumbered list comes from
  from : (n : ℕ) (xs : List Visit) (x : Visit) → found n (map rs xs) ≡ Some x → (m : ℕ) × (z : Visit) × (n ≡ s m) × (found m xs ≡ Some z) × (rs z ≡ x)
  from n xs x e =
      let m = number-from s same_numbers n xs (present n (map rs xs) x e) in
      by m.0 m.1 (found m.0 xs) refl (sym (found-renumbered s same_numbers m.0 xs) ∙ ap (λ k. found k (map rs xs)) (sym m.1) ∙ e)
    where
      by : (m : ℕ) → n ≡ s m → (o : Option Visit) → found m xs ≡ o → option_map rs o ≡ Some x → (k : ℕ) × (z : Visit) × (n ≡ s k) × (found k xs ≡ Some z) × (rs z ≡ x)
      by m i None j l = none-some l
      by m i (Some z) j l = (m, z, i, j, some-same l)

  stay : (n : ℕ) (x y : Visit) → found n (map erased (map rs now)) ≡ Some x → found n (map erased (map rs before)) ≡ Some y → x ≡ y
  stay n x y e i =
      let z = from n (map erased now) x (ap (found n) (sym (erased-through now)) ∙ e) in
      by z.0 z.1 z.2 z.3 z.4 (found z.0 (map erased before)) refl
      (sym (found-renumbered s same_numbers z.0 (map erased before)) ∙ ap (λ k. found k (map rs (map erased before))) (sym z.2) ∙ ap (found n) (sym (erased-through before)) ∙ i)
    where
      by : (m : ℕ) (z : Visit) → n ≡ s m → found m (map erased now) ≡ Some z → rs z ≡ x → (o : Option Visit) → found m (map erased before) ≡ o → option_map rs o ≡ Some y → x ≡ y
      by m z a b c None j l = none-some l
      by m z a b c (Some w) j l = sym c ∙ ap rs (same.stay m z w b j) ∙ some-same l

  one-number : (a b : ℕ) → s a ≡ s b → a ≡ b
  one-number a b e = eqb-true a b (sym (same_numbers a b) ∙ ap (λ k. k == s b) e ∙ self-same (s b))

  one-list : (ns ms : List ℕ) → map s ns ≡ map s ms → ns ≡ ms
  one-list [] [] e = refl
  one-list [] (m ∷ ms) e = cc e
  one-list (n ∷ ns) [] e = cc e
  one-list (n ∷ ns) (m ∷ ms) e = ap (λ k. k ∷ ns) (one-number n m (first e)) ∙ ap (λ l. m ∷ l) (one-list ns ms (later e))
    where
      first : map s (n ∷ ns) ≡ map s (m ∷ ms) → s n ≡ s m
      first i = cc i

      later : map s (n ∷ ns) ≡ map s (m ∷ ms) → map s ns ≡ map s ms
      later i = cc i

  visit-same : (z w : Visit) → z.number ≡ w.number → rs z ≡ rs w → z ≡ w
  visit-same z w a e =
      ap (λ n. record { number = n; above = z.above; content = z.content }) a
      ∙ ap (λ l. record { number = w.number; above = l; content = z.content }) (one-list z.above w.above (ap (λ (v : Visit). v.above) e))
      ∙ ap (λ c. record { number = w.number; above = w.above; content = c }) (ap (λ (v : Visit). v.content) e)

  -- a node of both, by its number of before
  both-from : (n : ℕ) → IsInBoth (map rs now) (map rs before) n → (m : ℕ) × (n ≡ s m) × IsInBoth now before m
  both-from n h =
      let z = from n (untexted (map erased now)) h.0 (ap (found n) (sym (untexted-through now)) ∙ h.1) in
      by z.0 z.1 z.2 z.3 z.4 (found z.0 (untexted (map erased before))) refl
      (sym (found-renumbered s same_numbers z.0 (untexted (map erased before))) ∙ ap (λ k. found k (map rs (untexted (map erased before)))) (sym z.2) ∙ ap (found n) (sym (untexted-through before)) ∙ h.2)
    where
      by : (m : ℕ) (z : Visit) → n ≡ s m → found m (untexted (map erased now)) ≡ Some z → rs z ≡ h.0 → (o : Option Visit) → found m (untexted (map erased before)) ≡ o → option_map rs o ≡ Some h.0 → (k : ℕ) × (n ≡ s k) × IsInBoth now before k
      by m z a b c None j l = none-some l
      by m z a b c (Some w) j l =
          let one : z ≡ w = visit-same z w (found-number m (untexted (map erased now)) z b ∙ sym (found-number m (untexted (map erased before)) w j)) (c ∙ sym (some-same l)) in
          (m, a, (z, b, j ∙ ap Some (sym one)))

  mark-of : (n m : ℕ) → n ≡ s m → has n texts ≡ has m texts
  mark-of n m e = ap (λ k. has k texts) e ∙ marks m

  list-mark_of : (n m : ℕ) → n ≡ s m → has n lists ≡ has m lists
  list-mark_of n m e = ap (λ k. has k lists) e ∙ list_marks m

  order : filter (λ n. has n (numbers_of (K (map rs before)))) (numbers_of (K (map rs now))) ≡ filter (λ n. has n (numbers_of (K (map rs now)))) (numbers_of (K (map rs before)))
  order = one now before ∙ ap (map s) same.order ∙ sym (one before now)
    where
      one : (xs ys : List Visit) → filter (λ n. has n (numbers_of (K (map rs ys)))) (numbers_of (K (map rs xs))) ≡ map s (filter (λ n. has n (numbers_of (K ys))) (numbers_of (K xs)))
      one xs ys =
          ap (λ l. filter (λ n. has n (numbers_of l)) (numbers_of (K (map rs xs)))) (kept-through ys)
          ∙ ap (λ l. filter (λ n. has n (numbers_of (map rs (K ys)))) (numbers_of l)) (kept-through xs)
          ∙ ap (λ l. filter (λ n. has n l) (numbers_of (map rs (K xs)))) (numbers-through (K ys))
          ∙ ap (filter (λ n. has n (map s (numbers_of (K ys))))) (numbers-through (K xs))
          ∙ filter-through s (λ n. has n (map s (numbers_of (K ys)))) (λ n. has n (numbers_of (K ys))) (λ n. has-through n (numbers_of (K ys))) (numbers_of (K xs))

  in-list : (m : ℕ) (xs : List Visit) → filter (λ y. is_first (s m) y.above) (map rs xs) ≡ map rs (filter (λ y. is_first m y.above) xs)
  in-list m xs = filter-through rs (λ y. is_first (s m) y.above) (λ y. is_first m y.above) (λ y. first-through m y.above) xs

  listed : (n : ℕ) → IsInBoth (map rs now) (map rs before) n → has n lists ≡ false → filter (λ y. is_first n y.above) (K (map rs now)) ≡ filter (λ y. is_first n y.above) (K (map rs before))
  listed n h free =
      let m = both-from n h in
      one n m.0 m.1 now ∙ ap (map rs) (same.listed m.0 m.2 (sym (list-mark_of n m.0 m.1) ∙ free)) ∙ sym (one n m.0 m.1 before)
    where
      one : (k m : ℕ) → k ≡ s m → (xs : List Visit) → filter (λ y. is_first k y.above) (K (map rs xs)) ≡ map rs (filter (λ y. is_first m y.above) (K xs))
      one k m e xs = ap (λ j. filter (λ (y : Visit). is_first j y.above) (K (map rs xs))) e ∙ ap (filter (λ (y : Visit). is_first (s m) y.above)) (kept-through xs) ∙ in-list m (K xs)

  elements : (n m : ℕ) → n ≡ s m → has_elements (map rs now) n ≡ has_elements now m
  elements n m e =
      ap (has_elements (map rs now)) e
      ∙ any-through rs (λ y. is_element y.content && is_first (s m) y.above) (λ y. is_element y.content && is_first m y.above) (λ y. ap (λ b. is_element y.content && b) (first-through m y.above)) now

  own-of : (n m : ℕ) → n ≡ s m → (xs : List Visit) → found n (map rs xs) ≡ option_map rs (found m xs)
  own-of n m e xs = ap (λ k. found k (map rs xs)) e ∙ found-renumbered s same_numbers m xs

  texts-of : (n m : ℕ) → n ≡ s m → (xs : List Visit) → texts_in (map rs xs) n ≡ map rs (texts_in xs m)
  texts-of n m e xs =
      ap (texts_in (map rs xs)) e
      ∙ filter-through rs (λ y. is_text y.content && is_first (s m) y.above) (λ y. is_text y.content && is_first m y.above) (λ y. ap (λ b. is_text y.content && b) (first-through m y.above)) xs

  renumbered-nodes : SameNodes texts lists (map rs now) (map rs before)
  renumbered-nodes = record {
    stay = stay;
    order = order;
    listed = listed;
    mixed = λ n h e free. let m = both-from n h in mark-of n m.0 m.1 ∙ same.mixed m.0 m.2 (sym (elements n m.0 m.1) ∙ e) (sym (list-mark_of n m.0 m.1) ∙ free);
    own = λ n h free. let m = both-from n h in own-of n m.0 m.1 now ∙ ap (option_map rs) (same.own m.0 m.2 (sym (mark-of n m.0 m.1) ∙ free)) ∙ sym (own-of n m.0 m.1 before);
    held = λ n h free. let m = both-from n h in texts-of n m.0 m.1 now ∙ ap (map rs) (same.held m.0 m.2 (sym (mark-of n m.0 m.1) ∙ free)) ∙ sym (texts-of n m.0 m.1 before);
  }

pub same_renumbered : SameRenumbered
same_renumbered s texts lists now before same_numbers marks list_marks same = renumbered-nodes s texts lists now before same_numbers marks list_marks same
