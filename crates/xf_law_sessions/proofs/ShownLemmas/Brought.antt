-- The passes that bring indexes up to date end where one changes nothing: then each index is placed among its rows.
use Rattle.std.proofs.Common.{◌≡◌, ℕ, zero, suc, ◌+◌, ◌<◌, ◌==◌, Bool, true, false, not, cond, ◌&&◌, ◌||◌, List, [], ◌∷◌, map, length, get_or, slice_get, min, max, Option, Some, None, Ok, refl, sym, ap, ◌∙◌, subst, arith, if◌then◌else◌}
use Rattle.std.specs.Prelude.{◌≤◌, option_map, option_and_then, slice_set}
use Rattle.std.specs.List.{list_all, position_or_len}
use Rattle.std.proofs.lemmas.Bool.Decides.{nat_tests}
use Rattle.xf_def_forest.specs.Visit.{has}
use Rattle.xf_def_xpath.specs.Setting.{◌>>=◌}
use Rattle.xf_def_ui.specs.Around.{Around}
use Rattle.xf_def_ui.specs.Elements.{element_at, repeat_start}
use Rattle.xf_def_ui.specs.Index.{Index, unset, number_of, index_of, with_index, rows_now, by_lines, place_in, later_or, last_from, index_at, Pass, ruled, passed, begins_anew, pass_over, pass, same_node, same_indexes, again_unless, after_pass, brought_up}
use Rattle.xf_def_ui.specs.Interface.{Interface}
use Rattle.xf_def_ui.specs.Rows.{row_at, held}
use Rattle.xf_def_ui.specs.Started as ui
use Rattle.xf_def_machine.specs.AtRest.{is_same_place, is_placed, is_placed_in}
use Rattle.xf_law_sessions.specs.Outcome.Repeats.{StandInTurn}

and-true : (a b : Bool) → (a && b) ≡ true → (a ≡ true) × (b ≡ true)
and-true true b h = (refl, h)
and-true false b h = cc

pub both : (a b : Bool) → a ≡ true → b ≡ true → (a && b) ≡ true
both a b h k = rw (h, k) refl

equal : (m n : ℕ) → (m == n) ≡ true → m ≡ n
equal m n h = grind (arith, nat_tests, h)

pub self : (n : ℕ) → (n == n) ≡ true
self n = grind (arith, nat_tests)

-- ---- one index that a pass leaves as it is

-- the row at an index among the rows is one of them
row-there : (rows : List ℕ) (k : ℕ) → k < length rows → (m : ℕ) × ((slice_get rows k ≡ Some m) × (has m rows ≡ true))
row-there [] k h = let no : ⊥ = omega (arith, h) in absurd no
row-there (n ∷ ns) zero h = (n, (refl, ap (λ b. b || has n ns) (self n)))
row-there (n ∷ ns) (suc k) h =
    let rest = row-there ns k (omega (arith, h)) in
    (rest.0, (rest.1.0, later (rest.0 == n) (has rest.0 ns) rest.1.1))
  where
    later : (a b : Bool) → b ≡ true → (a || b) ≡ true
    later true b q = refl
    later false b q = q

none-added : (place : ℕ) (rows : List ℕ) → last_from place [] rows ≡ None
none-added place [] = refl
none-added place (n ∷ ns) = ap (λ o. later_or o None) (none-added (suc place) ns)

some-place : (rows : List ℕ) (m : ℕ) → has m rows ≡ true → place_in rows m ≡ Some (suc (position_or_len (λ k. k == m) rows))
some-place rows m h = ap (λ b. if b then Some (suc (position_or_len (λ k. k == m) rows)) else None) h

first-place : (n : ℕ) (ns : List ℕ) → place_in (n ∷ ns) n ≡ Some 1
first-place n ns =
    some-place (n ∷ ns) n (ap (λ b. b || has n ns) (self n)) ∙ ap (λ b. Some (suc (cond (not b) (1 + position_or_len (λ k. k == n) ns) 0))) (self n)

clash : (o : Option ℕ) (k : ℕ) → o ≡ Some k → o ≡ None → ⊥
clash None k e f = cc e
clash (Some n) k e f = cc f

placed-first : (n : ℕ) (ns : List ℕ) (k : ℕ) → k ≡ 1 → is_placed (n ∷ ns) (index_at (n ∷ ns) k) ≡ true
placed-first n ns k e =
    subst (λ j. is_placed (n ∷ ns) (index_at (n ∷ ns) j) ≡ true) (sym e) (ap (λ o. is_same_place o 1) (first-place n ns))

placed-kept : (n : ℕ) (ns : List ℕ) (x : Index) (o : Option ℕ) → option_and_then (place_in (n ∷ ns)) x.node ≡ o → x ≡ index_at (n ∷ ns) (by_lines (length (n ∷ ns)) None o x.index).0
    → is_placed (n ∷ ns) x ≡ true
placed-kept n ns x (Some place) e h =
    ap (λ q. is_same_place q x.index) e ∙ ap (λ k. place == k) (ap (λ (i : Index). i.index) h) ∙ self place
placed-kept n ns x None e h =
    let k : ℕ = min (max x.index 1) (length (n ∷ ns)) in
    let low : 1 ≤ k = grind arith in
    let high : k ≤ length (n ∷ ns) = grind arith in
    absurd (by k low high (ap (λ (i : Index). i.node) h))
  where
    by : (k : ℕ) → 1 ≤ k → k ≤ length (n ∷ ns) → x.node ≡ row_at (n ∷ ns) k → ⊥
    by zero low high f = omega (arith, low)
    by (suc j) low high f =
        let there = row-there (n ∷ ns) j (omega (arith, high)) in
        clash (option_and_then (place_in (n ∷ ns)) x.node) (suc (position_or_len (λ m. m == there.0) (n ∷ ns)))
        (ap (option_and_then (place_in (n ∷ ns))) (f ∙ there.1.0) ∙ some-place (n ∷ ns) there.0 there.1.1) e

placed-fixed : (anew : Bool) (rows : List ℕ) (x : Index) → x ≡ index_at rows (ruled anew rows x []).0 → is_placed rows x ≡ true
placed-fixed true [] x h = let k : min 1 0 ≡ 0 = grind arith in subst (λ i. is_placed [] i ≡ true) (sym (h ∙ ap (index_at []) k)) refl
placed-fixed false [] x h = subst (λ i. is_placed [] i ≡ true) (sym h) refl
placed-fixed true (n ∷ ns) x h =
    let k : min 1 (suc (length ns)) ≡ 1 = grind arith in
    subst (λ i. is_placed (n ∷ ns) i ≡ true) (sym h) (placed-first n ns (min 1 (length (n ∷ ns))) k)
placed-fixed false (n ∷ ns) x h =
    placed-kept n ns x (option_and_then (place_in (n ∷ ns)) x.node) refl
    (h ∙ ap (λ o. index_at (n ∷ ns) (by_lines (length (n ∷ ns)) o (option_and_then (place_in (n ∷ ns)) x.node) x.index).0) (none-added 1 (n ∷ ns)))

-- ---- lists of indexes

set-length : (is : List Index) (k : ℕ) (i : Index) → length (slice_set is k i) ≡ length is
set-length [] k i = refl
set-length (j ∷ is) zero i = refl
set-length (j ∷ is) (suc k) i = ap suc (set-length is k i)

pub set-there : (is : List Index) (k : ℕ) (i : Index) → k < length is → get_or (slice_set is k i) k unset ≡ i
set-there [] k i h = let no : ⊥ = omega (arith, h) in absurd no
set-there (j ∷ is) zero i h = refl
set-there (j ∷ is) (suc k) i h = set-there is k i (omega (arith, h))

set-other : (is : List Index) (j k : ℕ) (i : Index) → j < k → get_or (slice_set is k i) j unset ≡ get_or is j unset
set-other [] j k i h = refl
set-other (x ∷ is) j zero i h = let no : ⊥ = omega (arith, h) in absurd no
set-other (x ∷ is) zero (suc k) i h = refl
set-other (x ∷ is) (suc j) (suc k) i h = set-other is j k i (omega (arith, h))

-- what stands at its place already changes nothing
set-same : (is : List Index) (k : ℕ) → slice_set is k (get_or is k unset) ≡ is
set-same [] k = refl
set-same (i ∷ is) zero = refl
set-same (i ∷ is) (suc k) = ap (λ l. i ∷ l) (set-same is k)

same-one : (i j : Index) → (i.index == j.index) ≡ true → same_node i.node j.node ≡ true → i ≡ j
same-one i j h k = ap {A = ℕ} {B = Index} (λ n. record { index = n; node = i.node }) (equal i.index j.index h) ∙ ap {A = Option ℕ} {B = Index} (λ o. record { index = j.index; node = o }) (of i.node j.node k)
  where
    of : (m n : Option ℕ) → same_node m n ≡ true → m ≡ n
    of None None q = refl
    of (Some m) (Some n) q = ap Some (equal m n q)
    of None (Some n) q = cc q
    of (Some m) None q = cc q

same-all : (is js : List Index) → same_indexes is js ≡ true → is ≡ js
same-all [] [] h = refl
same-all [] (j ∷ js) h = cc h
same-all (i ∷ is) [] h = cc h
same-all (i ∷ is) (j ∷ js) h =
    let all = and-true ((i.index == j.index) && same_node i.node j.node) (same_indexes is js) h in
    let one = and-true (i.index == j.index) (same_node i.node j.node) all.0 in
    ap (λ x. x ∷ is) (same-one i j one.0 one.1) ∙ ap (λ l. j ∷ l) (same-all is js all.1)

-- ---- passes

module _ (f : Interface) (a : Around) where
  -- what comes after a repeat in a pass, where its rows are these
  abbrev after : List ℕ → Pass → ℕ → List ℕ → List ℕ → Option Pass
  after added s r rs rows = pass_over f a added (passed f r rows s (ruled (begins_anew f s r) rows (index_of f s.indexes r) added)) rs

  over-length : (added : List ℕ) (rs : List ℕ) (s u : Pass) → pass_over f a added s rs ≡ Some u → length u.indexes ≡ length s.indexes
  over-length added [] s u e = let same : s ≡ u = cc e in ap (λ (x : Pass). length x.indexes) (sym same)
  over-length added (r ∷ rs) s u e = by (over-length added rs) (rows_now f a s.indexes r) e
    where
      Rest : Type 0
      Rest = (t w : Pass) → pass_over f a added t rs ≡ Some w → length w.indexes ≡ length t.indexes

      by : Rest → (o : Option (List ℕ)) → (o >>= after added s r rs) ≡ Some u → length u.indexes ≡ length s.indexes
      by rest None q = cc q
      by rest (Some rows) q =
          let t = passed f r rows s (ruled (begins_anew f s r) rows (index_of f s.indexes r) added) in
          rest t u q ∙ set-length s.indexes (number_of f r) (index_at rows (ruled (begins_anew f s r) rows (index_of f s.indexes r) added).0)

  pass-length : (added : List ℕ) (is js : List Index) → pass f a added is ≡ Some js → length js ≡ length is
  pass-length added is js e = by (pass_over f a added (record { indexes = is; restarted = [] }) f.repeats) refl e
    where
      by : (o : Option Pass) → pass_over f a added (record { indexes = is; restarted = [] }) f.repeats ≡ o → option_map (λ (s : Pass). s.indexes) o ≡ Some js → length js ≡ length is
      by None q g = cc g
      by (Some u) q g = let same : u.indexes ≡ js = cc g in ap (λ l. length l) (sym same) ∙ over-length added f.repeats (record { indexes = is; restarted = [] }) u q

  -- where passes end, one more changes nothing
  record Ends (added : List ℕ) (is js : List Index) : Type 0 where
    pub length_is : length js ≡ length is
    pub passes : pass f a added js ≡ Some js

  brought-ends : (most : ℕ) (added : List ℕ) (is js : List Index) → brought_up most f a added is ≡ Ok js → Ends added is js
  brought-ends zero added is js e = cc e
  brought-ends (suc most) added is js e = by (λ next. brought-ends most added next js) (pass f a added is) refl e
    where
      Rest : Type 0
      Rest = (next : List Index) → brought_up most f a added next ≡ Ok js → Ends added next js

      by : Rest → (o : Option (List Index)) → pass f a added is ≡ o → after_pass (brought_up most f a added) is o ≡ Ok js → Ends added is js
      by further None q g = cc g
      by further (Some next) q g = of (same_indexes is next) refl g
        where
          of : (b : Bool) → same_indexes is next ≡ b → again_unless b (brought_up most f a added) next ≡ Ok js → Ends added is js
          of true t k =
              let same : next ≡ js = cc k in
              let fixed : is ≡ js = same-all is next t ∙ same in
              record { length_is = ap (λ l. length l) (sym fixed); passes = subst (λ l. pass f a added l ≡ Some js) fixed (q ∙ ap Some same) }
          of false t k =
              let rest = further next k in
              record { length_is = rest.length_is ∙ pass-length added is next q; passes = rest.passes }

  -- these repeats have their places from this one on as their numbers
  abbrev AreFrom : ℕ → List ℕ → Type 0
  AreFrom k rs = (i r : ℕ) → slice_get rs i ≡ Some r → number_of f r ≡ k + i

  from-first : (k r : ℕ) (rs : List ℕ) → AreFrom k (r ∷ rs) → number_of f r ≡ k
  from-first k r rs h = let none : k + 0 ≡ k = omega arith in h 0 r refl ∙ none

  from-rest : (k r : ℕ) (rs : List ℕ) → AreFrom k (r ∷ rs) → AreFrom (suc k) rs
  from-rest k r rs h i m e = let next : k + suc i ≡ suc k + i = omega arith in h (suc i) m e ∙ next

  -- the indexes of those before stay
  over-before : (k : ℕ) (rs : List ℕ) (s u : Pass) → AreFrom k rs → pass_over f a [] s rs ≡ Some u → (j : ℕ) → j < k → get_or u.indexes j unset ≡ get_or s.indexes j unset
  over-before k [] s u h e j less = let same : s ≡ u = cc e in ap (λ (x : Pass). get_or x.indexes j unset) (sym same)
  over-before k (r ∷ rs) s u h e j less =
      let further : j < suc k = omega (arith, less) in
      by (λ t q. over-before (suc k) rs t u (from-rest k r rs h) q j further) (rows_now f a s.indexes r) e
    where
      Rest : Type 0
      Rest = (t : Pass) → pass_over f a [] t rs ≡ Some u → get_or u.indexes j unset ≡ get_or t.indexes j unset

      by : Rest → (o : Option (List ℕ)) → (o >>= after [] s r rs) ≡ Some u → get_or u.indexes j unset ≡ get_or s.indexes j unset
      by rest None q = cc q
      by rest (Some rows) q =
          let new = ruled (begins_anew f s r) rows (index_of f s.indexes r) [] in
          let number : number_of f r ≡ k = from-first k r rs h in
          rest (passed f r rows s new) q
          ∙ set-other s.indexes j (number_of f r) (index_at rows new.0) (omega (arith, less, number))

  abbrev test : List Index → ℕ → Bool
  test js r = is_placed_in (rows_now f a js r) (index_of f js r)

  over-placed : (js : List Index) (k : ℕ) (rs : List ℕ) (s u : Pass) → AreFrom k rs → k + length rs ≤ length js → s.indexes ≡ js → u.indexes ≡ js → pass_over f a [] s rs ≡ Some u → list_all (test js) rs ≡ true
  over-placed js k [] s u h l is ends e = refl
  over-placed js k (r ∷ rs) s u h l is ends e =
      let fewer : suc k + length rs ≤ length js = omega (arith, l) in
      by (λ t stays g. over-placed js (suc k) rs t u (from-rest k r rs h) fewer stays ends g) (rows_now f a s.indexes r) refl e
    where
      number : number_of f r ≡ k
      number = from-first k r rs h

      Rest : Type 0
      Rest = (t : Pass) → t.indexes ≡ js → pass_over f a [] t rs ≡ Some u → list_all (test js) rs ≡ true

      by : Rest → (o : Option (List ℕ)) → rows_now f a s.indexes r ≡ o → (o >>= after [] s r rs) ≡ Some u → list_all (test js) (r ∷ rs) ≡ true
      by rest None q g = cc g
      by rest (Some rows) q g =
          let old = index_of f s.indexes r in
          let new = ruled (begins_anew f s r) rows old [] in
          let i = index_at rows new.0 in
          let t = passed f r rows s new in
          let within : number_of f r < length s.indexes = let same : length s.indexes ≡ length js = ap (λ x. length x) is in omega (arith, l, number, same) in
          let less : number_of f r < suc k = omega (arith, number) in
          let left : i ≡ get_or js (number_of f r) unset =
          sym (set-there s.indexes (number_of f r) i within) ∙ sym (over-before (suc k) rs t u (from-rest k r rs h) g (number_of f r) less) ∙ ap (λ x. get_or x (number_of f r) unset) ends in
          let stays : t.indexes ≡ js =
          ap (λ x. slice_set x (number_of f r) i) is ∙ ap (slice_set js (number_of f r)) left ∙ set-same js (number_of f r) in
          let same_old : old ≡ index_of f js r = ap (λ x. index_of f x r) is in
          let fixed : index_of f js r ≡ index_at rows (ruled (begins_anew f s r) rows (index_of f js r) []).0 =
          sym left ∙ ap (λ x. index_at rows (ruled (begins_anew f s r) rows x []).0) same_old in
          let placed : test js r ≡ true =
          ap (λ o. is_placed_in o (index_of f js r)) (ap (λ x. rows_now f a x r) (sym is) ∙ q) ∙ placed-fixed (begins_anew f s r) rows (index_of f js r) fixed in
          both (test js r) (list_all (test js) rs) placed (rest t stays g)

  pub brought-placed : StandInTurn f → (most : ℕ) (is js : List Index) → length is ≡ length f.repeats → brought_up most f a [] is ≡ Ok js → (length js ≡ length f.repeats) × (list_all (test js) f.repeats ≡ true)
  brought-placed turns most is js l e =
      let ends = brought-ends most [] is js e in
      let count : length js ≡ length f.repeats = ends.length_is ∙ l in
      (count, by count (pass_over f a [] (record { indexes = js; restarted = [] }) f.repeats) refl ends.passes)
    where
      by : length js ≡ length f.repeats → (o : Option Pass) → pass_over f a [] (record { indexes = js; restarted = [] }) f.repeats ≡ o → option_map (λ (s : Pass). s.indexes) o ≡ Some js → list_all (test js) f.repeats ≡ true
      by count None q g = cc g
      by count (Some u) q g =
          let same : u.indexes ≡ js = cc g in
          over-placed js 0 f.repeats (record { indexes = js; restarted = [] }) u (λ i r h. let none : i ≡ 0 + i = omega arith in (turns i r h).is ∙ none) (omega (arith, count)) refl same q

  pub brought-length : (most : ℕ) (added : List ℕ) (is js : List Index) → brought_up most f a added is ≡ Ok js → length js ≡ length is
  brought-length most added is js e = (brought-ends most added is js e).length_is

  -- ---- how indexes start, and how one is set

  takes-length : (taken : ℕ → List ℕ → ℕ) (is : List Index) (rs : List ℕ) (js : List Index) → ui.each_takes f a taken is rs ≡ Some js → length js ≡ length is
  takes-length taken is [] js e = let same : is ≡ js = cc e in ap (λ l. length l) (sym same)
  takes-length taken is (r ∷ rs) js e = by (λ next. takes-length taken next rs js) (rows_now f a is r) e
    where
      Rest : Type 0
      Rest = (next : List Index) → ui.each_takes f a taken next rs ≡ Some js → length js ≡ length next

      by : Rest → (o : Option (List ℕ)) → (o >>= λ rows. ui.each_takes f a taken (with_index f r (index_at rows (taken r rows)) is) rs) ≡ Some js → length js ≡ length is
      by rest None q = cc q
      by rest (Some rows) q =
          rest (with_index f r (index_at rows (taken r rows)) is) q ∙ set-length is (number_of f r) (index_at rows (taken r rows))

  unset-length : (rs : List ℕ) → length (map (λ r. unset) rs) ≡ length rs
  unset-length [] = refl
  unset-length (r ∷ rs) = ap suc (unset-length rs)

  pub started-length : (js : List Index) → ui.started f a ≡ Some js → length js ≡ length f.repeats
  started-length js e = takes-length (λ r. held (repeat_start (element_at f r).sort)) (map (λ r. unset) f.repeats) f.repeats js e ∙ unset-length f.repeats

  again-length : (r : ℕ) (b : Bool) (is js : List Index) → ui.restarted f a r b is ≡ Some js → length js ≡ length is
  again-length r true is js e = let same : is ≡ js = cc e in ap (λ l. length l) (sym same)
  again-length r false is js e = takes-length (λ q rows. min 1 (length rows)) is (ui.repeats_inside f r) js e

  pub set-index-length : (r n : ℕ) (is js : List Index) → ui.index_set f a r n is ≡ Some js → length js ≡ length is
  set-index-length r n is js e = by (rows_now f a is r) e
    where
      next : List ℕ → Option (List Index)
      next rows = let new = index_at rows (held n rows) in ui.restarted f a r (same_node (index_of f is r).node new.node) (with_index f r new is)

      by : (o : Option (List ℕ)) → (o >>= next) ≡ Some js → length js ≡ length is
      by None q = cc q
      by (Some rows) q =
          let new = index_at rows (held n rows) in
          again-length r (same_node (index_of f is r).node new.node) (with_index f r new is) js q ∙ set-length is (number_of f r) new
