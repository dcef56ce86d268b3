-- The first case of each switch is one of its cases, where no switch is without one.
use Rattle.std.proofs.Common.{◌≡◌, ℕ, suc, ◌+◌, ◌<◌, ◌==◌, Bool, true, false, not, cond, ◌&&◌, ◌||◌, List, [], ◌∷◌, map, length, zip, find, nat_lt, Option, Some, None, refl, sym, ap, ◌∙◌, subst, arith}
use Rattle.std.specs.List.{list_all, position_or_len}
use Rattle.std.proofs.lemmas.Bool.Decides.{nat_tests}
use Rattle.xf_def_forest.specs.Visit.{has}
use Rattle.xf_def_ui.specs.Cases.{cases_of, first_case, first_cases, is_written_selected, or_first, place_of_case}
use Rattle.xf_def_ui.specs.Elements.{element_at}
use Rattle.xf_def_ui.specs.Interface.{Interface}

and-true : (a b : Bool) → (a && b) ≡ true → (a ≡ true) × (b ≡ true)
and-true true b h = (refl, h)
and-true false b h = cc

both-true : (a b : Bool) → a ≡ true → b ≡ true → (a && b) ≡ true
both-true a b h k = rw (h, k) refl

-- ---- lists of cases

abbrev pub is_one : Interface → ℕ × ℕ → Bool
is_one f q = nat_lt q.1 (length (cases_of f q.0))

abbrev pub have_cases : Interface → List ℕ → Bool
have_cases f cases = (length cases == length f.switches) && list_all (is_one f) (zip f.switches cases)

-- what is found in a list has a place in it
there : (n : ℕ) (ns : List ℕ) → has n ns ≡ true → position_or_len (λ m. m == n) ns < length ns
there n [] h = cc h
there n (m ∷ ms) h = by (m == n) refl (there n ms)
  where
    other-way : (n == m) ≡ (m == n)
    other-way = grind (arith, nat_tests)

    by : (b : Bool) → (m == n) ≡ b → (has n ms ≡ true → position_or_len (λ k. k == n) ms < length ms) → cond (not (m == n)) (1 + position_or_len (λ k. k == n) ms) 0 < suc (length ms)
    by true e rest = subst (λ b. cond (not b) (1 + position_or_len (λ k. k == n) ms) 0 < suc (length ms)) (sym e) (omega arith)
    by false e rest =
        let less : position_or_len (λ k. k == n) ms < length ms = rest (subst (λ b. (b || has n ms) ≡ true) (other-way ∙ e) h) in
        subst (λ b. cond (not b) (1 + position_or_len (λ k. k == n) ms) 0 < suc (length ms)) (sym e) (omega (arith, less))

self : (n : ℕ) → (n == n) ≡ true
self n = grind (arith, nat_tests)

found-has : (test : ℕ → Bool) (ns : List ℕ) (n : ℕ) → find test ns ≡ Some n → has n ns ≡ true
found-has test [] n h = cc h
found-has test (m ∷ ms) n h = by (test m) h (found-has test ms n)
  where
    or-later : (a b : Bool) → b ≡ true → (a || b) ≡ true
    or-later true b q = refl
    or-later false b q = q

    by : (b : Bool) → cond b (Some m) (find test ms) ≡ Some n → (find test ms ≡ Some n → has n ms ≡ true) → ((n == m) || has n ms) ≡ true
    by true q rest = let same : m ≡ n = cc q in subst (λ k. ((n == k) || has n ms) ≡ true) (sym same) (ap (λ b. b || has n ms) (self n))
    by false q rest = or-later (n == m) (has n ms) (rest q)

first-has : (o : Option ℕ) (ns : List ℕ) → nat_lt 0 (length ns) ≡ true → ((n : ℕ) → o ≡ Some n → has n ns ≡ true) → has (or_first o ns) ns ≡ true
first-has None [] h f = none h
  where
    none : nat_lt 0 0 ≡ true → has 0 [] ≡ true
    none q = cc q
first-has None (n ∷ ns) h f = ap (λ b. b || has n ns) (self n)
first-has (Some n) ns h f = f n refl

first-is : (f : Interface) (n : ℕ) → nat_lt 0 (length (cases_of f n)) ≡ true → is_one f (n, place_of_case f n (first_case f n)) ≡ true
first-is f n h =
    let test : ℕ → Bool = λ m. is_written_selected (element_at f m).sort in
    less (position_or_len (λ m. m == first_case f n) (cases_of f n)) (length (cases_of f n))
    (there (first_case f n) (cases_of f n) (first-has (find test (cases_of f n)) (cases_of f n) h (found-has test (cases_of f n))))
  where
    less : (a b : ℕ) → a < b → nat_lt a b ≡ true
    less a b q = grind (arith, nat_tests, q)

first-all : (f : Interface) (ns : List ℕ) → list_all (λ n. nat_lt 0 (length (cases_of f n))) ns ≡ true → list_all (is_one f) (zip ns (map (λ n. place_of_case f n (first_case f n)) ns)) ≡ true
first-all f [] h = refl
first-all f (n ∷ ns) h =
    let parts = and-true (nat_lt 0 (length (cases_of f n))) (list_all (λ m. nat_lt 0 (length (cases_of f m))) ns) h in
    both-true (is_one f (n, place_of_case f n (first_case f n))) (list_all (is_one f) (zip ns (map (λ m. place_of_case f m (first_case f m)) ns))) (first-is f n parts.0) (first-all f ns parts.1)

length-first : (f : Interface) (ns : List ℕ) → length (map (λ n. place_of_case f n (first_case f n)) ns) ≡ length ns
length-first f [] = refl
length-first f (n ∷ ns) = ap suc (length-first f ns)

pub first-have : (f : Interface) → list_all (λ n. nat_lt 0 (length (cases_of f n))) f.switches ≡ true → have_cases f (first_cases f) ≡ true
first-have f h =
    both-true (length (first_cases f) == length f.switches) (list_all (is_one f) (zip f.switches (first_cases f)))
    (ap (λ n. n == length f.switches) (length-first f f.switches) ∙ self (length f.switches)) (first-all f f.switches h)
