-- An index that is placed has the row with its number at its node, and lists of indexes that agree at each place are equal.
use Rattle.std.proofs.Common.{◌≡◌, ℕ, zero, suc, ◌+◌, ◌<◌, ◌==◌, Bool, true, false, not, cond, ◌&&◌, ◌||◌, List, [], ◌∷◌, ◌++◌, map, length, get_or, slice_get, Option, Some, None, refl, sym, ap, ◌∙◌, subst, if◌then◌else◌, arith}
use Rattle.std.specs.Prelude.{◌≤◌, is_none, option_and_then}
use Rattle.std.specs.List.{flat_map, list_all, position_or_len}
use Rattle.std.proofs.lemmas.Bool.Decides.{nat_tests}
use Rattle.xf_def_forest.specs.Visit.{has}
use Rattle.xf_def_xpath.specs.Setting.{◌>>=◌, each}
use Rattle.xf_def_model.specs.Pertinent.{AllOf}
use Rattle.xf_def_ui.specs.Elements.{element_at}
use Rattle.xf_def_ui.specs.Index.{Index, unset, number_of, index_of, if_named, place_in}
use Rattle.xf_def_ui.specs.Interface.{Interface}
use Rattle.xf_def_ui.specs.Rows.{row_at}
use Rattle.xf_def_machine.specs.AtRest.{is_same_place, is_placed, is_placed_in}

and-true : (a b : Bool) → (a && b) ≡ true → (a ≡ true) × (b ≡ true)
and-true true b h = (refl, h)
and-true false b h = cc

equal : (m n : ℕ) → (m == n) ≡ true → m ≡ n
equal m n h = grind (arith, nat_tests, h)

-- ---- the row at an index

other-way : (m n : ℕ) → (m == n) ≡ (n == m)
other-way m n = grind (arith, nat_tests)

-- the node is the row at the place where it is found
at-position : (rows : List ℕ) (n : ℕ) → has n rows ≡ true → slice_get rows (position_or_len (λ m. m == n) rows) ≡ Some n
at-position [] n h = cc h
at-position (m ∷ rows) n h = by (m == n) refl (at-position rows n)
  where
    further : slice_get rows (position_or_len (λ k. k == n) rows) ≡ Some n → slice_get (m ∷ rows) (1 + position_or_len (λ k. k == n) rows) ≡ Some n
    further h = let w : 1 + position_or_len (λ k. k == n) rows ≡ suc (position_or_len (λ k. k == n) rows) = omega arith in ap (slice_get (m ∷ rows)) w ∙ h

    by : (b : Bool) → (m == n) ≡ b → (has n rows ≡ true → slice_get rows (position_or_len (λ k. k == n) rows) ≡ Some n)
        → slice_get (m ∷ rows) (cond (not (m == n)) (1 + position_or_len (λ k. k == n) rows) 0) ≡ Some n
    by true e rest = ap (λ b. slice_get (m ∷ rows) (cond (not b) (1 + position_or_len (λ k. k == n) rows) 0)) e ∙ ap Some (equal m n e)
    by false e rest =
        ap (λ b. slice_get (m ∷ rows) (cond (not b) (1 + position_or_len (λ k. k == n) rows) 0)) e
        ∙ further (rest (subst (λ b. (b || has n rows) ≡ true) (other-way n m ∙ e) h))

none-node : (o : Option ℕ) → is_none o ≡ true → o ≡ None
none-node None h = refl
none-node (Some n) h = cc h

placed-row : (rows : List ℕ) (i : Index) → is_placed rows i ≡ true → i.node ≡ row_at rows i.index
placed-row [] i h =
    let parts = and-true (i.index == 0) (is_none i.node) h in
    none-node i.node parts.1 ∙ sym (ap (row_at []) (equal i.index 0 parts.0))
placed-row (r ∷ rs) i h = by i.node h
  where
    found : (n : ℕ) (b : Bool) → has n (r ∷ rs) ≡ b → is_same_place (if b then Some (suc (position_or_len (λ m. m == n) (r ∷ rs))) else None) i.index ≡ true → Some n ≡ row_at (r ∷ rs) i.index
    found n false e q = cc q
    found n true e q =
        sym (at-position (r ∷ rs) n e) ∙ ap (row_at (r ∷ rs)) (equal (suc (position_or_len (λ m. m == n) (r ∷ rs))) i.index q)

    by : (o : Option ℕ) → is_same_place (option_and_then (place_in (r ∷ rs)) o) i.index ≡ true → o ≡ row_at (r ∷ rs) i.index
    by None q = cc q
    by (Some n) q = found n (has n (r ∷ rs)) refl q

-- an index at rows that are there
pub record HasRow (found : Option (List ℕ)) (i : Index) : Type 0 where
  pub rows : List ℕ
  pub is : found ≡ Some rows
  pub node : i.node ≡ row_at rows i.index

pub placed-in : (found : Option (List ℕ)) (i : Index) → is_placed_in found i ≡ true → HasRow found i
placed-in None i h = cc h
placed-in (Some rows) i h = record { rows = rows; is = refl; node = placed-row rows i h }

-- ---- lists

pub all-at : {A : Type 0} (test : A → Bool) (xs : List A) (k : ℕ) (x : A) → list_all test xs ≡ true → slice_get xs k ≡ Some x → test x ≡ true
all-at test [] k x h q = cc q
all-at test (y ∷ ys) zero x h q = let same : y ≡ x = cc q in subst (λ z. test z ≡ true) same (and-true (test y) (list_all test ys) h).0
all-at test (y ∷ ys) (suc k) x h q = all-at test ys k x (and-true (test y) (list_all test ys) h).1 q

-- where there is none at a place, the list ends before it
pub ended : {A : Type 0} (xs : List A) (k : ℕ) → slice_get xs k ≡ None → length xs ≤ k
ended [] k h = omega arith
ended (x ∷ xs) zero h = cc h
ended (x ∷ xs) (suc k) h = let rest : length xs ≤ k = ended xs k h in omega (arith, rest)

pub past-end : (is : List Index) (k : ℕ) → length is ≤ k → get_or is k unset ≡ unset
past-end [] k h = refl
past-end (i ∷ is) zero h = let no : ⊥ = omega (arith, h) in absurd no
past-end (i ∷ is) (suc k) h = past-end is k (omega (arith, h))

pub equal-lists : (is js : List Index) → length is ≡ length js → ((k : ℕ) → get_or is k unset ≡ get_or js k unset) → is ≡ js
equal-lists [] [] l h = refl
equal-lists [] (j ∷ js) l h = cc l
equal-lists (i ∷ is) [] l h = cc l
equal-lists (i ∷ is) (j ∷ js) l h = let less : length is ≡ length js = omega (arith, l) in ap (λ x. x ∷ is) (h 0) ∙ ap (λ xs. j ∷ xs) (equal-lists is js less (λ k. h (suc k)))

abbrev pub index_numbers : List Index → List ℕ
index_numbers is = map (λ (i : Index). i.index) is

pub same-numbers : (is js : List Index) → index_numbers is ≡ index_numbers js → (k : ℕ) → (get_or is k unset).index ≡ (get_or js k unset).index
same-numbers [] [] q k = refl
same-numbers [] (j ∷ js) q k = cc q
same-numbers (i ∷ is) [] q k = cc q
same-numbers (i ∷ is) (j ∷ js) q zero = cc q
same-numbers (i ∷ is) (j ∷ js) q (suc k) = let rest : index_numbers is ≡ index_numbers js = cc q in same-numbers is js rest k

-- ---- what is seen of indexes

module _ (f : Interface) (is js : List Index) where
  pub named-same : ((k : ℕ) → (get_or is k unset).index ≡ (get_or js k unset).index) → (rs : List ℕ)
      → flat_map (λ r. if_named (element_at f r).id (index_of f is r).index) rs ≡ flat_map (λ r. if_named (element_at f r).id (index_of f js r).index) rs
  named-same h [] = refl
  named-same h (r ∷ rs) =
      ap (λ k. if_named (element_at f r).id k ++ flat_map (λ q. if_named (element_at f q).id (index_of f is q).index) rs) (h (number_of f r))
      ∙ ap (λ l. if_named (element_at f r).id (index_of f js r).index ++ l) (named-same h rs)

  pub rows-same : (bound : ℕ) → ((k : ℕ) → k < bound → get_or is k unset ≡ get_or js k unset) → (rs : List ℕ) → AllOf (λ r. number_of f r < bound) rs
      → each (λ r. (index_of f is r).node) rs ≡ each (λ r. (index_of f js r).node) rs
  rows-same bound h [] low = refl
  rows-same bound h (r ∷ rs) low =
      ap (λ (i : Index). i.node >>= λ y. each (λ q. (index_of f is q).node) rs >>= λ ys. Some (y ∷ ys)) (h (number_of f r) low.0)
      ∙ ap (λ o. (index_of f js r).node >>= λ y. o >>= λ ys. Some (y ∷ ys)) (rows-same bound h rs low.1)
