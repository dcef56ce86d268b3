-- Attributes in the order of their written names stay so where they are put in order again, and are told the same faults of.
use Rattle.std.proofs.Common.{◌≡◌, ℕ, ◌==◌, Bool, true, false, cond, ◌&&◌, ◌||◌, List, [], ◌∷◌, map, Ordering, Less, Equal, Greater, refl, sym, ap, ◌∙◌, arith}
use Rattle.std.specs.List.{list_any}
use Rattle.std.specs.Str.{bytes_eq}
use Rattle.std.specs.Ordering.{nat_cmp, is_lt, ordering_reverse}
use Rattle.std.specs.Cmp.Lexicographic.{slice_cmp}
use Rattle.std.proofs.lemmas.Cmp.{nat_list_cmp_total}
use Rattle.std.proofs.lemmas.Bool.Decides.{nat_tests}
use Rattle.xf_name.specs.Bindings.{Bindings}
use Rattle.xf_name.specs.Faults.{is_same_name, has_double}
use Rattle.xf_def_forest.specs.declared.bare.BareAttribute.{BareAttribute}
use Rattle.xf_def_forest.specs.declared.content.Content.{Content}
use Rattle.xf_def_forest.specs.Plant.{is_less, written_of, in_place, in_order}
use Rattle.xf_def_forest.specs.Planted.{bare_attribute}

-- ---- the order

less-less : (o : Ordering) → is_lt o ≡ true → is_lt (ordering_reverse o) ≡ false
less-less Less h = refl
less-less Equal h = refl
less-less Greater h = sym h

pub one-less : (xs ys : List ℕ) → is_less xs ys ≡ true → is_less ys xs ≡ false
one-less xs ys h = ap is_lt (nat_list_cmp_total.antisymm ys xs) ∙ less-less (slice_cmp nat_cmp xs ys) h

-- none is less than the one before it
abbrev IsSorted : List Content → Type 0
IsSorted [] = Unit {0}
IsSorted (x ∷ []) = Unit {0}
IsSorted (x ∷ y ∷ ys) = (is_less (written_of y) (written_of x) ≡ false) × IsSorted (y ∷ ys)

tail-sorted : (x : Content) (xs : List Content) → IsSorted (x ∷ xs) → IsSorted xs
tail-sorted x [] h = tt
tail-sorted x (y ∷ ys) h = h.1

place-sorted : (c : Content) (xs : List Content) → IsSorted xs → IsSorted (in_place c xs)
place-sorted c [] h = tt
place-sorted c (x ∷ []) h = by (is_less (written_of x) (written_of c)) refl
  where
    by : (b : Bool) → is_less (written_of x) (written_of c) ≡ b → IsSorted (cond b (x ∷ c ∷ []) (c ∷ x ∷ []))
    by true e = (one-less (written_of x) (written_of c) e, tt)
    by false e = (e, tt)
place-sorted c (x ∷ y ∷ ys) h = by (is_less (written_of x) (written_of c)) refl (place-sorted c (y ∷ ys) h.1)
  where
    later : (b : Bool) → is_less (written_of y) (written_of c) ≡ b → is_less (written_of x) (written_of c) ≡ true → IsSorted (cond b (y ∷ in_place c ys) (c ∷ y ∷ ys)) → IsSorted (x ∷ cond b (y ∷ in_place c ys) (c ∷ y ∷ ys))
    later true e f i = (h.0, i)
    later false e f i = (one-less (written_of x) (written_of c) f, i)

    by : (b : Bool) → is_less (written_of x) (written_of c) ≡ b → IsSorted (in_place c (y ∷ ys)) → IsSorted (cond b (x ∷ in_place c (y ∷ ys)) (c ∷ x ∷ y ∷ ys))
    by true e i = later (is_less (written_of y) (written_of c)) refl e i
    by false e i = (e, h)

order-sorted : (xs : List Content) → IsSorted (in_order xs)
order-sorted [] = tt
order-sorted (x ∷ xs) = place-sorted x (in_order xs) (order-sorted xs)

sorted-stays : (xs : List Content) → IsSorted xs → in_order xs ≡ xs
sorted-stays [] h = refl
sorted-stays (x ∷ []) h = refl
sorted-stays (x ∷ y ∷ ys) h = ap (in_place x) (sorted-stays (y ∷ ys) h.1) ∙ ap (λ b. cond b (y ∷ in_place x ys) (x ∷ y ∷ ys)) h.0

pub order-again : (xs : List Content) → in_order (in_order xs) ≡ in_order xs
order-again xs = sorted-stays (in_order xs) (order-sorted xs)

-- ---- attributes in it

module _ (b : Bindings) where
  abbrev less_than : BareAttribute → BareAttribute → Bool
  less_than x a = is_less (written_of (bare_attribute b x)) (written_of (bare_attribute b a))

  abbrev pub put : BareAttribute → List BareAttribute → List BareAttribute
  put a [] = a ∷ []
  put a (x ∷ xs) = cond (less_than x a) (x ∷ put a xs) (a ∷ x ∷ xs)

  abbrev pub sorted : List BareAttribute → List BareAttribute
  sorted [] = []
  sorted (x ∷ xs) = put x (sorted xs)

  put-is : (a : BareAttribute) (xs : List BareAttribute) → in_place (bare_attribute b a) (map (bare_attribute b) xs) ≡ map (bare_attribute b) (put a xs)
  put-is a [] = refl
  put-is a (x ∷ xs) = by (less_than x a) (put-is a xs)
    where
      by : (c : Bool) → in_place (bare_attribute b a) (map (bare_attribute b) xs) ≡ map (bare_attribute b) (put a xs) →
          cond c (bare_attribute b x ∷ in_place (bare_attribute b a) (map (bare_attribute b) xs)) (bare_attribute b a ∷ bare_attribute b x ∷ map (bare_attribute b) xs) ≡ map (bare_attribute b) (cond c (x ∷ put a xs) (a ∷ x ∷ xs))
      by true h = ap (λ l. bare_attribute b x ∷ l) h
      by false h = refl

  pub sorted-is : (rest : List BareAttribute) → in_order (map (bare_attribute b) rest) ≡ map (bare_attribute b) (sorted rest)
  sorted-is [] = refl
  sorted-is (a ∷ rest) = ap (in_place (bare_attribute b a)) (sorted-is rest) ∙ put-is a (sorted rest)

  -- ---- what is told of all of them, whatever their order

  or-swap : (p q r : Bool) → (p || (q || r)) ≡ (q || (p || r))
  or-swap true true r = refl
  or-swap true false r = refl
  or-swap false true r = refl
  or-swap false false r = refl

  put-any : (test : BareAttribute → Bool) (a : BareAttribute) (xs : List BareAttribute) → list_any test (put a xs) ≡ (test a || list_any test xs)
  put-any test a [] = refl
  put-any test a (x ∷ xs) = by (less_than x a) (put-any test a xs)
    where
      by : (c : Bool) → list_any test (put a xs) ≡ (test a || list_any test xs) → list_any test (cond c (x ∷ put a xs) (a ∷ x ∷ xs)) ≡ (test a || (test x || list_any test xs))
      by true h = ap (λ d. test x || d) h ∙ or-swap (test x) (test a) (list_any test xs)
      by false h = refl

  pub sorted-any : (test : BareAttribute → Bool) (rest : List BareAttribute) → list_any test (sorted rest) ≡ list_any test rest
  sorted-any test [] = refl
  sorted-any test (a ∷ rest) = put-any test a (sorted rest) ∙ ap (λ c. test a || c) (sorted-any test rest)

  abbrev key : BareAttribute → ℕ × List ℕ
  key a = (a.name.space, a.name.local)

  key-any : (x : ℕ × List ℕ) (rest : List BareAttribute) → list_any (is_same_name x) (map key rest) ≡ list_any (λ a. is_same_name x (key a)) rest
  key-any x [] = refl
  key-any x (a ∷ rest) = ap (λ c. is_same_name x (key a) || c) (key-any x rest)

  equal-turned : (m n : ℕ) → (m == n) ≡ (n == m)
  equal-turned m n = grind (arith, nat_tests)

  bytes-turned : (xs ys : List ℕ) → bytes_eq xs ys ≡ bytes_eq ys xs
  bytes-turned [] [] = refl
  bytes-turned [] (y ∷ ys) = refl
  bytes-turned (x ∷ xs) [] = refl
  bytes-turned (x ∷ xs) (y ∷ ys) = ap (λ c. c && bytes_eq xs ys) (equal-turned x y) ∙ ap (λ c. (y == x) && c) (bytes-turned xs ys)

  name-turned : (x y : ℕ × List ℕ) → is_same_name x y ≡ is_same_name y x
  name-turned x y = ap (λ c. c && bytes_eq x.1 y.1) (equal-turned x.0 y.0) ∙ ap (λ c. (y.0 == x.0) && c) (bytes-turned x.1 y.1)

  -- of one more
  put-double : (a : BareAttribute) (xs : List BareAttribute) → has_double (map key (put a xs)) ≡ has_double (map key (a ∷ xs))
  put-double a [] = refl
  put-double a (x ∷ xs) = by (less_than x a) (put-double a xs)
    where
      four : (p q r s : Bool) → ((p || q) || (r || s)) ≡ ((p || r) || (q || s))
      four true q r s = refl
      four false true true s = refl
      four false true false s = refl
      four false false r s = refl

      by : (c : Bool) → has_double (map key (put a xs)) ≡ has_double (map key (a ∷ xs)) → has_double (map key (cond c (x ∷ put a xs) (a ∷ x ∷ xs))) ≡ has_double (map key (a ∷ x ∷ xs))
      by false h = refl
      by true h =
          ap (λ d. d || has_double (map key (put a xs))) (key-any (key x) (put a xs) ∙ put-any (λ y. is_same_name (key x) (key y)) a xs ∙ ap (λ d. is_same_name (key x) (key a) || d) (sym (key-any (key x) xs)))
          ∙ ap (λ d. (is_same_name (key x) (key a) || list_any (is_same_name (key x)) (map key xs)) || d) h
          ∙ four (is_same_name (key x) (key a)) (list_any (is_same_name (key x)) (map key xs)) (list_any (is_same_name (key a)) (map key xs)) (has_double (map key xs))
          ∙ ap (λ d. (d || list_any (is_same_name (key a)) (map key xs)) || (list_any (is_same_name (key x)) (map key xs) || has_double (map key xs))) (name-turned (key x) (key a))

  pub sorted-double : (rest : List BareAttribute) → has_double (map key (sorted rest)) ≡ has_double (map key rest)
  sorted-double [] = refl
  sorted-double (a ∷ rest) =
      put-double a (sorted rest)
      ∙ ap (λ c. c || has_double (map key (sorted rest))) (key-any (key a) (sorted rest) ∙ sorted-any (λ y. is_same_name (key a) (key y)) rest ∙ sym (key-any (key a) rest))
      ∙ ap (λ c. list_any (is_same_name (key a)) (map key rest) || c) (sorted-double rest)
