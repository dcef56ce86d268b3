-- Facts about visits whose numbers differ: what is found, what a filter keeps, and when two lists keep the same.
use Rattle.std.proofs.Common.{◌≡◌, ℕ, ◌==◌, Bool, true, false, not, cond, ◌&&◌, ◌||◌, List, [], ◌∷◌, ◌++◌, reverse, Option, Some, None, refl, sym, ap, ◌∙◌, arith, inl, inr}
use Rattle.std.specs.Prelude.{filter, is_some, ◌⊎◌}
use Rattle.std.proofs.lemmas.Bool.{eqb-true}
use Rattle.std.proofs.lemmas.Bool.Decides.{nat_tests}
use Rattle.std.proofs.lemmas.List.{reverse-append}
use Rattle.xf_def_forest.specs.Visit.{Visit, has}
use Rattle.xf_def_forest.proofs.BackLaws.{and-true, or-false, not-true}
use Rattle.xf_def_xpath.specs.Asked.{found}
use Rattle.xf_def_xpath.specs.Agree.{numbers_of, are_apart}

pub self-same : (n : ℕ) → (n == n) ≡ true
self-same n = grind (arith, nat_tests)

pub turned : (m n : ℕ) → (m == n) ≡ (n == m)
turned m n = grind (arith, nat_tests)

pub or-cases : (a b : Bool) → (a || b) ≡ true → (a ≡ true) ⊎ (b ≡ true)
or-cases true b h = inl refl
or-cases false b h = inr h

pub or-left : (a b : Bool) → a ≡ true → (a || b) ≡ true
or-left a b h = ap (λ x. x || b) h

pub or-right : (a b : Bool) → b ≡ true → (a || b) ≡ true
or-right true b h = refl
or-right false b h = h

pub no : {A : Type 0} → false ≡ true → A
no h = cc h

pub some-same : {A : Type 0} {x y : A} → Some x ≡ Some y → x ≡ y
some-same h = cc h

pub none-some : {A B : Type 0} {x : A} → None ≡ Some x → B
none-some h = cc h

-- ---- filters

pub filter-and : {X : Type 0} (p q : X → Bool) (xs : List X) → filter (λ y. q y && p y) xs ≡ filter p (filter q xs)
filter-and p q [] = refl
filter-and p q (x ∷ xs) = by (q x) (filter-and p q xs)
  where
    by : (b : Bool) → filter (λ y. q y && p y) xs ≡ filter p (filter q xs)
        → cond (b && p x) (x ∷ filter (λ y. q y && p y) xs) (filter (λ y. q y && p y) xs) ≡ filter p (cond b (x ∷ filter q xs) (filter q xs))
    by true h = ap (λ l. cond (p x) (x ∷ l) l) h
    by false h = h

pub filter-same : {X : Type 0} (p q : X → Bool) → ((x : X) → p x ≡ q x) → (xs : List X) → filter p xs ≡ filter q xs
filter-same p q h [] = refl
filter-same p q h (x ∷ xs) = ap (λ b. cond b (x ∷ filter p xs) (filter p xs)) (h x) ∙ ap (λ l. cond (q x) (x ∷ l) l) (filter-same p q h xs)

pub filter-none : {X : Type 0} (p : X → Bool) → ((x : X) → p x ≡ false) → (xs : List X) → filter p xs ≡ []
filter-none p h [] = refl
filter-none p h (x ∷ xs) = ap (λ b. cond b (x ∷ filter p xs) (filter p xs)) (h x) ∙ filter-none p h xs

implied : (p q : Bool) → (p ≡ true → q ≡ true) → (q && p) ≡ p
implied true q h = by q (h refl)
  where
    by : (b : Bool) → b ≡ true → (b && true) ≡ true
    by true k = refl
    by false k = k
implied false true h = refl
implied false false h = refl

-- a stronger test needs no weaker one before it
pub filter-within : {X : Type 0} (p q : X → Bool) → ((x : X) → p x ≡ true → q x ≡ true) → (xs : List X) → filter p (filter q xs) ≡ filter p xs
filter-within p q h xs = sym (filter-and p q xs) ∙ filter-same (λ y. q y && p y) p (λ x. implied (p x) (q x) (h x)) xs

pub filter-append : {X : Type 0} (p : X → Bool) (xs ys : List X) → filter p (xs ++ ys) ≡ filter p xs ++ filter p ys
filter-append p [] ys = refl
filter-append p (x ∷ xs) ys = by (p x) (filter-append p xs ys)
  where
    by : (b : Bool) → filter p (xs ++ ys) ≡ filter p xs ++ filter p ys → cond b (x ∷ filter p (xs ++ ys)) (filter p (xs ++ ys)) ≡ cond b (x ∷ filter p xs) (filter p xs) ++ filter p ys
    by true h = ap (λ l. x ∷ l) h
    by false h = h

append-if : {X : Type 0} (b : Bool) (x : X) (xs : List X) → xs ++ cond b (x ∷ []) [] ≡ cond b (xs ++ x ∷ []) (xs ++ [])
append-if true x xs = refl
append-if false x xs = refl

append-none : {X : Type 0} (xs : List X) → xs ++ [] ≡ xs
append-none [] = refl
append-none (x ∷ xs) = ap (λ l. x ∷ l) (append-none xs)

pub filter-reverse : {X : Type 0} (p : X → Bool) (xs : List X) → filter p (reverse xs) ≡ reverse (filter p xs)
filter-reverse p [] = refl
filter-reverse p (x ∷ xs) =
    ap (filter p) (reverse-append (x ∷ []) xs)
    ∙ filter-append p (reverse xs) (x ∷ [])
    ∙ ap (λ l. l ++ filter p (x ∷ [])) (filter-reverse p xs)
    ∙ by (p x)
  where
    by : (b : Bool) → reverse (filter p xs) ++ cond b (x ∷ []) [] ≡ reverse (cond b (x ∷ filter p xs) (filter p xs))
    by true = sym (reverse-append (x ∷ []) (filter p xs))
    by false = append-none (reverse (filter p xs))

-- ---- what is found

pub found-number : (k : ℕ) (all : List Visit) (x : Visit) → found k all ≡ Some x → x.number ≡ k
found-number k [] x h = none-some h
found-number k (y ∷ ys) x h = by (y.number == k) refl h (found-number k ys x)
  where
    by : (b : Bool) → (y.number == k) ≡ b → cond b (Some y) (found k ys) ≡ Some x → (found k ys ≡ Some x → x.number ≡ k) → x.number ≡ k
    by true e i below = ap (λ (z : Visit). z.number) (sym (some-same i)) ∙ eqb-true y.number k e
    by false e i below = below i

pub has-found : (k : ℕ) (all : List Visit) → has k (numbers_of all) ≡ is_some (found k all)
has-found k [] = refl
has-found k (y ∷ ys) = ap (λ b. b || has k (numbers_of ys)) (turned k y.number) ∙ by (y.number == k) (has-found k ys)
  where
    by : (b : Bool) → has k (numbers_of ys) ≡ is_some (found k ys) → (b || has k (numbers_of ys)) ≡ is_some (cond b (Some y) (found k ys))
    by true h = refl
    by false h = h

pub absent : (k : ℕ) (all : List Visit) → has k (numbers_of all) ≡ false → found k all ≡ None
absent k all h = by (found k all) (sym (has-found k all) ∙ h)
  where
    by : (m : Option Visit) → is_some m ≡ false → m ≡ None
    by None e = refl
    by (Some x) e = no (sym e)

pub present : (k : ℕ) (all : List Visit) (x : Visit) → found k all ≡ Some x → has k (numbers_of all) ≡ true
present k all x h = has-found k all ∙ ap is_some h

absent-filter : (q : Visit → Bool) (k : ℕ) (all : List Visit) → has k (numbers_of all) ≡ false → found k (filter q all) ≡ None
absent-filter q k [] h = refl
absent-filter q k (y ∷ ys) h = by (q y) (absent-filter q k ys (or-false (k == y.number) (has k (numbers_of ys)) h).1)
  where
    by : (b : Bool) → found k (filter q ys) ≡ None → found k (cond b (y ∷ filter q ys) (filter q ys)) ≡ None
    by true below = ap (λ c. cond c (Some y) (found k (filter q ys))) (turned y.number k ∙ (or-false (k == y.number) (has k (numbers_of ys)) h).0) ∙ below
    by false below = below

abbrev pub kept_if : (Visit → Bool) → Option Visit → Option Visit
kept_if q None = None
kept_if q (Some y) = cond (q y) (Some y) None

-- what is found in a part
pub found-filter : (q : Visit → Bool) (k : ℕ) (all : List Visit) → are_apart (numbers_of all) ≡ true → found k (filter q all) ≡ kept_if q (found k all)
found-filter q k [] h = refl
found-filter q k (y ∷ ys) h = by (q y) (y.number == k) refl refl (found-filter q k ys (and-true (not (has y.number (numbers_of ys))) (are_apart (numbers_of ys)) h).1)
  where
    gone : (y.number == k) ≡ true → found k (filter q ys) ≡ None
    gone e = absent-filter q k ys (ap (λ n. has n (numbers_of ys)) (sym (eqb-true y.number k e)) ∙ not-true (has y.number (numbers_of ys)) (and-true (not (has y.number (numbers_of ys))) (are_apart (numbers_of ys)) h).0)

    by : (b c : Bool) → q y ≡ b → (y.number == k) ≡ c → found k (filter q ys) ≡ kept_if q (found k ys) → found k (cond b (y ∷ filter q ys) (filter q ys)) ≡ kept_if q (cond c (Some y) (found k ys))
    by true true i e below = ap (λ x. cond x (Some y) (found k (filter q ys))) e ∙ sym (ap (λ x. cond x (Some y) None) i)
    by true false i e below = ap (λ x. cond x (Some y) (found k (filter q ys))) e ∙ below
    by false true i e below = gone e ∙ sym (ap (λ x. cond x (Some y) None) i)
    by false false i e below = below

pub found-in : (q : Visit → Bool) (k : ℕ) (all : List Visit) (x : Visit) → are_apart (numbers_of all) ≡ true → found k all ≡ Some x → q x ≡ true → found k (filter q all) ≡ Some x
found-in q k all x h i j = found-filter q k all h ∙ ap (kept_if q) i ∙ ap (λ b. cond b (Some x) None) j

pub found-out : (q : Visit → Bool) (k : ℕ) (all : List Visit) (x : Visit) → are_apart (numbers_of all) ≡ true → found k (filter q all) ≡ Some x → (found k all ≡ Some x) × (q x ≡ true)
found-out q k all x h i = by (found k all) (sym (found-filter q k all h) ∙ i)
  where
    by : (m : Option Visit) → kept_if q m ≡ Some x → (m ≡ Some x) × (q x ≡ true)
    by None e = none-some e
    by (Some y) e = of (q y) refl e
      where
        of : (b : Bool) → q y ≡ b → cond b (Some y) None ≡ Some x → (Some y ≡ Some x) × (q x ≡ true)
        of true j l = (l, ap q (sym (some-same l)) ∙ j)
        of false j l = none-some l
