-- Finding items of lists.
use Rattle.std.proofs.Common.{◌≡◌, ℕ, zero, suc, Bool, true, false, cond, List, [], ◌∷◌, ◌++◌, map, filter, find, Option, Some, None, option_map, slice_get, is_some, ◌||◌, refl, sym, ap, ◌∙◌}
use Rattle.std.specs.List.{list_any}
use Rattle.xf_binds.specs.Held.{passes}

pub false-true : {P : Type 0} → false ≡ true → P
false-true e = cc e

-- ---- where one item at most passes

abbrev pub kept_if : {X : Type 0} → (X → Bool) → Option X → Option X
kept_if test None = None
kept_if test (Some x) = cond (test x) (Some x) None

pub find-none : {X : Type 0} (test : X → Bool) (xs : List X) → ((i : ℕ) → passes test (slice_get xs i) ≡ false) → find test xs ≡ None
find-none test [] h = refl
find-none test (x ∷ xs) h = let e : test x ≡ false = h zero in rw e (find-none test xs (λ i. h (suc i)))

not-true : (b : Bool) → (b ≡ true → false ≡ true) → b ≡ false
not-true true h = sym (h refl)
not-true false h = refl

pub find-one : {X : Type 0} (test : X → Bool) (xs : List X) (j : ℕ) → ((i : ℕ) → passes test (slice_get xs i) ≡ true → j ≡ i) → find test xs ≡ kept_if test (slice_get xs j)
find-one test [] j h = refl
find-one test (x ∷ xs) zero h = by (test x) (find-none test xs (λ i. not-true (passes test (slice_get xs i)) (λ e. cc (h (suc i) e))))
  where
    by : (b : Bool) → find test xs ≡ None → cond b (Some x) (find test xs) ≡ cond b (Some x) None
    by true e = refl
    by false e = e
find-one test (x ∷ xs) (suc j) h =
    let e : test x ≡ false = not-true (test x) (λ e. cc (h zero e)) in
    rw e (find-one test xs j (λ i p. suc-same (h (suc i) p)))
  where
    suc-same : {a b : ℕ} → suc a ≡ suc b → a ≡ b
    suc-same e = cc e

-- ---- of mapped, filtered and joined lists

pub find-map : {A B : Type 0} (f : A → B) (test : B → Bool) (xs : List A) → find test (map f xs) ≡ option_map f (find (λ x. test (f x)) xs)
find-map f test [] = refl
find-map f test (x ∷ xs) = by (test (f x)) (find-map f test xs)
  where
    by : (b : Bool) → find test (map f xs) ≡ option_map f (find (λ y. test (f y)) xs) → cond b (Some (f x)) (find test (map f xs)) ≡ option_map f (cond b (Some x) (find (λ y. test (f y)) xs))
    by true e = refl
    by false e = e

pub find-filter : {X : Type 0} (test kept : X → Bool) → ((x : X) → test x ≡ true → kept x ≡ true) → (xs : List X) → find test (filter kept xs) ≡ find test xs
find-filter test kept h [] = refl
find-filter test kept h (x ∷ xs) = by (kept x) (test x) refl (h x) (find-filter test kept h xs)
  where
    by : (k t : Bool) → test x ≡ t → (t ≡ true → k ≡ true) → find test (filter kept xs) ≡ find test xs → find test (cond k (x ∷ filter kept xs) (filter kept xs)) ≡ cond t (Some x) (find test xs)
    by true t e g rest = ap (λ b. cond b (Some x) (find test (filter kept xs))) e ∙ ap (λ r. cond t (Some x) r) rest
    by false true e g rest = false-true (g refl)
    by false false e g rest = rest

abbrev pub or_found : {X : Type 0} → Option X → Option X → Option X
or_found None other = other
or_found (Some x) other = Some x

pub find-append : {X : Type 0} (test : X → Bool) (xs ys : List X) → find test (xs ++ ys) ≡ or_found (find test xs) (find test ys)
find-append test [] ys = refl
find-append test (x ∷ xs) ys = by (test x) (find-append test xs ys)
  where
    by : (b : Bool) → find test (xs ++ ys) ≡ or_found (find test xs) (find test ys) → cond b (Some x) (find test (xs ++ ys)) ≡ or_found (cond b (Some x) (find test xs)) (find test ys)
    by true e = refl
    by false e = e

pub any-find : {X : Type 0} (test : X → Bool) (xs : List X) → list_any test xs ≡ is_some (find test xs)
any-find test [] = refl
any-find test (x ∷ xs) = by (test x) (any-find test xs)
  where
    by : (b : Bool) → list_any test xs ≡ is_some (find test xs) → (b || list_any test xs) ≡ is_some (cond b (Some x) (find test xs))
    by true e = refl
    by false e = e

-- what is found passes
pub find-passes : {X : Type 0} (test : X → Bool) (xs : List X) (x : X) → find test xs ≡ Some x → test x ≡ true
find-passes test [] x e = cc e
find-passes test (y ∷ ys) x e = by (test y) refl (find-passes test ys x) e
  where
    by : (b : Bool) → test y ≡ b → (find test ys ≡ Some x → test x ≡ true) → cond b (Some y) (find test ys) ≡ Some x → test x ≡ true
    by true t rest h = let same : y ≡ x = cc h in ap test (sym same) ∙ t
    by false t rest h = rest h
