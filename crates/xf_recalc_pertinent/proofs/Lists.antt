-- Lists that grow, and what they have.
use Rattle.std.proofs.Common.{◌≡◌, ℕ, zero, suc, ◌+◌, ◌<◌, ◌≤◌, ◌==◌, Bool, true, false, cond, ◌&&◌, ◌||◌, ◌⊎◌, inl, inr, List, [], ◌∷◌, ◌++◌, map, take, length, get_or, Some, None, slice_get, refl, sym, ap, ◌∙◌, arith, take-suc}
use Rattle.std.specs.Prelude.{filter}
use Rattle.std.specs.List.{list_any}
use Rattle.std.proofs.lemmas.List.{map-append}
use Rattle.std.proofs.lemmas.List.Folds.{list_any-append}
use Rattle.std.proofs.lemmas.Bool.{eqb-true, false≢true}
use Rattle.std.proofs.lemmas.Bool.Decides.{nat_tests}
use Rattle.xf_def_forest.specs.Visit.{has}
use Rattle.xf_def_forest.specs.declared.node.NodeId.{NodeId}
use Rattle.xf_recalc_pertinent.specs.Spread.{Grown, Hears}

-- ---- truths

pub or-left : (a b : Bool) → a ≡ true → (a || b) ≡ true
or-left true b h = refl
or-left false b h = absurd (false≢true h)

pub or-right : (a b : Bool) → b ≡ true → (a || b) ≡ true
or-right true b h = refl
or-right false b h = h

pub or-cases : (a b : Bool) → (a || b) ≡ true → (a ≡ true) ⊎ (b ≡ true)
or-cases true b h = inl refl
or-cases false b h = inr h

pub and-both : (a b : Bool) → a ≡ true → b ≡ true → (a && b) ≡ true
and-both true b h i = i
and-both false b h i = absurd (false≢true h)

pub and-parts : (a b : Bool) → (a && b) ≡ true → (a ≡ true) × (b ≡ true)
and-parts true b h = (refl, h)
and-parts false b h = absurd (false≢true h)

pub or-third : (a b c : Bool) → (a || (b || c)) ≡ ((b || a) || c)
or-third true true c = refl
or-third true false c = refl
or-third false true c = refl
or-third false false c = refl

or-turned : (a b : Bool) → (a || (b || false)) ≡ (b || a)
or-turned true true = refl
or-turned true false = refl
or-turned false true = refl
or-turned false false = refl

pub turned : (a b : ℕ) → (a == b) ≡ (b == a)
turned a b = grind (arith, nat_tests)

pub next-is : (i : ℕ) → i + 1 ≡ suc i
next-is i = omega arith

-- ---- items

pub none-some : {X : Type 0} {x : X} {P : Type 0} → None ≡ Some x → P
none-some h = cc h

pub some-same : {X : Type 0} {x y : X} → Some x ≡ Some y → x ≡ y
some-same h = cc h

pub got-within : {X : Type 0} (xs : List X) (i : ℕ) (x : X) → slice_get xs i ≡ Some x → i < length xs
got-within [] i x h = none-some h
got-within (y ∷ ys) zero x h = omega arith
got-within (y ∷ ys) (suc i) x h = (let l = got-within ys i x h in omega arith)

pub past-got : {X : Type 0} (xs : List X) (i : ℕ) → None ≡ slice_get xs i → length xs ≤ i
past-got [] i h = omega arith
past-got (x ∷ xs) zero h = none-some h
past-got (x ∷ xs) (suc i) h = (let l = past-got xs i h in omega arith)

pub none-or : {X : Type 0} (xs : List X) (i : ℕ) (d : X) → None ≡ slice_get xs i → d ≡ get_or xs i d
none-or [] i d h = refl
none-or (x ∷ xs) zero d h = none-some h
none-or (x ∷ xs) (suc i) d h = none-or xs i d h

pub got-first : {X : Type 0} (xs ys : List X) (i : ℕ) → i < length xs → slice_get (xs ++ ys) i ≡ slice_get xs i
got-first [] ys i l = absurd (omega arith)
got-first (x ∷ xs) ys zero l = refl
got-first (x ∷ xs) ys (suc i) l = got-first xs ys i (omega arith)

pub got-read : {X : Type 0} (xs : List X) (i : ℕ) (x d : X) → slice_get xs i ≡ Some x → get_or xs i d ≡ x
got-read [] i x d h = none-some h
got-read (y ∷ ys) zero x d h = some-same h
got-read (y ∷ ys) (suc i) x d h = got-read ys i x d h

-- what is there has a place
pub has-got : (n : ℕ) (ns : List ℕ) → has n ns ≡ true → (i : ℕ) × (slice_get ns i ≡ Some n)
has-got n [] h = absurd (false≢true h)
has-got n (m ∷ ms) h = elim (or-cases (n == m) (has n ms) h) [
  | inl e ↦ (0, ap Some (sym (eqb-true n m e)))
  | inr r ↦ let f = has-got n ms r in (suc f.0, f.1)
]

pub got-has : (n i : ℕ) (ns : List ℕ) → slice_get ns i ≡ Some n → has n ns ≡ true
got-has n i [] h = none-some h
got-has n zero (m ∷ ms) h = or-left (n == m) (has n ms) (let e : m ≡ n = some-same h in let s : (n == m) ≡ true = grind (arith, nat_tests, e) in s)
got-has n (suc i) (m ∷ ms) h = or-right (n == m) (has n ms) (got-has n i ms h)

-- ---- one more

pub any-next : {X Y : Type 0} (p : Y → Bool) (f : X → Y) (xs : List X) (i : ℕ) (d : X) → i < length xs → list_any p (map f (take (i + 1) xs)) ≡ (p (f (get_or xs i d)) || list_any p (map f (take i xs)))
any-next p f xs i d within =
    ap (λ j. list_any p (map f (take j xs))) (next-is i)
    ∙ ap (λ l. list_any p (map f l)) (take-suc xs i d within)
    ∙ ap (list_any p) (map-append f (take i xs) (get_or xs i d ∷ []))
    ∙ list_any-append p (map f (take i xs)) (f (get_or xs i d) ∷ [])
    ∙ or-turned (list_any p (map f (take i xs))) (p (f (get_or xs i d)))

pub has-next : (n : ℕ) (xs : List ℕ) (i d : ℕ) → i < length xs → has n (take (i + 1) xs) ≡ ((n == get_or xs i d) || has n (take i xs))
has-next n xs i d within =
    ap (λ j. has n (take j xs)) (next-is i)
    ∙ ap (has n) (take-suc xs i d within)
    ∙ list_any-append (λ m. n == m) (take i xs) (get_or xs i d ∷ [])
    ∙ or-turned (has n (take i xs)) (n == get_or xs i d)

pub numbers-next : (n : ℕ) (nodes : List NodeId) (i : ℕ) (d : NodeId) → i < length nodes
    → has n (map (λ (x : NodeId). x.number) (take (i + 1) nodes)) ≡ (((get_or nodes i d).number == n) || has n (map (λ (x : NodeId). x.number) (take i nodes)))
numbers-next n nodes i d within =
    any-next (λ m. n == m) (λ (x : NodeId). x.number) nodes i d within
    ∙ ap (λ b. b || has n (map (λ (x : NodeId). x.number) (take i nodes))) (turned n (get_or nodes i d).number)

-- ---- how many pass

filter-end : {X : Type 0} (p : X → Bool) (xs : List X) (x : X) → length (filter p (xs ++ x ∷ [])) ≡ length (filter p xs) + cond (p x) 1 0
filter-end p [] x = by (p x)
  where
    by : (b : Bool) → length (cond b (x ∷ []) []) ≡ 0 + cond b 1 0
    by true = omega arith
    by false = omega arith
filter-end p (y ∷ ys) x = by (p y) (filter-end p ys x)
  where
    by : (b : Bool) → length (filter p (ys ++ x ∷ [])) ≡ length (filter p ys) + cond (p x) 1 0
        → length (cond b (y ∷ filter p (ys ++ x ∷ [])) (filter p (ys ++ x ∷ []))) ≡ length (cond b (y ∷ filter p ys) (filter p ys)) + cond (p x) 1 0
    by true e = omega (arith, e)
    by false e = e

pub filter-next : {X : Type 0} (p : X → Bool) (xs : List X) (i : ℕ) (d : X) → i < length xs → length (filter p (take (i + 1) xs)) ≡ length (filter p (take i xs)) + cond (p (get_or xs i d)) 1 0
filter-next p xs i d within =
    ap (λ j. length (filter p (take j xs))) (next-is i) ∙ ap (λ l. length (filter p l)) (take-suc xs i d within) ∙ filter-end p (take i xs) (get_or xs i d)

pub filter-few : {X : Type 0} (p : X → Bool) (i : ℕ) (xs : List X) → length (filter p (take i xs)) ≤ i
filter-few p zero xs = omega arith
filter-few p (suc i) [] = omega arith
filter-few p (suc i) (x ∷ xs) = by (p x) (filter-few p i xs)
  where
    by : (b : Bool) → length (filter p (take i xs)) ≤ i → length (cond b (x ∷ filter p (take i xs)) (filter p (take i xs))) ≤ suc i
    by true l = omega (arith, l)
    by false l = omega (arith, l)

-- ---- numbers that come

append-none : {X : Type 0} (xs : List X) → xs ++ [] ≡ xs
append-none [] = refl
append-none (x ∷ xs) = ap (λ l. x ∷ l) (append-none xs)

together : {X : Type 0} (xs ys zs : List X) → (xs ++ ys) ++ zs ≡ xs ++ (ys ++ zs)
together [] ys zs = refl
together (x ∷ xs) ys zs = ap (λ l. x ∷ l) (together xs ys zs)

pub grown-none : (ns : List ℕ) → Grown ns ns
grown-none ns = ([], sym (append-none ns))

pub grown-more : (old mid new : List ℕ) → Grown old mid → Grown mid new → Grown old new
grown-more old mid new h k = (h.0 ++ k.0, k.1 ∙ ap (λ l. l ++ k.0) h.1 ∙ together old h.0 k.0)

-- what stood stands where it stood
pub grown-got : (old new : List ℕ) (i : ℕ) → Grown old new → i < length old → slice_get new i ≡ slice_get old i
grown-got old new i h l = ap (λ ns. slice_get ns i) h.1 ∙ got-first old h.0 i l

pub hears-none : (ns : List ℕ) (none : ℕ → Bool) → ((n : ℕ) → none n ≡ false) → Hears ns ns none
hears-none ns none h = record { grown = grown-none ns; members = λ n. ap (λ b. b || has n ns) (sym (h n)) }

pub hears-more : (old mid new : List ℕ) (first second both : ℕ → Bool) → Hears old mid first → Hears mid new second → ((n : ℕ) → both n ≡ (second n || first n)) → Hears old new both
hears-more old mid new first second both h k e = record {
  grown = grown-more old mid new h.grown k.grown;
  members = λ n. k.members n ∙ ap (λ b. second n || b) (h.members n) ∙ or-third (second n) (first n) (has n old) ∙ ap (λ b. b || has n old) (swapped (second n) (first n) ∙ sym (e n));
}
  where
    swapped : (a b : Bool) → (b || a) ≡ (a || b)
    swapped true true = refl
    swapped true false = refl
    swapped false true = refl
    swapped false false = refl

pub hears-same : (old new : List ℕ) (one other : ℕ → Bool) → Hears old new one → ((n : ℕ) → one n ≡ other n) → Hears old new other
hears-same old new one other h e = record { grown = h.grown; members = λ n. h.members n ∙ ap (λ b. b || has n old) (e n) }

pub there-has : (ns : List ℕ) (i d : ℕ) → i < length ns → has (get_or ns i d) ns ≡ true
there-has [] i d l = absurd (omega arith)
there-has (n ∷ ns) zero d l = or-left (n == n) (has n ns) (let s : (n == n) ≡ true = grind (arith, nat_tests) in s)
there-has (n ∷ ns) (suc i) d l = or-right (get_or ns i d == n) (has (get_or ns i d) ns) (there-has ns i d (omega arith))

pub any-there : {X Y : Type 0} (p : Y → Bool) (f : X → Y) (xs : List X) (i : ℕ) (d : X) → i < length xs → p (f (get_or xs i d)) ≡ true → list_any p (map f xs) ≡ true
any-there p f [] i d l h = absurd (omega arith)
any-there p f (x ∷ xs) zero d l h = or-left (p (f x)) (list_any p (map f xs)) h
any-there p f (x ∷ xs) (suc i) d l h = or-right (p (f x)) (list_any p (map f xs)) (any-there p f xs i d (omega arith) h)

pub any-same : {X : Type 0} (p q : X → Bool) → ((x : X) → p x ≡ q x) → (xs : List X) → list_any p xs ≡ list_any q xs
any-same p q h [] = refl
any-same p q h (x ∷ xs) = ap (λ b. b || list_any p xs) (h x) ∙ ap (λ b. q x || b) (any-same p q h xs)
