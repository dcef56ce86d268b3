-- Reading one thing after another.
use Rattle.std.proofs.Common.{◌≡◌, ◌<◌, ℕ, zero, suc, ◌+◌, ◌-◌, List, [], ◌∷◌, ◌++◌, map, length, Some, None, refl, sym, ◌∙◌, ap, subst, arith, append_assoc}
use Rattle.std.proofs.lemmas.List.{append-nil}
use Rattle.std.specs.Prelude.{Bool, true, ◌&&◌, sum, sum_by}
use Rattle.std.specs.List.{flat_map, list_all, AllByRecursion}
use Rattle.std.proofs.lemmas.Bool.{and_parts, and_from}
use Rattle.std.proofs.lemmas.List.Sums.{sum_by-cons}
use Rattle.xf_snap.specs.Reading.{◌>>=◌, Front, several}
use Rattle.xf_snap.proofs.NumberLemmas.{IsBytes, Takes, bind_some}

pub takes_then : (a x b y c : List ℕ) → Takes a x b → Takes b y c → Takes a (x ++ y) c
takes_then a x b y c p q = record { parts = p.parts ∙ ap (λ (t : List ℕ). x ++ t) q.parts ∙ sym (append_assoc x y c); rest_fits = q.rest_fits }

-- whatever is read so is spelled so, and has P
abbrev pub Taken : {X : Type 0} → (X → List ℕ) → (List ℕ → Front X) → (X → Type 0) → Type 0
Taken {X} write read P = (bytes : List ℕ) (x : X × List ℕ) → IsBytes bytes → read bytes ≡ Some x → Takes bytes (write x.0) x.1 × P x.0

-- what is spelled so is read again, before any bytes
abbrev pub Again : {X : Type 0} → (X → List ℕ) → (List ℕ → Front X) → X → Type 0
Again write read x = (rest : List ℕ) → read (write x ++ rest) ≡ Some (x, rest)

pub several_take : {X : Type 0} (write : X → List ℕ) (read : List ℕ → Front X) (P : X → Type 0) → Taken write read P → (count : ℕ) (bytes : List ℕ) (x : List X × List ℕ) → IsBytes bytes → several read count bytes ≡ Some x
    → Takes bytes (flat_map write x.0) x.1 × (length x.0 ≡ count) × AllByRecursion P x.0
unfolding several
several_take {X} write read P takes zero bytes x fits is =
    let same : ([], bytes) ≡ x = some_same ([], bytes) x is in
    subst (λ (y : List X × List ℕ). Takes bytes (flat_map write y.0) y.1 × (length y.0 ≡ 0) × AllByRecursion P y.0) same (record { parts = refl; rest_fits = fits }, refl, tt)
  where
    some_same : (a b : List X × List ℕ) → Some a ≡ Some b → a ≡ b
    some_same a b e = cc
several_take {X} write read P takes (suc count) bytes x fits is =
    let a = bind_some (read bytes) (λ first. several read count first.1 >>= λ others. Some (first.0 ∷ others.0, others.1)) x is in
    let b = bind_some (several read count a.0.1) (λ others. Some (a.0.0 ∷ others.0, others.1)) x a.2 in
    let first = takes bytes a.0 fits a.1 in
    let others = several_take write read P takes count a.0.1 b.0 first.0.rest_fits b.1 in
    let both = takes_then bytes (write a.0.0) a.0.1 (flat_map write b.0.0) b.0.1 first.0 others.0 in
    let same : (a.0.0 ∷ b.0.0, b.0.1) ≡ x = some_same (a.0.0 ∷ b.0.0, b.0.1) x b.2 in
    subst (λ (y : List X × List ℕ). Takes bytes (flat_map write y.0) y.1 × (length y.0 ≡ suc count) × AllByRecursion P y.0) same (both, ap suc others.1, (first.1, others.2))
  where
    some_same : (a b : List X × List ℕ) → Some a ≡ Some b → a ≡ b
    some_same a b e = cc

pub several_again : {X : Type 0} (write : X → List ℕ) (read : List ℕ → Front X) (xs : List X) → AllByRecursion (Again write read) xs → (rest : List ℕ) → several read (length xs) (flat_map write xs ++ rest) ≡ Some (xs, rest)
unfolding several
several_again write read [] each rest = refl
several_again {X} write read (x ∷ xs) each rest =
    let split : flat_map write (x ∷ xs) ++ rest ≡ write x ++ (flat_map write xs ++ rest) = append_assoc (write x) (flat_map write xs) rest in
    let first : read (flat_map write (x ∷ xs) ++ rest) ≡ Some (x, flat_map write xs ++ rest) = ap read split ∙ each.0 (flat_map write xs ++ rest) in
    let others = several_again write read xs each.1 rest in
    ap (λ (o : Front X). o >>= λ first. several read (length xs) first.1 >>= λ others. Some (first.0 ∷ others.0, others.1)) first
    ∙ ap (λ (o : Front (List X)). o >>= λ others. Some (x ∷ others.0, others.1)) others

-- ---- facts of each of a list

pub each_all : {X : Type 0} (p : X → Bool) (xs : List X) → AllByRecursion (λ x. p x ≡ true) xs → list_all p xs ≡ true
each_all p [] each = refl
each_all p (x ∷ xs) each = and_from (p x) (list_all p xs) each.0 (each_all p xs each.1)

pub all_each : {X : Type 0} (p : X → Bool) (xs : List X) → list_all p xs ≡ true → AllByRecursion (λ x. p x ≡ true) xs
all_each p [] all = tt
all_each p (x ∷ xs) all = let both = and_parts (p x) (list_all p xs) all in (both.0, all_each p xs both.1)

pub each_in : {X : Type 0} (P Q : X → Type 0) (xs : List X) → ((x : X) → P x → Q x) → AllByRecursion P xs → AllByRecursion Q xs
each_in P Q [] wider each = tt
each_in P Q (x ∷ xs) wider each = (wider x each.0, each_in P Q xs wider each.1)

pub each_both : {X : Type 0} (P Q : X → Type 0) (xs : List X) → AllByRecursion P xs → AllByRecursion Q xs → AllByRecursion (λ x. P x × Q x) xs
each_both P Q [] first second = tt
each_both P Q (x ∷ xs) first second = ((first.0, second.0), each_both P Q xs first.1 second.1)

-- no summand is more than the sum
pub each_within : {X : Type 0} (f : X → ℕ) (most : ℕ) (xs : List X) → sum_by f xs < most → AllByRecursion (λ x. f x < most) xs
each_within f most [] small = tt
each_within f most (x ∷ xs) small =
    let sum_is = sum_by-cons f x xs in
    (omega (arith, small, sum_is), each_within f most xs (omega (arith, small, sum_is)))

-- ---- a fold's children

pub flat_map-map : {X Y : Type 0} (f : X → Y) (g : Y → List ℕ) (xs : List X) → flat_map g (map f xs) ≡ flat_map (λ x. g (f x)) xs
flat_map-map f g [] = refl
flat_map-map f g (x ∷ xs) = ap (λ (l : List ℕ). g (f x) ++ l) (flat_map-map f g xs)

pub list_all-map : {X Y : Type 0} (f : X → Y) (p : Y → Bool) (xs : List X) → list_all p (map f xs) ≡ list_all (λ x. p (f x)) xs
list_all-map f p [] = refl
list_all-map f p (x ∷ xs) = ap (λ (b : Bool). p (f x) && b) (list_all-map f p xs)

pub sum-map : {X : Type 0} (f : X → ℕ) (xs : List X) → sum (map f xs) ≡ sum_by f xs
sum-map f [] = refl
sum-map f (x ∷ xs) = sum_by-cons (λ n. n) (f x) (map f xs) ∙ ap (λ (n : ℕ). f x + n) (sum-map f xs) ∙ sym (sum_by-cons f x xs)

-- ---- the loop

-- what was read before, and what is still read
abbrev pub with_front : {X : Type 0} → List X → Front (List X) → Front (List X)
with_front front read = read >>= λ x. Some (front ++ x.0, x.1)

regroup : {X : Type 0} (front : List X) (n : X) (read : Front (List X)) → with_front front (read >>= λ x. Some (n ∷ x.0, x.1)) ≡ with_front (front ++ n ∷ []) read
regroup front n (Some x) = ap (λ (l : List _). Some (l, x.1)) (sym (append_assoc front (n ∷ []) x.0))
regroup front n None = refl

pub goes_on : {X : Type 0} (read : List ℕ → Front X) (front : List X) (left : ℕ) (bytes : List ℕ) (n : X) (after : List ℕ) (total : Front (List X)) → 0 < left → read bytes ≡ Some (n, after)
    → with_front front (several read left bytes) ≡ total → with_front (front ++ n ∷ []) (several read (left - 1) after) ≡ total
unfolding several
goes_on read front zero bytes n after total some is so_far = absurd (omega arith)
goes_on {X} read front (suc left) bytes n after total some is so_far =
    let one : with_front front (several read (suc left) bytes) ≡ with_front (front ++ n ∷ []) (several read left after) =
    ap (λ (o : Front X). with_front front (o >>= λ first. several read left first.1 >>= λ others. Some (first.0 ∷ others.0, others.1))) is ∙ regroup front n (several read left after) in
    let one_less : suc left - 1 ≡ left = omega arith in
    ap (λ (k : ℕ). with_front (front ++ n ∷ []) (several read k after)) one_less ∙ sym one ∙ so_far

pub ends : {X : Type 0} (read : List ℕ → Front X) (front : List X) (left : ℕ) (bytes : List ℕ) (total : Front (List X)) → 0 < left → read bytes ≡ None
    → with_front front (several read left bytes) ≡ total → total ≡ None
unfolding several
ends read front zero bytes total some is so_far = absurd (omega arith)
ends {X} read front (suc left) bytes total some is so_far =
    let one : with_front front (several read (suc left) bytes) ≡ None =
    ap (λ (o : Front X). with_front front (o >>= λ first. several read left first.1 >>= λ others. Some (first.0 ∷ others.0, others.1))) is in
    sym so_far ∙ one

pub is_done : {X : Type 0} (read : List ℕ → Front X) (front : List X) (left : ℕ) (bytes : List ℕ) (total : Front (List X)) → left ≡ 0 → with_front front (several read left bytes) ≡ total → total ≡ Some (front, bytes)
unfolding several
is_done {X} read front left bytes total none so_far =
    let one : with_front front (several read left bytes) ≡ Some (front, bytes) = ap (λ (k : ℕ). with_front front (several read k bytes)) none ∙ ap (λ (l : List X). Some (l, bytes)) (append-nil front) in
    sym so_far ∙ one
