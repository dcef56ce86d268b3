-- What an axis gives stands in document order, each node once: it is a part of the list of all visits.
use Rattle.std.proofs.Common.{◌≡◌, ℕ, ◌==◌, Bool, true, false, not, cond, ◌&&◌, ◌||◌, List, [], ◌∷◌, map, refl, ap, ◌∙◌, arith}
use Rattle.std.specs.Prelude.{filter}
use Rattle.std.proofs.lemmas.Bool.Decides.{nat_tests}
use Rattle.xf_name.specs.declared.axis.Axis.{Axis}
use Rattle.xf_name.specs.declared.axis.Axis.TheVariants.{Child, Attribute, Self_, Parent, Ancestor, AncestorOrSelf, Descendant, DescendantOrSelf, FollowingSibling, PrecedingSibling}
use Rattle.xf_def_forest.specs.declared.content.Node.{Node}
use Rattle.xf_def_forest.specs.Forest.{Forest, has_number}
use Rattle.xf_def_forest.specs.Visit.{Visit, visits, visits_from, still_above, has}
use Rattle.xf_def_forest.specs.Axis.{before, after, in_range, is_on, on_axis}
use Rattle.xf_def_forest.specs.WellFormed.{HasTrees, are_apart}
use Rattle.xf_def_forest.proofs.BackLaws.{and-true, or-false, not-true}

-- the first list is the second without some of its items
pub data Sub {X : Type 0} : List X → List X → Type 0 where
  done : Sub [] []
  skip : {x : X} {xs ys : List X} → Sub xs ys → Sub xs (x ∷ ys)
  keep : {x : X} {xs ys : List X} → Sub xs ys → Sub (x ∷ xs) (x ∷ ys)

pub sub-none : {X : Type 0} (ys : List X) → Sub [] ys
sub-none [] = done
sub-none (y ∷ ys) = skip (sub-none ys)

pub sub-all : {X : Type 0} (ys : List X) → Sub ys ys
sub-all [] = done
sub-all (y ∷ ys) = keep (sub-all ys)

pub sub-through : {X : Type 0} {xs ys zs : List X} → Sub xs ys → Sub ys zs → Sub xs zs
sub-through p done = p
sub-through p (skip q) = skip (sub-through p q)
sub-through (skip p) (keep q) = skip (sub-through p q)
sub-through (keep p) (keep q) = keep (sub-through p q)

pub filter-sub : {X : Type 0} (p : X → Bool) (xs : List X) → Sub (filter p xs) xs
filter-sub p [] = done
filter-sub p (x ∷ xs) = by (p x) (filter-sub p xs)
  where
    by : (b : Bool) → Sub (filter p xs) xs → Sub (cond b (x ∷ filter p xs) (filter p xs)) (x ∷ xs)
    by true h = keep h
    by false h = skip h

pub map-sub : {X Y : Type 0} (f : X → Y) {xs ys : List X} → Sub xs ys → Sub (map f xs) (map f ys)
map-sub f done = done
map-sub f (skip p) = skip (map-sub f p)
map-sub f (keep p) = keep (map-sub f p)

before-sub : (n : ℕ) (xs : List Visit) → Sub (before n xs) xs
before-sub n [] = done
before-sub n (x ∷ xs) = by (x.number == n) (before-sub n xs)
  where
    by : (b : Bool) → Sub (before n xs) xs → Sub (cond b [] (x ∷ before n xs)) (x ∷ xs)
    by true h = sub-none (x ∷ xs)
    by false h = keep h

after-sub : (n : ℕ) (xs : List Visit) → Sub (after n xs) xs
after-sub n [] = done
after-sub n (x ∷ xs) = by (x.number == n) (after-sub n xs)
  where
    by : (b : Bool) → Sub (after n xs) xs → Sub (cond b xs (after n xs)) (x ∷ xs)
    by true h = skip (sub-all xs)
    by false h = skip h

range-sub : (axis : Axis) (n : ℕ) (xs : List Visit) → Sub (in_range axis n xs) xs
range-sub Child n xs = sub-all xs
range-sub Attribute n xs = sub-all xs
range-sub Self_ n xs = sub-all xs
range-sub Parent n xs = sub-all xs
range-sub Ancestor n xs = sub-all xs
range-sub AncestorOrSelf n xs = sub-all xs
range-sub Descendant n xs = sub-all xs
range-sub DescendantOrSelf n xs = sub-all xs
range-sub FollowingSibling n xs = after-sub n xs
range-sub PrecedingSibling n xs = before-sub n xs

-- in document order
pub axis-in_order : (axis : Axis) (all : List Visit) (x : Visit) → Sub (on_axis axis all x) all
axis-in_order axis all x = sub-through (filter-sub (is_on axis x) (in_range axis x.number all)) (range-sub axis x.number all)

-- ---- no doubles

abbrev pub are_different : List ℕ → Bool
are_different [] = true
are_different (n ∷ ns) = not (has n ns) && are_different ns

both-true : (a b : Bool) → a ≡ true → b ≡ true → (a && b) ≡ true
both-true true b h k = k
both-true false b h k = h

none-of : (b : Bool) → b ≡ false → not b ≡ true
none-of b h = ap not h

pub sub-has : (n : ℕ) {xs ys : List ℕ} → Sub xs ys → has n ys ≡ false → has n xs ≡ false
sub-has n done h = h
sub-has n (skip {x = x} {ys = ys} p) h = sub-has n p (or-false (n == x) (has n ys) h).1
sub-has n (keep {x = x} {xs = xs} {ys = ys} p) h =
    let parts = or-false (n == x) (has n ys) h in
    ap (λ b. b || has n xs) parts.0 ∙ sub-has n p parts.1

pub sub-different : {xs ys : List ℕ} → Sub xs ys → are_different ys ≡ true → are_different xs ≡ true
sub-different done h = h
sub-different (skip {x = x} {ys = ys} p) h = sub-different p (and-true (not (has x ys)) (are_different ys) h).1
sub-different (keep {x = x} {xs = xs} {ys = ys} p) h =
    let parts = and-true (not (has x ys)) (are_different ys) h in
    both-true (not (has x xs)) (are_different xs) (none-of (has x xs) (sub-has x p (not-true (has x ys) parts.0))) (sub-different p parts.1)

turned : (m n : ℕ) → (m == n) ≡ (n == m)
turned m n = grind (arith, nat_tests)

pub seen-has : (n : ℕ) (above xs : List Node) → has n (map (λ v. v.number) (visits_from above xs)) ≡ has_number n xs
seen-has n above [] = refl
seen-has n above (x ∷ xs) =
    ap (λ b. b || has n (map (λ v. v.number) (visits_from (x ∷ still_above x.depth above) xs))) (turned n x.number)
    ∙ ap (λ b. (x.number == n) || b) (seen-has n (x ∷ still_above x.depth above) xs)

seen-different : (above xs : List Node) → are_apart xs ≡ true → are_different (map (λ v. v.number) (visits_from above xs)) ≡ true
seen-different above [] h = refl
seen-different above (x ∷ xs) h =
    let parts = and-true (not (has_number x.number xs)) (are_apart xs) h in
    let stay = x ∷ still_above x.depth above in
    both-true (not (has x.number (map (λ v. v.number) (visits_from stay xs)))) (are_different (map (λ v. v.number) (visits_from stay xs)))
    (ap not (seen-has x.number stay xs) ∙ parts.0) (seen-different stay xs parts.1)

-- the order list has no doubles
pub visits-different : (forest : Forest) → HasTrees forest → are_different (map (λ v. v.number) (visits forest.nodes)) ≡ true
visits-different forest sound = seen-different [] forest.nodes sound.apart

-- and what is on an axis has none
pub axis-different : (axis : Axis) (forest : Forest) (x : Visit) → HasTrees forest → are_different (map (λ v. v.number) (on_axis axis (visits forest.nodes) x)) ≡ true
axis-different axis forest x sound = sub-different (map-sub (λ v. v.number) (axis-in_order axis (visits forest.nodes) x)) (visits-different forest sound)
