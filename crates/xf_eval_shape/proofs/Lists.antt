-- Lists of pieces: what is made of each item, in turn.
use Rattle.std.proofs.Common.{◌≡◌, ℕ, ◌==◌, Bool, true, false, cond, ◌||◌, List, [], ◌∷◌, ◌++◌, map, Some, refl, sym, ap, ◌∙◌, append_assoc}
use Rattle.std.specs.Prelude.{filter}
use Rattle.std.specs.List.{flat_map}
use Rattle.std.proofs.lemmas.Bool.{eqb-true}
use Rattle.xf_def_forest.specs.Visit.{Visit, has}
use Rattle.xf_def_forest.proofs.BackLaws.{and-true, not-true}
use Rattle.xf_def_xpath.specs.Asked.{found}
use Rattle.xf_def_xpath.specs.Agree.{numbers_of, are_apart}
use Rattle.xf_def_xpath.proofs.VisitFacts.{some-same, none-some, filter-append, turned, no}
use Rattle.xf_def_xpath.proofs.ForestVisits.{Each}
use Rattle.xf_eval_shape.proofs.Filled.{append-none}

pub flat-append : {X Y : Type 0} (f : X → List Y) (xs ys : List X) → flat_map f (xs ++ ys) ≡ flat_map f xs ++ flat_map f ys
flat-append f [] ys = refl
flat-append f (x ∷ xs) ys = ap (λ l. f x ++ l) (flat-append f xs ys) ∙ sym (append_assoc (f x) (flat_map f xs) (flat_map f ys))

pub flat-each : {X Y : Type 0} (f g : X → List Y) (xs : List X) → Each (λ x. f x ≡ g x) xs → flat_map f xs ≡ flat_map g xs
flat-each f g [] h = refl
flat-each f g (x ∷ xs) h = ap (λ l. l ++ flat_map f xs) h.0 ∙ ap (λ l. g x ++ l) (flat-each f g xs h.1)

pub filter-flat : {X Y : Type 0} (p : Y → Bool) (f : X → List Y) (xs : List X) → filter p (flat_map f xs) ≡ flat_map (λ x. filter p (f x)) xs
filter-flat p f [] = refl
filter-flat p f (x ∷ xs) = filter-append p (f x) (flat_map f xs) ∙ ap (λ l. filter p (f x) ++ l) (filter-flat p f xs)

map-append : {X Y : Type 0} (f : X → Y) (xs ys : List X) → map f (xs ++ ys) ≡ map f xs ++ map f ys
map-append f [] ys = refl
map-append f (x ∷ xs) ys = ap (λ l. f x ∷ l) (map-append f xs ys)

pub map-flat : {X Y Z : Type 0} (g : Y → Z) (f : X → List Y) (xs : List X) → map g (flat_map f xs) ≡ flat_map (λ x. map g (f x)) xs
map-flat g f [] = refl
map-flat g f (x ∷ xs) = map-append g (f x) (flat_map f xs) ∙ ap (λ l. map g (f x) ++ l) (map-flat g f xs)

-- of what is left out nothing is made
pub flat-filter : {X Y : Type 0} (p : X → Bool) (f : X → List Y) (xs : List X) → flat_map f (filter p xs) ≡ flat_map (λ x. cond (p x) (f x) []) xs
flat-filter p f [] = refl
flat-filter p f (x ∷ xs) = by (p x) (flat-filter p f xs)
  where
    by : (b : Bool) → flat_map f (filter p xs) ≡ flat_map (λ y. cond (p y) (f y) []) xs → flat_map f (cond b (x ∷ filter p xs) (filter p xs)) ≡ cond b (f x) [] ++ flat_map (λ y. cond (p y) (f y) []) xs
    by true h = ap (λ l. f x ++ l) h
    by false h = h

-- one item alone counts
none-there : {Y : Type 0} (k : ℕ) (f : Visit → List Y) (ys : List Visit) → has k (numbers_of ys) ≡ false → flat_map (λ y. cond (k == y.number) (f y) []) ys ≡ []
none-there k f [] h = refl
none-there k f (y ∷ ys) h = by (k == y.number) h (none-there k f ys)
  where
    by : (b : Bool) → (b || has k (numbers_of ys)) ≡ false → (has k (numbers_of ys) ≡ false → flat_map (λ z. cond (k == z.number) (f z) []) ys ≡ []) → cond b (f y) [] ++ flat_map (λ z. cond (k == z.number) (f z) []) ys ≡ []
    by true i below = no (sym i)
    by false i below = below i

pub flat-one : {Y : Type 0} (k : ℕ) (f : Visit → List Y) (ys : List Visit) (x : Visit) → are_apart (numbers_of ys) ≡ true → found k ys ≡ Some x → flat_map (λ y. cond (k == y.number) (f y) []) ys ≡ f x
flat-one k f [] x a e = none-some e
flat-one k f (y ∷ ys) x a e = ap (λ b. cond b (f y) [] ++ flat_map (λ z. cond (k == z.number) (f z) []) ys) (turned k y.number) ∙ by (y.number == k) refl e (flat-one k f ys x (and-true _ _ a).1)
  where
    by : (b : Bool) → (y.number == k) ≡ b → cond b (Some y) (found k ys) ≡ Some x → (found k ys ≡ Some x → flat_map (λ z. cond (k == z.number) (f z) []) ys ≡ f x) → cond b (f y) [] ++ flat_map (λ z. cond (k == z.number) (f z) []) ys ≡ f x
    by true i j below =
        ap (λ l. f y ++ l) (none-there k f ys (ap (λ n. has n (numbers_of ys)) (sym (eqb-true y.number k i)) ∙ not-true (has y.number (numbers_of ys)) (and-true _ _ a).0))
        ∙ append-none (f y)
        ∙ ap f (some-same j)
    by false i j below = below j
