-- Lists and their elements by place.
use Rattle.std.proofs.Common.{◌≡◌, ℕ, zero, suc, ◌+◌, ◌<◌, ◌==◌, Bool, true, false, ◌||◌, List, [], ◌∷◌, ◌++◌, map, length, Some, option_map, slice_get, take, drop, get_or, refl, sym, ap, ◌∙◌, arith}
use Rattle.std.specs.List.{list_any}
use Rattle.std.proofs.lemmas.Bool.{or_left, or_right, eq-eqb}
use Rattle.std.proofs.lemmas.List.{take-append-drop, drop_more}
use Rattle.xf_def_xpath.proofs.VisitFacts.{none-some, some-same}
use Rattle.xf_def_model.specs.Applied.{Entry}
use Rattle.xf_def_model.specs.Pertinent.{AllOf}
use Rattle.xf_def_model.proofs.EachLemmas.{each_then, each_both, of_each}
use Rattle.xf_law_recalculation.specs.Agree.InTurn.{AreSingle}
use Rattle.xf_law_recalculation.proofs.AgreeLemmas.TurnLists.{each-none, all-later}

pub got-map : {X Y : Type 0} (f : X → Y) (xs : List X) (k : ℕ) (x : X) → slice_get xs k ≡ Some x → slice_get (map f xs) k ≡ Some (f x)
got-map f [] k x h = none-some h
got-map f (y ∷ ys) zero x h = ap (option_map f) h
got-map f (y ∷ ys) (suc k) x h = got-map f ys k x h

-- a list with what stands before and after a place
pub slice-split : {X : Type 0} (xs : List X) (k : ℕ) (x : X) → slice_get xs k ≡ Some x → (front : List X) × (back : List X) × (xs ≡ front ++ x ∷ back) × (length front ≡ k)
slice-split [] k x h = none-some h
slice-split (y ∷ ys) zero x h = ([], ys, ap (λ z. z ∷ ys) (some-same h), refl)
slice-split (y ∷ ys) (suc k) x h = let s = slice-split ys k x h in (y ∷ s.0, s.1, ap (λ l. y ∷ l) s.2, ap suc s.3)

pub split-at : {X : Type 0} (xs : List X) (k : ℕ) (d : X) → k < length xs → xs ≡ take k xs ++ get_or xs k d ∷ drop (k + 1) xs
split-at xs k d less = sym (take-append-drop k xs) ∙ ap (λ l. take k xs ++ l) (drop_more xs k d less)

pub map-append : {X Y : Type 0} (f : X → Y) (xs ys : List X) → map f (xs ++ ys) ≡ map f xs ++ map f ys
map-append f [] ys = refl
map-append f (x ∷ xs) ys = ap (λ l. f x ∷ l) (map-append f xs ys)

pub all-map : {X Y : Type 0} (P : Y → Type 0) (f : X → Y) (xs : List X) → AllOf (λ x. P (f x)) xs → AllOf P (map f xs)
all-map P f [] h = tt
all-map P f (x ∷ xs) h = (h.0, all-map P f xs h.1)

pub all-first : {X : Type 0} (P : X → Type 0) (xs ys : List X) → AllOf P (xs ++ ys) → AllOf P xs
all-first P [] ys h = tt
all-first P (x ∷ xs) ys h = (h.0, all-first P xs ys h.1)

pub all-got : {X : Type 0} (P : X → Type 0) (xs : List X) (k : ℕ) (d : X) → AllOf P xs → k < length xs → P (get_or xs k d)
all-got P [] k d h less = absurd (omega (arith, less))
all-got P (x ∷ xs) zero d h less = h.0
all-got P (x ∷ xs) (suc k) d h less = all-got P xs k d h.1 (omega (arith, less))

pub any-append : {X : Type 0} (p : X → Bool) (xs ys : List X) → list_any p (xs ++ ys) ≡ (list_any p xs || list_any p ys)
any-append p [] ys = refl
any-append p (x ∷ xs) ys = ap (λ b. p x || b) (any-append p xs ys) ∙ assoc (p x) (list_any p xs) (list_any p ys)
  where
    assoc : (a b c : Bool) → (a || (b || c)) ≡ ((a || b) || c)
    assoc true b c = refl
    assoc false b c = refl

pub any-left : {X : Type 0} (p : X → Bool) (xs ys : List X) → list_any p xs ≡ true → list_any p (xs ++ ys) ≡ true
any-left p xs ys h = any-append p xs ys ∙ or_left (list_any p xs) (list_any p ys) h

pub any-right : {X : Type 0} (p : X → Bool) (xs ys : List X) → list_any p ys ≡ true → list_any p (xs ++ ys) ≡ true
any-right p xs ys h = any-append p xs ys ∙ or_right (list_any p xs) (list_any p ys) h

pub same-self : (n : ℕ) → (n == n) ≡ true
same-self n = eq-eqb n n refl

-- ---- nodes that were done

abbrev pub done_by : List Entry → ℕ → Bool
done_by es n = list_any (λ e. n == e.node) es

pub done-each : (es : List Entry) → AllOf (λ e. done_by es e.node ≡ true) es
done-each [] = tt
done-each (e ∷ es) = (
  or_left (e.node == e.node) (done_by es e.node) (same-self e.node),
  each_then (λ (f : Entry). done_by es f.node ≡ true) _ (λ f h. or_right (f.node == e.node) (done_by es f.node) h) es (done-each es),
)

pub done-none : (bs es : List Entry) → AreSingle (bs ++ es) → AllOf (λ e. done_by bs e.node ≡ false) es
done-none [] es h = of_each (λ (e : Entry). false ≡ false) (λ e. refl) es
done-none (b ∷ bs) es h =
    each_then (λ (e : Entry). ((e.node == b.node) ≡ false) × (done_by bs e.node ≡ false)) _ (λ e i. neither (e.node == b.node) (done_by bs e.node) i.0 i.1) es
    (each_both (λ (e : Entry). (e.node == b.node) ≡ false) (λ (e : Entry). done_by bs e.node ≡ false) es
    (all-later (λ (e : Entry). (e.node == b.node) ≡ false) bs es (each-none (λ (e : Entry). e.node == b.node) (bs ++ es) h.0)) (done-none bs es h.1))
  where
    neither : (a c : Bool) → a ≡ false → c ≡ false → (a || c) ≡ false
    neither a c i j = ap (λ x. x || c) i ∙ j

pub done-more : (bs : List Entry) (e : Entry) (m : ℕ) → ((m == e.node) || done_by bs m) ≡ done_by (bs ++ e ∷ []) m
done-more bs e m = swap (m == e.node) (done_by bs m) ∙ sym (any-append (λ (f : Entry). m == f.node) bs (e ∷ []))
  where
    swap : (a c : Bool) → (a || c) ≡ (c || (a || false))
    swap true true = refl
    swap true false = refl
    swap false true = refl
    swap false false = refl
