-- Attributes in the order of their written names stay so where they are put in order.
use Rattle.std.proofs.Common.{◌≡◌, Bool, true, false, cond, List, [], ◌∷◌, Ordering, Less, Equal, Greater, refl, sym, ap, ◌∙◌}
use Rattle.std.specs.Ordering.{nat_cmp, is_lt, ordering_reverse}
use Rattle.std.specs.Cmp.Lexicographic.{slice_cmp}
use Rattle.std.proofs.lemmas.Cmp.{nat_list_cmp_total}
use Rattle.std.specs.Prelude.{ℕ}
use Rattle.xf_def_forest.specs.declared.content.Content.{Content}
use Rattle.xf_def_forest.specs.Plant.{is_less, written_of, in_place, in_order}

-- none is less than the one before it
abbrev pub IsSorted : List Content → Type 0
IsSorted [] = Unit {0}
IsSorted (x ∷ []) = Unit {0}
IsSorted (x ∷ y ∷ ys) = (is_less (written_of y) (written_of x) ≡ false) × IsSorted (y ∷ ys)

pub sorted-stays : (xs : List Content) → IsSorted xs → in_order xs ≡ xs
sorted-stays [] h = refl
sorted-stays (x ∷ []) h = refl
sorted-stays (x ∷ y ∷ ys) h = ap (in_place x) (sorted-stays (y ∷ ys) h.1) ∙ ap (λ b. cond b (y ∷ in_place x ys) (x ∷ y ∷ ys)) h.0

less-less : (o : Ordering) → is_lt o ≡ true → is_lt (ordering_reverse o) ≡ false
less-less Less h = refl
less-less Equal h = refl
less-less Greater h = sym h

one-less : (xs ys : List ℕ) → is_less xs ys ≡ true → is_less ys xs ≡ false
one-less xs ys h = ap is_lt (nat_list_cmp_total.antisymm ys xs) ∙ less-less (slice_cmp nat_cmp xs ys) h

place-sorted : (c : Content) (xs : List Content) → IsSorted xs → IsSorted (in_place c xs)
place-sorted c [] h = tt
place-sorted c (x ∷ []) h = by (is_less (written_of x) (written_of c)) refl
  where
    by : (b : Bool) → is_less (written_of x) (written_of c) ≡ b → IsSorted (cond b (x ∷ c ∷ []) (c ∷ x ∷ []))
    by true e = (one-less (written_of x) (written_of c) e, tt)
    by false e = (e, tt)
place-sorted c (x ∷ y ∷ ys) h = by (is_less (written_of x) (written_of c)) refl (place-sorted c (y ∷ ys) h.1)
  where
    later : (b : Bool) → is_less (written_of y) (written_of c) ≡ b → is_less (written_of x) (written_of c) ≡ true → IsSorted (cond b (y ∷ in_place c ys) (c ∷ y ∷ ys)) → IsSorted (x ∷ cond b (y ∷ in_place c ys) (c ∷ y ∷ ys))
    later true e f i = (h.0, i)
    later false e f i = (one-less (written_of x) (written_of c) f, i)

    by : (b : Bool) → is_less (written_of x) (written_of c) ≡ b → IsSorted (in_place c (y ∷ ys)) → IsSorted (cond b (x ∷ in_place c (y ∷ ys)) (c ∷ x ∷ y ∷ ys))
    by true e i = later (is_less (written_of y) (written_of c)) refl e i
    by false e i = (e, h)

pub order-sorted : (xs : List Content) → IsSorted (in_order xs)
order-sorted [] = tt
order-sorted (x ∷ xs) = place-sorted x (in_order xs) (order-sorted xs)
