-- One step of the loops that go back over the rows before a place.
use Rattle.std.proofs.Common.{◌≡◌, ℕ, ◌+◌, ◌-◌, ◌<◌, List, [], ◌∷◌, ◌++◌, length, take, drop, reverse, map, get_or, set, ap, ◌∙◌, arith, length-append, length-take, length-drop, add-one, zero, suc, refl}
use Rattle.std.proofs.lemmas.List.{take_more, reverse-append, get_or_default, length-map}
use Rattle.std.proofs.lemmas.List.Edits.{map_over_more}
use Rattle.std.proofs.Math.Seq.{drop-cons}
use Rattle.xf_tree_rows.specs.declared.rows.Row.{Row}
use Rattle.xf_tree_rows.specs.Rows.{raised}

pub reverse-take : {X : Type 0} (xs : List X) (i : ℕ) (d : X) → i < length xs → reverse (take (i + 1) xs) ≡ get_or xs i d ∷ reverse (take i xs)
reverse-take xs i d h = ap reverse (take_more xs i d h) ∙ reverse-append (take i xs) (get_or xs i d ∷ [])

pub raise-step : (by i : ℕ) (xs ys : List Row) (d : Row) (depth : ℕ) → i < length xs → ys ≡ map (raised by) (take i xs) ++ drop i xs
    → depth ≡ (get_or ys i d).depth - by
    → set ys i (record { key = (get_or ys i d).key; size = (get_or ys i d).size; depth = depth }) ≡ map (raised by) (take (i + 1) xs) ++ drop (i + 1) xs
raise-step by i xs ys d depth h e f =
    let l : i < length ys = omega (arith, ap length e, length-append (map (raised by) (take i xs)) (drop i xs), length-map (take i xs) (raised by), length-take i xs, length-drop i xs) in
    rw f (map_over_more (raised by) xs ys i (get_or ys i d) h e (get_or_default ys i d (get_or ys i d) l))

pub split-at : {X : Type 0} (at : ℕ) (xs : List X) (d : X) → at < length xs → drop at xs ≡ get_or xs at d ∷ drop (at + 1) xs
split-at at xs d h = rw add-one (drop-cons xs at d h)

pub map-drop : {X Y : Type 0} (f : X → Y) (n : ℕ) (xs : List X) → map f (drop n xs) ≡ drop n (map f xs)
map-drop f zero xs = refl
map-drop f (suc n) [] = refl
map-drop f (suc n) (x ∷ xs) = map-drop f n xs
