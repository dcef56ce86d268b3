-- A part of a list is moved behind the next one.
use Rattle.std.proofs.Common.{◌≡◌, ℕ, ◌+◌, ◌-◌, ◌≤◌, List, ◌++◌, length, take, drop, append_assoc, sym, ap, ◌∙◌, arith, length-append}
use Rattle.std.proofs.lemmas.List.{take_at, drop_at, take-append-drop, drop-drop, drop-take, take-take}
use Rattle.xf_tree_rows.specs.Rows.{rotated}

drop-two : {X : Type 0} (us bs cs : List X) (to : ℕ) → to ≡ length us + length bs → drop to (us ++ (bs ++ cs)) ≡ cs
drop-two us bs cs to e =
    let l : to ≡ length (us ++ bs) = omega (arith, length-append us bs) in
    ap (drop to) (sym (append_assoc us bs cs)) ∙ drop_at (us ++ bs) cs to (sym l)

pub rotated-parts : {X : Type 0} (us bs cs ds : List X) (at mid end : ℕ) → at ≡ length us → mid ≡ length us + length bs → end ≡ mid + length cs
    → rotated at mid end (us ++ (bs ++ (cs ++ ds))) ≡ us ++ ((cs ++ bs) ++ ds)
rotated-parts us bs cs ds at mid end e f g =
    let l : mid - at ≡ length bs = omega arith in
    let m : end - mid ≡ length cs = omega arith in
    let n : end ≡ length (us ++ bs) + length cs = omega (arith, length-append us bs) in
    let t1 = take_at us (bs ++ (cs ++ ds)) at (sym e) in
    let d1 = drop_at us (bs ++ (cs ++ ds)) at (sym e) in
    let t2 = take_at bs (cs ++ ds) (mid - at) (sym l) in
    let d2 = drop-two us bs (cs ++ ds) mid f in
    let t3 = take_at cs ds (end - mid) (sym m) in
    let d3 = drop-two (us ++ bs) cs ds end n in
    let a = append_assoc us bs (cs ++ ds) in
    cc

from_there : {X : Type 0} (at mid : ℕ) (xs : List X) → at ≤ mid → drop at xs ≡ take (mid - at) (drop at xs) ++ drop mid xs
from_there at mid xs e =
    let s : at + (mid - at) ≡ mid = omega arith in
    sym (take-append-drop (mid - at) (drop at xs)) ∙ ap (λ l. take (mid - at) (drop at xs) ++ l) (drop-drop (mid - at) at xs ∙ ap (λ n. drop n xs) s)

pub parts : {X : Type 0} (at mid end : ℕ) (xs : List X) → at ≤ mid → mid ≤ end
    → xs ≡ take at xs ++ (take (mid - at) (drop at xs) ++ (take (end - mid) (drop mid xs) ++ drop end xs))
parts at mid end xs e f =
    sym (take-append-drop at xs)
    ∙ ap (λ l. take at xs ++ l) (from_there at mid xs e)
    ∙ ap (λ l. take at xs ++ (take (mid - at) (drop at xs) ++ l)) (from_there mid end xs f)

-- after `xs[at..end].rotate_left(mid - at)`
pub turned-rotated : {X : Type 0} (at mid end : ℕ) (xs ys : List X) → at ≤ mid → mid ≤ end
    → ys ≡ drop (mid - at) (take (end - at) (drop at xs)) ++ take (mid - at) (take (end - at) (drop at xs))
    → take at xs ++ (ys ++ drop (end - at) (drop at xs)) ≡ rotated at mid end xs
turned-rotated at mid end xs ys h k e =
    let m = mid - at in
    let n = end - mid in
    let here = drop at xs in
    let sum : end - at ≡ m + n = omega arith in
    let to_mid : at + m ≡ mid = omega arith in
    let to_end : at + (end - at) ≡ end = omega arith in
    let less : m ≤ end - at = omega arith in
    let after : drop m here ≡ drop mid xs = drop-drop m at xs ∙ ap (λ i. drop i xs) to_mid in
    let d : drop m (take (end - at) here) ≡ take n (drop mid xs) = ap (λ i. drop m (take i here)) sum ∙ drop-take m n here ∙ ap (take n) after in
    let t = take-take m (end - at) here less in
    let last : drop (end - at) here ≡ drop end xs = drop-drop (end - at) at xs ∙ ap (λ i. drop i xs) to_end in
    let turned : ys ≡ take n (drop mid xs) ++ take m here = e ∙ ap (λ l. l ++ take m (take (end - at) here)) d ∙ ap (λ l. take n (drop mid xs) ++ l) t in
    ap (λ l. take at xs ++ (l ++ drop (end - at) here)) turned ∙ ap (λ l. take at xs ++ ((take n (drop mid xs) ++ take m here) ++ l)) last
