-- Known bytes over several steps.
use Rattle.std.proofs.Common.{◌-◌, length-append, ◌+◌, ◌<◌, min, length, length-drop, take, drop, arith, ◌≡◌, ℕ, List, [], ◌++◌, sym, ap, ◌∙◌, take_all, take-append-drop}
use Rattle.std.proofs.lemmas.List.{length-take-le, take_at, drop-drop}
use Rattle.std.proofs.Math.ListN.{drop_of_length-le}
use Rattle.std.specs.Prelude.{Result, Ok, Err, OnErr, Option, Some, None}
use Rattle.xf_io.specs.Flushed.{FlushesOn}

-- what `&xs[n..]` is
pub rest_from : (xs : List ℕ) (n : ℕ) → take (length xs - n) (drop n xs) ≡ drop n xs
rest_from xs n = take_all (length xs - n) (drop n xs) (omega (arith, length-drop n xs))

-- a read that copies the front of what is left from a place on
pub read_front : (xs into front : List ℕ) (at most count : ℕ) → count ≡ min (min (length (take (length xs - at) (drop at xs))) (length into)) most → 0 < most
    → front ≡ take count (take (length xs - at) (drop at xs))
    → (drop at xs ≡ take count (front ++ drop count into) ++ drop (at + count) xs) × (count ≡ 0 → 0 < length (front ++ drop count into) → drop (at + count) xs ≡ [])
read_front xs into front at most count n some f =
    let rest : take (length xs - at) (drop at xs) ≡ drop at xs = rest_from xs at in
    let is_front : front ≡ take count (drop at xs) = f ∙ ap (take count) rest in
    let size : count ≡ min (min (length xs - at) (length into)) most = n ∙ ap (λ l. min (min (length l) (length into)) most) rest ∙ ap (λ k. min (min k (length into)) most) (length-drop at xs) in
    let front_len : length front ≡ count = ap length is_front ∙ length-take-le count (drop at xs) (omega (arith, length-drop at xs)) in (
      sym (take-append-drop count (drop at xs)) ∙ ap (λ l. l ++ drop count (drop at xs)) (sym is_front) ∙ ap (λ l. l ++ drop count (drop at xs)) (sym (take_at front (drop count into) count front_len)) ∙ ap (λ l. take count (front ++ drop count into) ++ l) (drop-drop count at xs),
      λ none room. drop_of_length-le xs (omega (arith, length-append front (drop count into), length-drop count into)),
    )

pub on_err : {T E : Type 0} (r : Result T E) (P : Type 0) → P → OnErr r P
on_err (Ok x) P p = tt
on_err (Err e) P p = p

pub flushes-refl : (a : Option ℕ) → FlushesOn a a
flushes-refl None = tt
flushes-refl (Some n) = omega arith

pub flushes-trans : (a b c : Option ℕ) → FlushesOn a b → FlushesOn b c → FlushesOn a c
flushes-trans None b c p q = tt
flushes-trans (Some x) None c p q = absurd p
flushes-trans (Some x) (Some y) None p q = absurd q
flushes-trans (Some x) (Some y) (Some z) p q = omega (arith, p, q)
