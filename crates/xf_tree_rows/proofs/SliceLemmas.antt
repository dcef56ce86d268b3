-- The rows from one place to before another.
use Rattle.std.proofs.Common.{◌≡◌, ℕ, ◌+◌, ◌-◌, ◌<◌, ◌≤◌, List, length, take, drop, get_or, sym, ap, ◌∙◌, arith, length-take}
use Rattle.std.proofs.lemmas.List.{drop-take, get_or-take, get_or-drop, drop-drop}

-- a place in the slice is before its end
pub within : {A : Type 0} (from to at : ℕ) (xs : List A) → from ≤ to → at < length (take (to - from) (drop from xs)) → from + at < to
within from to at xs h lt = omega (arith, length-take (to - from) (drop from xs))

-- what stands at a place of the slice
pub taken : {A : Type 0} (from to at : ℕ) (xs : List A) (a : A) → at < length (take (to - from) (drop from xs)) → get_or xs (from + at) a ≡ get_or (take (to - from) (drop from xs)) at a
taken from to at xs a lt =
    let below : at < to - from = omega (arith, length-take (to - from) (drop from xs)) in
    sym (get_or-take (to - from) (drop from xs) at a below ∙ get_or-drop from xs at a)

-- without the first ones of the slice
pub skipped : {A : Type 0} (from to count : ℕ) (xs : List A) → from ≤ to → count ≤ length (take (to - from) (drop from xs)) → take (to - (from + count)) (drop (from + count) xs) ≡ drop count (take (to - from) (drop from xs))
skipped from to count xs h le =
    let few : count ≤ to - from = omega (arith, length-take (to - from) (drop from xs)) in
    let rest : count + (to - (from + count)) ≡ to - from = omega arith in
    ap (take (to - (from + count))) (ap (λ k. drop k xs) (omega arith) ∙ sym (drop-drop count from xs))
    ∙ sym (drop-take count (to - (from + count)) (drop from xs))
    ∙ ap (λ k. drop count (take k (drop from xs))) rest
