-- The first bad element, one type after the other.
use Rattle.std.proofs.Common.{◌≡◌, ℕ, suc, ◌+◌, ◌<◌, List, ◌∷◌, length, get_or, take, drop, sym, ap, ◌∙◌, arith}
use Rattle.std.proofs.lemmas.List.{drop_more}
use Rattle.xf_schema.specs.declared.written.Restriction.{Restriction}
use Rattle.xf_schema.specs.Faults.{bad_in, first_bad_from, or_next}

pub first-more : (types : List Restriction) (n : ℕ) (r : Restriction) → n < length types → r ≡ get_or types n r
    → first_bad_from types n (drop n types) ≡ or_next (bad_in types (take n types) r) (first_bad_from types (n + 1) (drop (n + 1) types))
first-more types n r l is =
    ap (first_bad_from types n) (drop_more types n r l ∙ ap (λ x. x ∷ drop (n + 1) types) (sym is))
    ∙ ap (λ k. or_next (bad_in types (take n types) r) (first_bad_from types k (drop (n + 1) types))) (let j : suc n ≡ n + 1 = omega arith in j)
