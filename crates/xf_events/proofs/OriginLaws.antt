-- The origins of places, gathered one after the other.
use Rattle.std.proofs.Common.{◌≡◌, ℕ, ◌+◌, ◌<◌, ◌≤◌, List, [], ◌∷◌, ◌++◌, map, drop, get_or, length, refl, sym, ap, ◌∙◌, append_assoc}
use Rattle.std.proofs.lemmas.List.{drop_all, drop_more}
use Rattle.xf_actions.specs.Seen.{place_of}
use Rattle.xf_actions.specs.declared.place.Place.{Place}

abbrev pub origins : List Place → List ℕ
origins ps = map (λ q. q.origin) (map place_of ps)

append-none : (ns : List ℕ) → ns ++ [] ≡ ns
append-none [] = refl
append-none (n ∷ ns) = ap (λ l. n ∷ l) (append-none ns)

pub origin-next : (ps : List Place) (i : ℕ) (d : Place) (old new w : List ℕ) → i < length ps → new ≡ old ++ (get_or ps i d).origin.number ∷ []
    → old ++ origins (drop i ps) ≡ w → new ++ origins (drop (i + 1) ps) ≡ w
origin-next ps i d old new w h pushed is =
    let rest = origins (drop (i + 1) ps) in
    ap (λ l. l ++ rest) pushed ∙ append_assoc old ((get_or ps i d).origin.number ∷ []) rest ∙ ap (λ l. old ++ l) (sym (ap origins (drop_more ps i d h))) ∙ is

pub origin-end : (ps : List Place) (i : ℕ) (got w : List ℕ) → length ps ≤ i → got ++ origins (drop i ps) ≡ w → got ≡ w
origin-end ps i got w h is = sym (ap (λ l. got ++ origins l) (drop_all i ps h) ∙ append-none got) ∙ is
