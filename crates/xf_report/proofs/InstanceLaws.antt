-- The lines of the instances, one instance more.
use Rattle.std.proofs.Common.{◌≡◌, ℕ, suc, ◌+◌, ◌-◌, ◌<◌, List, ◌∷◌, ◌++◌, sym, ap, ◌∙◌, append_assoc, arith}
use Rattle.std.specs.List.{flat_map}
use Rattle.xf_def_machine.specs.Cycles.{counted_from}

pub counted-more : (place count : ℕ) → place < count → counted_from place (count - place) ≡ place ∷ counted_from (place + 1) (count - (place + 1))
counted-more place count h =
    let one : count - place ≡ suc (count - (place + 1)) = omega arith in
    let next : suc place ≡ place + 1 = omega arith in
    ap (counted_from place) one ∙ ap (λ k. place ∷ counted_from k (count - (place + 1))) next

pub blocks-more : (g : ℕ → List ℕ) (old new total : List ℕ) (place count : ℕ) → place < count → new ≡ old ++ g place → old ++ flat_map g (counted_from place (count - place)) ≡ total → new ++ flat_map g (counted_from (place + 1) (count - (place + 1))) ≡ total
blocks-more g old new total place count h e t =
    ap (λ l. l ++ flat_map g (counted_from (place + 1) (count - (place + 1)))) e
    ∙ append_assoc old (g place) (flat_map g (counted_from (place + 1) (count - (place + 1))))
    ∙ ap (λ l. old ++ l) (sym (ap (flat_map g) (counted-more place count h))) ∙ t
