-- New nodes with the next numbers.
use Rattle.std.proofs.Common.{◌≡◌, ℕ, suc, ◌+◌, ◌<◌, ◌≤◌, not, true, false, cond, List, [], ◌∷◌, length, refl, sym, ap, ◌∙◌, inl, inr, arith}
use Rattle.std.proofs.lemmas.List.Sums.{sum_by-cons}
use Rattle.xf_def_forest.specs.declared.content.Content.{Content}
use Rattle.xf_def_forest.specs.Limits.{node_count, all_size, size_of}
use Rattle.xf_def_forest.specs.Plant.{numbered_from}
use Rattle.xf_tree_contents.proofs.AlikeLemmas.{eq-true}
use Rattle.xf_tree_contents.proofs.FreeLemmas.{same-key}
use Rattle.xf_tree_walks.specs.Nodes.{times, AllPlain, AllTops}
use Rattle.xf_tree_walks.proofs.NodeLemmas.{eq-false}
use Rattle.xf_tree_walks.proofs.CountLemmas.{nodes-cons, sizes-cons}
use Rattle.xf_tree_changes.specs.Trees.{size_of_all}

pub low-times : (n next : ℕ) (cs : List (ℕ × Content)) → n < next → times n (numbered_from next cs) ≡ 0
low-times n next [] h = refl
low-times n next (c ∷ cs) h =
    let e = eq-false next n (λ same. let z : ⊥ = omega arith in z) in
    rw e (omega (arith, low-times n (suc next) cs (omega arith)))

pub high-times : (n next : ℕ) (cs : List (ℕ × Content)) → next + length cs ≤ n → times n (numbered_from next cs) ≡ 0
high-times n next [] h = refl
high-times n next (c ∷ cs) h =
    let e = eq-false next n (λ same. let z : ⊥ = omega arith in z) in
    rw e (omega (arith, high-times n (suc next) cs (omega arith)))

pub new-times : (n next : ℕ) (cs : List (ℕ × Content)) → times n (numbered_from next cs) ≤ 1
new-times n next [] = omega arith
new-times n next (c ∷ cs) = elim (same-key next n) [
  | inl ne ↦ rw (eq-false next n ne) (omega (arith, new-times n (suc next) cs))
  | inr e ↦ rw (eq-true next n e) (omega (arith, low-times n (suc next) cs (omega arith)))
]

pub new-count : (next : ℕ) (cs : List (ℕ × Content)) → AllPlain cs → node_count (numbered_from next cs) ≡ length cs
new-count next [] plain = refl
new-count next (c ∷ cs) plain =
    let one = ap {B = ℕ} (λ b. cond (not b) 1 0) plain.0 in
    omega (arith, nodes-cons (record { number = next; depth = c.0; content = c.1 }) (numbered_from (suc next) cs), new-count (suc next) cs plain.2)

pub new-size : (next : ℕ) (cs : List (ℕ × Content)) → all_size (numbered_from next cs) ≡ size_of_all cs
new-size next [] = refl
new-size next (c ∷ cs) =
    let p : ℕ × Content → ℕ = λ p. size_of p.1 in
    omega (arith, sizes-cons (record { number = next; depth = c.0; content = c.1 }) (numbered_from (suc next) cs), new-size (suc next) cs, sum_by-cons p c cs)

pub new-tops : (next : ℕ) (cs : List (ℕ × Content)) → AllPlain cs → AllTops (numbered_from next cs)
new-tops next [] plain = tt
new-tops next (c ∷ cs) plain = (λ e. absurd (contrary (sym plain.0 ∙ e)), new-tops (suc next) cs plain.2)
  where
    contrary : false ≡ true → ⊥
    contrary e = cc e
