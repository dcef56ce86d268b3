-- From what the searches give to what is answered.
use Rattle.std.proofs.Common.{◌≡◌, ℕ, zero, suc, ◌<◌, nat_lt, ◌==◌, ◌||◌, inl, inr, List, [], ◌∷◌, length, sym, ap, ◌∙◌, arith}
use Rattle.std.proofs.lemmas.Bool.{cases_lt, cases_eq, cases_Bool, eq-eqb, ne_eqb, le-ltb, lt-ltb, or_left, ltb-true, false≢true, false_from_ne_true}
use Rattle.xf_graph.specs.Edges.{Adjacency, has, IsWithin}
use Rattle.xf_graph.specs.Order.{IsOrder}
use Rattle.xf_graph.specs.Cycle.{ReadsAlong, HasCycle}
use Rattle.xf_graph.specs.Pertinent.{IsReachedBy, IsPertinent}
use Rattle.xf_graph.specs.Search.{IsOnNoCycle}

-- what all vertices reach is all vertices
module _ (graph : Adjacency) (roots : List ℕ) (within : IsWithin graph) (all : (v : ℕ) → has roots v ≡ nat_lt v (length graph)) where
  reached_within : (edges v : ℕ) → IsReachedBy graph roots edges v → v < length graph
  reached_within zero v r = ltb-true v (length graph) (sym (all v) ∙ r)
  reached_within (suc edges) v r = (within r.0 v r.2).1

  pub IsOrder-pertinent : (vertices : List ℕ) → IsPertinent graph roots vertices → IsOrder graph vertices
  IsOrder-pertinent vertices p = record {
    all = λ v. elim (cases_Bool (nat_lt v (length graph))) [
      | inl e ↦ (p.members v).1 (0, all v ∙ e) ∙ sym e
      | inr e ↦ false_from_ne_true (has vertices v) (λ h.
          let r = (p.members v).0 h in
          let l = reached_within r.0 v r.1 in
          false≢true (sym e ∙ lt-ltb v (length graph) l)) ∙ sym e
    ];
    once = p.once;
    reads_back = p.reads_back;
  }

-- where no vertex below the size lies on a cycle, there is none
first_within : (graph : Adjacency) → IsWithin graph → (reader v : ℕ) (rest : List ℕ) → ReadsAlong graph reader rest v → reader < length graph
first_within graph within reader v [] edge = (within v reader edge).1
first_within graph within reader v (next ∷ rest) along = (within next reader along.0).1

pub none_left : (graph : Adjacency) → IsWithin graph → ((v : ℕ) → v < length graph → IsOnNoCycle graph v) → HasCycle graph → ⊥
none_left graph within none ([], c) = c
none_left graph within none (first ∷ rest, c) = none first (first_within graph within first first rest c) rest c

-- the numbers below one
pub range_of : (n : ℕ) → (all : List ℕ) × ((v : ℕ) → has all v ≡ nat_lt v n)
range_of zero = ([], λ v. sym (le-ltb v 0 (omega arith)))
range_of (suc n) =
    let r = range_of n in (
      n ∷ r.0,
      λ v. elim (cases_eq n v) [
        | inl e ↦ or_left (n == v) (has r.0 v) (eq-eqb n v e) ∙ sym (lt-ltb v (suc n) (omega arith))
        | inr ne ↦ ap (λ b. b || has r.0 v) (ne_eqb n v ne) ∙ r.1 v ∙ elim (cases_lt v n) [
          | inl less ↦ lt-ltb v n less ∙ sym (lt-ltb v (suc n) (omega arith))
          | inr more ↦ le-ltb v n more ∙ sym (le-ltb v (suc n) (omega arith))
        ]
      ],
    )
