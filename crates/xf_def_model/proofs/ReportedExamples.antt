-- The cycle that is reported, on small data; there is only one such.
use Rattle.std.proofs.Common.{◌≡◌, ℕ, zero, suc, ◌<◌, ◌≤◌, true, inl, inr, List, [], ◌∷◌, length, refl, sym, ap, ◌∙◌, subst, arith}
use Rattle.std.proofs.lemmas.Bool.{cases_lt, false≢true}
use Rattle.xf_def_forest.specs.Visit.{Visit}
use Rattle.xf_def_forest.specs.Shape.{shape_of}
use Rattle.xf_graph.specs.Edges.{Adjacency, has}
use Rattle.xf_graph.specs.Cycle.{ReadsAlong, IsCycle, IsChosen, BeginsWith, IsNotAfter}
use Rattle.xf_graph.proofs.CycleLemmas.{turned}
use Rattle.xf_graph.proofs.Laws.{IsChosen-unique}
use Rattle.xf_def_model.specs.Rules.{Scope}
use Rattle.xf_def_model.specs.Applied.{Entry, all_entries}
use Rattle.xf_def_model.specs.Circular.{calculated, nodes_at, IsReported}
use Rattle.xf_def_model.specs.Examples
use Rattle.xf_def_model.proofs.CircularExamples.{pair, knot}

-- there is one at most
pub IsReported-unique : (scope : Scope) (all : List Visit) (entries : List Entry) (one other : List ℕ) → IsReported scope all entries one → IsReported scope all entries other → one ≡ other
IsReported-unique scope all entries one other a b =
    a.2 ∙ ap (nodes_at (calculated scope all entries)) (IsChosen-unique _ a.0 b.0 a.1 b.1) ∙ sym b.2

-- ---- a cycle is chosen where no lesser vertex lies on one, and no way back from its first vertex is shorter, or less
chosen-by : (graph : Adjacency) (first : ℕ) (rest : List ℕ) → ReadsAlong graph first rest first
    → ((v : ℕ) (way : List ℕ) → v < first → ReadsAlong graph v way v → ⊥)
    → ((way : List ℕ) → ReadsAlong graph first way first → length rest ≤ length way)
    → ((way : List ℕ) → ReadsAlong graph first way first → length way ≡ length rest → IsNotAfter rest way)
    → IsChosen graph (first ∷ rest)
chosen-by graph first rest cycle none short early = (
  first,
  record {
    cycle = cycle;
    begins = refl;
    least = λ other c v h. least_of other c v h;
    shortest = λ other c h. (let t = turned graph other first c h in let s = short t.0 t.1 in let n = t.2 in omega (arith, s, n));
    earliest = earliest_of;
  },
)
  where
    least_of : (other : List ℕ) → IsCycle graph other → (v : ℕ) → has other v ≡ true → first ≤ v
    least_of other c v h = elim (cases_lt v first) [
      | inl less ↦ (let t = turned graph other v c h in absurd (none v t.0 less t.1))
      | inr more ↦ more
    ]

    earliest_of : (other : List ℕ) → IsCycle graph other → BeginsWith other first → length other ≡ length (first ∷ rest) → IsNotAfter (first ∷ rest) other
    earliest_of [] c b e = absurd c
    earliest_of (o ∷ os) c b e = inr (sym b, early os (subst (λ w. ReadsAlong graph w os w) b c) (omega (arith, e)))

-- ---- a by ../b, b by ../a: a b

abbrev two : Adjacency
two = (1 ∷ []) ∷ (0 ∷ []) ∷ []

two_short : (way : List ℕ) → ReadsAlong two 0 way 0 → 1 ≤ length way
two_short [] h = absurd (false≢true h)
two_short (x ∷ xs) h = omega arith

two_early : (way : List ℕ) → ReadsAlong two 0 way 0 → length way ≡ 1 → IsNotAfter (1 ∷ []) way
two_early [] h e = absurd (omega (arith, e))
two_early (zero ∷ xs) h e = absurd (false≢true h.0)
two_early (suc zero ∷ xs) h e = inr (refl, tt)
two_early (suc (suc k) ∷ xs) h e = inl (omega arith)

pair_is_reported : IsReported (Examples.scope pair) (shape_of Examples.four) (all_entries (Examples.scope pair) (shape_of Examples.four)) (2 ∷ 4 ∷ [])
pair_is_reported = (0 ∷ 1 ∷ [], chosen-by two 0 (1 ∷ []) (refl, refl) (λ v way less h. omega (arith, less)) two_short two_early, refl)

-- ---- a by ../c, b by ../c, c by ../b, e by ../e: b c. It leads through the first node that lies on a cycle, though that of e is shorter;
-- a reads from it and does not lie on it

abbrev four : Adjacency
four = [] ∷ (2 ∷ []) ∷ (0 ∷ 1 ∷ []) ∷ (3 ∷ []) ∷ []

none_reads_a : (reader : ℕ) (way : List ℕ) → ReadsAlong four reader way 0 → ⊥
none_reads_a reader [] h = false≢true h
none_reads_a reader (x ∷ xs) h = none_reads_a x xs h.1

four_none : (v : ℕ) (way : List ℕ) → v < 1 → ReadsAlong four v way v → ⊥
four_none zero way less h = none_reads_a 0 way h
four_none (suc k) way less h = omega (arith, less)

four_short : (way : List ℕ) → ReadsAlong four 1 way 1 → 1 ≤ length way
four_short [] h = absurd (false≢true h)
four_short (x ∷ xs) h = omega arith

four_early : (way : List ℕ) → ReadsAlong four 1 way 1 → length way ≡ 1 → IsNotAfter (2 ∷ []) way
four_early [] h e = absurd (omega (arith, e))
four_early (zero ∷ xs) h e = absurd (false≢true h.0)
four_early (suc zero ∷ xs) h e = absurd (false≢true h.0)
four_early (suc (suc zero) ∷ xs) h e = inr (refl, tt)
four_early (suc (suc (suc k)) ∷ xs) h e = inl (omega arith)

knot_is_reported : IsReported (Examples.scope knot) (shape_of Examples.four) (all_entries (Examples.scope knot) (shape_of Examples.four)) (4 ∷ 5 ∷ [])
knot_is_reported = (1 ∷ 2 ∷ [], chosen-by four 1 (2 ∷ []) (refl, refl) four_none four_short four_early, refl)
