use Rattle.std.proofs.Common.{◌≡◌, ℕ, ◌+◌, Bool, true, false, ◌||◌, inl, inr, ◌==◌, nat_lt, List, [], ◌∷◌, ◌++◌, sym, ap, ◌∙◌, refl, arith}
use Rattle.std.proofs.lemmas.Bool.{cases_eq, cases_lt, eq-eqb, ne_eqb, lt-ltb, le-ltb, or_right}
use Rattle.xf_graph.specs.Edges.{has}
use Rattle.xf_graph.proofs.HasLists.{has-append}
use Rattle.xf_graph.proofs.links.all_below.Goals as goal

or_none : (b : Bool) → (b || (false || false)) ≡ b
or_none true = refl
or_none false = refl

-- one number more
below_next : (xs : List ℕ) (n v : ℕ) → has xs v ≡ nat_lt v n → has (xs ++ n ∷ []) v ≡ nat_lt v (n + 1)
below_next xs n v e = has-append xs (n ∷ []) v ∙ elim (cases_eq n v) [
  | inl same ↦ or_right (has xs v) ((n == v) || false) (ap (λ b. b || false) (eq-eqb n v same)) ∙ sym (lt-ltb v (n + 1) (omega arith))
  | inr ne ↦ ap (λ b. has xs v || (b || false)) (ne_eqb n v ne) ∙ or_none (has xs v) ∙ e ∙ elim (cases_lt v n) [
    | inl less ↦ lt-ltb v n less ∙ sym (lt-ltb v (n + 1) (omega arith))
    | inr more ↦ le-ltb v n more ∙ sym (le-ltb v (n + 1) (omega arith))
  ]
]

pub loop-vertex-preserved : goal.loop-vertex-preserved
loop-vertex-preserved c = λ v. ap (λ l. has l v) c.in_ok-push.ensures.items ∙ below_next c.loop-vertex.all.items c.loop-vertex.vertex v (c.loop-vertex.invariant v)
