-- Operators by rising rank: what the ranks above an operand read of what follows it.
use Rattle.std.proofs.Common.{◌≡◌, ℕ, zero, suc, ◌+◌, ◌-◌, ◌<◌, ◌≤◌, eqb, cond, List, [], Some, None, Ok, Err, option_map, inl, inr, refl, sym, ap, ◌∙◌, rules, arith}
use Rattle.std.specs.Prelude.{Option}
use Rattle.std.proofs.lemmas.Bool.Decides.{eqb_tells}
use Rattle.std.proofs.lemmas.Grind.{common_steps}
use Rattle.xf_base.specs.Limits.{expression_limit}
use Rattle.xf_name.specs.Bindings.{Bindings}
use Rattle.xf_def_syntax.specs.declared.expr.Operator.{Operator}
use Rattle.xf_def_syntax.specs.declared.expr.Expr.{Expr}
use Rattle.xf_def_syntax.specs.declared.expr.Link.{Link}
use Rattle.xf_path.specs.Tokens.{Token}
use Rattle.xf_path.specs.Reading.{Outcome, Rule, and_then, ◌>>=◌, kind_of, text_of, pure}
use Rattle.xf_path.specs.Operators.{operator_of, operator_at, of_rank, rank_of, more_links, chain, chain_of}
use Rattle.xf_path.specs.Grammar.{negated, signed, unary_by, ranked, side}
use Rattle.xf_path.proofs.GrammarLemmas.{links_end}

-- so many ranks of operators from this one on, behind an operand; the rule reads what stands beside an operator of a rank
unfoldable pub climb : (ℕ → Rule Expr) → ℕ → ℕ → Expr → Rule Expr
climb side rank zero tree = pure tree
climb side rank (suc more) tree = more_links (side rank) rank expression_limit [] >>= (λ found. climb side (suc rank) more (chain_of tree found))

-- ---- the ranks by which an expression is defined, and the same from the first one up

then_pure : {A : Type 0} (o : Outcome A) → o ≡ and_then o pure
then_pure (Ok p) = refl
then_pure (Err e) = refl

links_then : (o : Outcome (List Link)) (first : Expr) (more : Expr → Rule Expr)
    → and_then (and_then o (λ found. pure (chain_of first found))) more ≡ and_then o (λ found. more (chain_of first found))
links_then (Ok p) first more = refl
links_then (Err e) first more = refl

chain_then : (o : Outcome Expr) (links : Rule (List Link)) (more : Expr → Rule Expr)
    → and_then (and_then o (λ first. links >>= (λ found. pure (chain_of first found)))) more ≡ and_then o (λ first. links >>= (λ found. more (chain_of first found)))
chain_then (Ok p) links more = links_then (links p.1) p.0 more
chain_then (Err e) links more = refl

ranks_climb : (d : ℕ) (b : Bindings) (depth n k : ℕ) (ts : List Token)
    → ranked (unary_by (signed d b depth)) (n + k) ts ≡ and_then (ranked (unary_by (signed d b depth)) k ts) (climb (side d b depth) (suc k) n)
unfolding ranked climb chain side
ranks_climb d b depth zero k ts =
    let e : 0 + k ≡ k = omega arith in
    ap (λ m. ranked (unary_by (signed d b depth)) m ts) e ∙ then_pure (ranked (unary_by (signed d b depth)) k ts)
ranks_climb d b depth (suc n) k ts =
    let e : suc n + k ≡ n + suc k = omega arith in
    ap (λ m. ranked (unary_by (signed d b depth)) m ts) e
    ∙ ranks_climb d b depth n (suc k) ts
    ∙ chain_then (ranked (unary_by (signed d b depth)) k ts) (more_links (ranked (unary_by (signed d b depth)) k) (suc k) expression_limit []) (climb (side d b depth) (suc (suc k)) n)

pub side_climbs : (d : ℕ) (b : Bindings) (depth rank : ℕ) (ts : List Token) → 0 < rank → side d b depth rank ts ≡ and_then (unary_by (signed d b depth) ts) (climb (side d b depth) 1 (rank - 1))
unfolding ranked side
side_climbs d b depth zero ts h = absurd (omega arith)
side_climbs d b depth (suc n) ts h =
    let e : n ≡ n + 0 = omega arith in
    let f : n ≡ suc n - 1 = omega arith in
    ap (λ m. ranked (unary_by (signed d b depth)) m ts) e ∙ ranks_climb d b depth n 0 ts ∙ ap (λ m. and_then (unary_by (signed d b depth) ts) (climb (side d b depth) 1 m)) f

-- ---- ranks that have no operator are passed over

none_at : (rank : ℕ) (found : Option Operator) → option_map rank_of found ≡ None → of_rank rank found ≡ None
none_at rank None h = refl
none_at rank (Some o) h = absurd (first_of (cc, search rules, grind (arith, common_steps)))

not_equal : {A : Type 0} (m n : ℕ) (x y : A) → (m ≡ n → ⊥) → cond (eqb m n) x y ≡ y
not_equal m n x y other = elim (eqb_tells m n) [ inl p ↦ absurd (other p.1) | inr p ↦ ap (λ t. cond t x y) p.0 ]

other_at : (rank next : ℕ) (found : Option Operator) → option_map rank_of found ≡ Some next → (next ≡ rank → ⊥) → of_rank rank found ≡ None
other_at rank next None h other = absurd (first_of (cc, search rules, grind (arith, common_steps)))
other_at rank next (Some o) h other =
    let same : rank_of o ≡ next = first_of (cc, search rules, grind (arith, common_steps)) in
    not_equal (rank_of o) rank (Some o) None (λ e. other (sym same ∙ e))

pass : (side : ℕ → Rule Expr) (rank n : ℕ) (tree : Expr) (ts : List Token) → operator_at rank (kind_of ts) (text_of ts) ≡ None → climb side rank (suc n) tree ts ≡ climb side (suc rank) n tree ts
unfolding climb
pass side rank n tree ts none = ap (λ o. and_then o (λ found. climb side (suc rank) n (chain_of tree found))) (links_end (side rank) rank 4095 [] ts none)

pub climb_none : (side : ℕ → Rule Expr) (rank n : ℕ) (tree : Expr) (ts : List Token) → option_map rank_of (operator_of (kind_of ts) (text_of ts)) ≡ None → climb side rank n tree ts ≡ Ok (tree, ts)
unfolding climb
climb_none side rank zero tree ts h = refl
climb_none side rank (suc n) tree ts h = pass side rank n tree ts (none_at rank (operator_of (kind_of ts) (text_of ts)) h) ∙ climb_none side (suc rank) n tree ts h

-- the next operator is of a rank below, or of one above those that are left
pub climb_other : (side : ℕ → Rule Expr) (rank n next : ℕ) (tree : Expr) (ts : List Token) → option_map rank_of (operator_of (kind_of ts) (text_of ts)) ≡ Some next
    → (rank ≤ next → next < rank + n → ⊥) → climb side rank n tree ts ≡ Ok (tree, ts)
unfolding climb
climb_other side rank zero next tree ts h out = refl
climb_other side rank (suc n) next tree ts h out =
    pass side rank n tree ts (other_at rank next (operator_of (kind_of ts) (text_of ts)) h (λ e. out (omega (arith, e)) (omega (arith, e))))
    ∙ climb_other side (suc rank) n next tree ts h (λ l m. out (omega (arith, l)) (omega (arith, m)))

pub climb_to : (side : ℕ → Rule Expr) (rank n next : ℕ) (tree : Expr) (ts : List Token) → option_map rank_of (operator_of (kind_of ts) (text_of ts)) ≡ Some next → rank ≤ next → next < rank + n
    → climb side rank n tree ts ≡ and_then (more_links (side next) next expression_limit [] ts) (λ found. climb side (suc next) (rank + n - suc next) (chain_of tree found))
unfolding climb
climb_to side rank zero next tree ts h l m = absurd (omega (arith, l, m))
climb_to side rank (suc n) next tree ts h l m = elim (eqb_tells rank next) [
  | inl p ↦
      (let e : n ≡ rank + suc n - suc next = omega (arith, p.1) in
      ap (λ x. and_then (more_links (side rank) rank expression_limit [] ts) (λ found. climb side (suc rank) x (chain_of tree found))) e
      ∙ ap (λ q. and_then (more_links (side q) q expression_limit [] ts) (λ found. climb side (suc q) (rank + suc n - suc next) (chain_of tree found))) p.1)
  | inr p ↦
      (let e : suc rank + n - suc next ≡ rank + suc n - suc next = omega arith in
      let above : suc rank ≤ next = omega (arith, p.1, l) in
      pass side rank n tree ts (other_at rank next (operator_of (kind_of ts) (text_of ts)) h (λ e. p.1 (sym e)))
      ∙ climb_to side (suc rank) n next tree ts h above (omega (arith, m))
      ∙ ap (λ x. and_then (more_links (side next) next expression_limit [] ts) (λ found. climb side (suc next) x (chain_of tree found))) e)
]

-- ---- the same with the ranks that are left counted from the last one

pub climb_done : (side : ℕ → Rule Expr) (least rank next : ℕ) (tree : Expr) (ts : List Token) → option_map rank_of (operator_of (kind_of ts) (text_of ts)) ≡ Some next
    → (least ≤ next → next < rank → ⊥) → climb side least (rank - least) tree ts ≡ Ok (tree, ts)
climb_done side least rank next tree ts h out = climb_other side least (rank - least) next tree ts h (λ l m. out l (omega (arith, l, m)))

pub climb_on : (side : ℕ → Rule Expr) (least rank next : ℕ) (tree : Expr) (ts : List Token) → option_map rank_of (operator_of (kind_of ts) (text_of ts)) ≡ Some next → least ≤ next → next < rank
    → climb side least (rank - least) tree ts ≡ and_then (more_links (side next) next expression_limit [] ts) (λ found. climb side (next + 1) (rank - (next + 1)) (chain_of tree found))
climb_on side least rank next tree ts h l m =
    let e : least + (rank - least) - suc next ≡ rank - (next + 1) = omega (arith, l, m) in
    let f : suc next ≡ next + 1 = omega arith in
    climb_to side least (rank - least) next tree ts h l (omega (arith, l, m))
    ∙ ap (λ x. and_then (more_links (side next) next expression_limit [] ts) (λ found. climb side (suc next) x (chain_of tree found))) e
    ∙ ap (λ x. and_then (more_links (side next) next expression_limit [] ts) (λ found. climb side x (rank - (next + 1)) (chain_of tree found))) f

-- ---- one operand alone

pub chain_alone : (side : Rule Expr) (rank : ℕ) (ts new : List Token) (first : Expr) → side ts ≡ Ok (first, new) → operator_at rank (kind_of new) (text_of new) ≡ None → chain side rank ts ≡ Ok (first, new)
unfolding chain
chain_alone side rank ts new first read none =
    ap (λ o. and_then o (λ first. more_links side rank expression_limit [] >>= (λ found. pure (chain_of first found)))) read
    ∙ ap (λ o. and_then o (λ found. pure (chain_of first found))) (links_end side rank 4095 [] new none)

-- no sign in front
pub no_sign : (place : ℕ) (o : Outcome Expr) → and_then (and_then {A = Expr} {B = ℕ × Expr} o (λ inner. pure (0, inner))) (λ found. pure (negated place found.0 found.1)) ≡ o
no_sign place (Ok p) = refl
no_sign place (Err e) = refl
