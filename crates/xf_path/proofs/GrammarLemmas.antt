-- The rules of the grammar, level by level.
use Rattle.std.proofs.Common.{◌≡◌, ℕ, zero, suc, ◌-◌, ◌<◌, true, false, List, [], ◌∷◌, ◌++◌, Some, None, Ok, Err, inl, inr, refl, ap, ◌∙◌, arith}
use Rattle.std.specs.Prelude.{Result}
use Rattle.xf_name.specs.Bindings.{Bindings}
use Rattle.xf_table.specs.Rows.{code_of}
use Rattle.xf_table.specs.Contents.{function_entries}
use Rattle.xf_def_syntax.specs.declared.expr.Operator.{Operator}
use Rattle.xf_def_syntax.specs.declared.expr.Expr.{Expr}
use Rattle.xf_def_syntax.specs.declared.expr.Link.{Link, roll-Link}
use Rattle.xf_path.specs.declared.fault.ExprKind.{ExprKind}
use Rattle.xf_path.specs.declared.fault.ExprKind.TheVariants.{Deep}
use Rattle.xf_path.specs.declared.fault.ParseFault.{ParseFault}
use Rattle.xf_path.specs.declared.fault.ParseFault.TheVariants as fault
use Rattle.xf_path.specs.Tokens.{Token}
use Rattle.xf_path.specs.Reading.{Outcome, Rule, Reads, IsFault, and_then, ◌>>=◌, kind_of, place_of, text_of, after_next, open_bracket, refuse}
use Rattle.xf_path.specs.Steps.{opens_predicate, predicates_by, predicate, more_predicates}
use Rattle.xf_path.specs.Paths.{path}
use Rattle.xf_path.specs.Calls.{call, call_by, called, unknown, is_comma, more_by, more_arguments}
use Rattle.xf_path.specs.Primary as primary
use Rattle.xf_path.specs.Operators.{operator_at, link_by, more_links, chain}
use Rattle.xf_path.specs.Grammar.{signed, sign_by, one_more, unary_by, ranked, side, inside, nested, operand}
use Rattle.xf_path.specs.Grammar as spec

pub Reads-same : {A : Type 0} (given same : Outcome A) (result : Result A ParseFault) (new : List Token) → given ≡ same → Reads same result new → Reads given result new
Reads-same given same result new e reads = rw e reads

pub Reads-fault : {A : Type 0} (given : Outcome A) (why : ExprKind) (place : ℕ) (e : ParseFault) (new : List Token) → given ≡ Err (fault.Expr place why) → IsFault why place e → Reads given (Err e) new
Reads-fault given why place e new h (inl memory) = inl memory
Reads-fault given why place e new h (inr is) = inr (h ∙ ap (λ f. Err f) is)

-- ---- ranks of operators

pub side_zero : (d : ℕ) (b : Bindings) (depth rank : ℕ) (ts : List Token) → rank ≡ 0 → side d b depth rank ts ≡ operand d b depth ts
unfolding side
side_zero d b depth rank ts h = ap (λ n. side d b depth n ts) h

-- ---- what stands in brackets

pub inside_none : (d : ℕ) (b : Bindings) (depth : ℕ) (ts : List Token) → depth ≡ 0 → inside d b depth ts ≡ Err (fault.Expr (place_of ts) Deep)
unfolding inside
inside_none d b depth ts h = ap (λ n. inside d b n ts) h

pub inside_some : (d : ℕ) (b : Bindings) (depth : ℕ) (ts : List Token) → 0 < depth → inside d b depth ts ≡ side d b (depth - 1) 7 ts
unfolding inside side
inside_some d b zero ts h = absurd (omega arith)
inside_some d b (suc k) ts h = let e : k ≡ suc k - 1 = omega arith in ap (λ n. side d b n 7 ts) e

-- ---- operands

pub operand_path : (d : ℕ) (b : Bindings) (depth : ℕ) (ts : List Token) → primary.begins_primary (kind_of ts) (text_of ts) ≡ false → operand d b depth ts ≡ path b (nested d b depth) ts
unfolding primary.operand nested
operand_path d b depth ts h = ap (λ begins. primary.operand_by d b (nested d b depth) (spec.called d b depth) begins ts) h

pub operand_primary : (d : ℕ) (b : Bindings) (depth : ℕ) (ts : List Token) → primary.begins_primary (kind_of ts) (text_of ts) ≡ true
    → operand d b depth ts ≡ and_then (primary.filtered d (nested d b depth) (spec.called d b depth) ts) (primary.onward b (nested d b depth))
unfolding primary.operand nested
operand_primary d b depth ts h = ap (λ begins. primary.operand_by d b (nested d b depth) (spec.called d b depth) begins ts) h

-- ---- calls

pub call_some : (d : ℕ) (b : Bindings) (depth code : ℕ) (ts : List Token) → code_of (text_of ts) function_entries ≡ Some code → spec.called d b depth ts ≡ called (open_bracket depth) (inside d b depth) (place_of ts) code ts
unfolding call
call_some d b depth code ts h = ap (λ found. call_by b (open_bracket depth) (inside d b depth) (place_of ts) (text_of ts) found ts) h

pub call_none : (d : ℕ) (b : Bindings) (depth : ℕ) (ts : List Token) → code_of (text_of ts) function_entries ≡ None → spec.called d b depth ts ≡ Err (fault.Expr (place_of ts) (unknown b (text_of ts)))
unfolding call
call_none d b depth ts h = ap (λ found. call_by b (open_bracket depth) (inside d b depth) (place_of ts) (text_of ts) found ts) h

-- ---- signs

-- what may stand behind a sign
abbrev pub behind_sign : ℕ → Bindings → ℕ → Rule (ℕ × Expr)
behind_sign d b zero = refuse Deep
behind_sign d b (suc depth) = one_more (signed d b depth)

pub signed_is : (d : ℕ) (b : Bindings) (depth : ℕ) (ts : List Token) → signed d b depth ts ≡ sign_by (behind_sign d b depth) (chain (side d b depth 0) 0) (kind_of ts) ts
unfolding signed inside side
signed_is d b zero ts = refl
signed_is d b (suc depth) ts = refl

-- ---- links

pub links_end : (side : Rule Expr) (rank most : ℕ) (found : List Link) (ts : List Token) → operator_at rank (kind_of ts) (text_of ts) ≡ None → more_links side rank (suc most) found ts ≡ Ok (found, ts)
unfolding more_links
links_end side rank most found ts none = ap (λ operator. link_by side (more_links side rank most) found (place_of ts) operator ts) none

pub links_go_on : (side : Rule Expr) (rank most : ℕ) (found : List Link) (ts : List Token) (operator : Operator) → operator_at rank (kind_of ts) (text_of ts) ≡ Some operator
    → more_links side rank (suc most) found ts ≡ and_then (side (after_next ts)) (λ right. more_links side rank most (found ++ roll-Link (record { place = place_of ts; operator = operator; right = right }) ∷ []))
unfolding more_links
links_go_on side rank most found ts operator some = ap (λ next. link_by side (more_links side rank most) found (place_of ts) next ts) some

-- ---- predicates and arguments

pub predicates_end : (nested : Rule Expr) (most : ℕ) (found : List Expr) (ts : List Token) → opens_predicate (kind_of ts) ≡ false → more_predicates nested (suc most) found ts ≡ Ok (found, ts)
unfolding more_predicates
predicates_end nested most found ts none = ap (λ opens. predicates_by (predicate nested >>= (λ next. more_predicates nested most (found ++ next ∷ []))) found opens ts) none

pub predicates_go_on : (nested : Rule Expr) (most : ℕ) (found : List Expr) (ts : List Token) → opens_predicate (kind_of ts) ≡ true
    → more_predicates nested (suc most) found ts ≡ and_then (predicate nested ts) (λ next. more_predicates nested most (found ++ next ∷ []))
unfolding more_predicates
predicates_go_on nested most found ts some = ap (λ opens. predicates_by (predicate nested >>= (λ next. more_predicates nested most (found ++ next ∷ []))) found opens ts) some

pub arguments_end : (inside : Rule Expr) (most : ℕ) (found : List Expr) (ts : List Token) → is_comma (kind_of ts) ≡ false → more_arguments inside (suc most) found ts ≡ Ok (found, ts)
unfolding more_arguments
arguments_end inside most found ts none = ap (λ comma. more_by (inside >>= (λ next. more_arguments inside most (found ++ next ∷ []))) found comma ts) none

pub arguments_go_on : (inside : Rule Expr) (most : ℕ) (found : List Expr) (ts : List Token) → is_comma (kind_of ts) ≡ true
    → more_arguments inside (suc most) found ts ≡ and_then (inside (after_next ts)) (λ next. more_arguments inside most (found ++ next ∷ []))
unfolding more_arguments
arguments_go_on inside most found ts some = ap (λ comma. more_by (inside >>= (λ next. more_arguments inside most (found ++ next ∷ []))) found comma ts) some
