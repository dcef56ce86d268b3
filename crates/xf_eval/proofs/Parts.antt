-- One level of an expression from what its parts gave: steps, operators, calls, and the whole.
use Rattle.std.proofs.Common.{◌≡◌, inl, inr, ℕ, zero, suc, ◌<◌, ◌≤◌, length, get_or, arith, Bool, true, false, not, List, [], ◌∷◌, map, Option, Some, None, option_map, Result, Ok, Err, refl, sym, ap, ◌∙◌}
use Rattle.xf_base.specs.Gives.{Gives}
use Rattle.xf_def_forest.specs.declared.content.Node.{Node}
use Rattle.xf_def_syntax.specs.declared.expr.Expr.{Expr}
use Rattle.xf_def_syntax.specs.declared.expr.Expr.TheVariants as expr
use Rattle.xf_def_syntax.specs.declared.expr.Step.{Step}
use Rattle.xf_def_syntax.specs.declared.expr.Operator.{Operator}
use Rattle.xf_def_syntax.specs.declared.expr.Operator.TheVariants.{Or, And}
use Rattle.xf_def_values.specs.Bounded.{◌>>=◌, GivesBounded}
use Rattle.xf_funcs.specs.Called.{called}
use Rattle.xf_def_xpath.specs.declared.context.Context.{Context}
use Rattle.xf_def_xpath.specs.declared.fault.EvalFault.{EvalFault}
use Rattle.xf_def_xpath.specs.declared.fault.EvalFault.TheVariants.{Long, Memory}
use Rattle.xf_def_xpath.specs.declared.value.Value.{Value}
use Rattle.xf_def_xpath.specs.declared.value.Value.TheVariants.{Nodes, Number, Truth}
use Rattle.xf_def_xpath.specs.Given.{Given}
use Rattle.xf_def_xpath.specs.Setting.{Focus, Meaning, Setting, each, in_order, joined}
use Rattle.xf_def_xpath.specs.Conversions.{number_of, truth_of}
use Rattle.xf_def_xpath.specs.Functions as functions
use Rattle.xf_def_xpath.specs.Meaning.{focus_of, meaning, or_long, setting_of, walk_of}
use Rattle.xf_def_xpath.specs.Operators.{and_then, linked, or_else, signed, truly}
use Rattle.xf_def_xpath.specs.Steps.{begun_at, from_one}
use Rattle.xf_def_xpath.specs.Table.{function_at}
use Rattle.xf_def_xpath.proofs.Equations.{meaning-Call, meaning-Negated, walk-step}
use Rattle.xf_eval.specs.declared.kinds.Kind.{Kind}
use Rattle.xf_eval.specs.declared.kinds.Kind.TheVariants as kind
use Rattle.xf_eval.specs.Kinds.{function_in}
use Rattle.xf_eval.specs.Answered.{answered, decides}
use Rattle.xf_eval.specs.ByKind.{argument_or, by_kind, of_own_argument}
use Rattle.xf_eval.specs.First.{converts, counted}
use Rattle.xf_eval.specs.OfOne.{one_worth}
use Rattle.xf_eval.specs.Taken.{taken}
use Rattle.xf_eval.specs.Worth.{negated_worth, setting_in}
use Rattle.xf_eval.proofs.Called.{by-kind}
use Rattle.xf_eval.proofs.Firsts.{map-none, right-made}
use Rattle.xf_eval.proofs.Settings.{answered-same, number-same}

-- ---- steps

pub step-taken : (step : Step) (b : Bool) (s : Setting) (ns : List ℕ) → step.is_below ≡ b → walk_of step s ns ≡ taken step.axis step.test (map meaning step.predicates) s (begun_at b s.all ns)
step-taken step b s ns h =
    ap (λ w. w s ns) (walk-step step)
    ∙ ap (λ below. option_map (λ sets. in_order s.all (joined sets)) (each (from_one step.axis step.test (map meaning step.predicates) s) (begun_at below s.all ns))) h

-- ---- operators

or-decided : (b : Bool) (m : Option Value) → b ≡ true → or_else b m ≡ Some (Truth b)
or-decided true m h = refl
or-decided false m h = cc h

and-decided : (b : Bool) (m : Option Value) → not b ≡ true → and_then b m ≡ Some (Truth b)
and-decided true m h = cc h
and-decided false m h = refl

-- the left side alone decides
pub linked-decided : (o : Operator) (left : Value) (m : Meaning) (s : Setting) (c : Focus) → decides o (truth_of left) ≡ true → linked o left m s c ≡ Some (Truth (truth_of left))
linked-decided Or left m s c h = or-decided (truth_of left) (m s c) h
linked-decided And left m s c h = and-decided (truth_of left) (m s c) h
linked-decided other left m s c h = cc h

truly-each : (m : Option Value) → truly m ≡ (m >>= λ v. Some (Truth (truth_of v)))
truly-each None = refl
truly-each (Some v) = refl

or-other : (b : Bool) (m : Option Value) → b ≡ false → or_else b m ≡ (m >>= λ v. Some (Truth (truth_of v)))
or-other true m h = cc h
or-other false m h = truly-each m

and-other : (b : Bool) (m : Option Value) → not b ≡ false → and_then b m ≡ (m >>= λ v. Some (Truth (truth_of v)))
and-other true m h = truly-each m
and-other false m h = cc h

linked-each : (o : Operator) (left : Value) (m : Meaning) (s : Setting) (c : Focus) → decides o (truth_of left) ≡ false → linked o left m s c ≡ (m s c >>= answered o s left)
linked-each Or left m s c h = or-other (truth_of left) (m s c) h
linked-each And left m s c h = and-other (truth_of left) (m s c) h
linked-each other left m s c h = refl

-- both sides are evaluated, the right one as far as it counts
pub linked-both : (o : Operator) (left right : Value) (m : Meaning) (given : Given) (nodes : List Node) (context : Context) (c : Focus) → decides o (truth_of left) ≡ false →
    option_map (counted (converts o)) (m (setting_of called given nodes context) c) ≡ Some (counted (converts o) right) → linked o left m (setting_of called given nodes context) c ≡ answered o (setting_in given.decimals nodes) left right
linked-both o left right m given nodes context c h e =
    linked-each o left m (setting_of called given nodes context) c h ∙ right-made o (setting_of called given nodes context) left right (m (setting_of called given nodes context) c) e ∙ answered-same given nodes context o left right

-- a side that is too long
pub linked-long : (o : Operator) (left : Value) (m : Meaning) (s : Setting) (c : Focus) → decides o (truth_of left) ≡ false → option_map (counted (converts o)) (m s c) ≡ None → linked o left m s c ≡ None
linked-long o left m s c h e = linked-each o left m s c h ∙ ap (λ x. x >>= answered o s left) (map-none (counted (converts o)) (m s c) e)

pub negated-is : (place signs : ℕ) (operand : Expr) (given : Given) (nodes : List Node) (context : Context) →
    meaning (expr.Negated place signs operand) (setting_of called given nodes context) (focus_of context) ≡ negated_worth given.decimals signs nodes (meaning operand (setting_of called given nodes context) (focus_of context))
negated-is place signs operand given nodes context =
    ap (λ m. m (setting_of called given nodes context) (focus_of context)) (meaning-Negated place signs operand) ∙ by (meaning operand (setting_of called given nodes context) (focus_of context))
  where
    by : (m : Option Value) → option_map (λ k. Number (signed signs k)) (m >>= number_of (setting_of called given nodes context)) ≡ negated_worth given.decimals signs nodes m
    by None = refl
    by (Some v) = ap (option_map (λ k. Number (signed signs k))) (number-same given nodes context v)

-- ---- calls

pub call-worth : (place code : ℕ) (arguments : List Expr) (k : Kind) (given : Given) (nodes : List Node) (context : Context) → function_in k ≡ function_at code →
    meaning (expr.Call place code arguments) (setting_of called given nodes context) (focus_of context) ≡ by_kind k code given nodes context (map meaning arguments)
call-worth place code arguments k given nodes context h =
    ap (λ m. m (setting_of called given nodes context) (focus_of context)) (meaning-Call place code arguments)
    ∙ ap (λ f. functions.called f code (map meaning arguments) (setting_of called given nodes context) (focus_of context)) (sym h)
    ∙ by-kind k code given nodes context (map meaning arguments)

-- a function that stands for the context node where no argument is written
pub by-own : (k j : Kind) (code : ℕ) (given : Given) (nodes : List Node) (context : Context) (ms : List Meaning) → k ≡ j →
    by_kind j code given nodes context ms ≡ of_own_argument j code given nodes context ms → by_kind k code given nodes context ms ≡ of_own_argument k code given nodes context ms
by-own k j code given nodes context ms i h =
    ap (λ (o : Kind). by_kind o code given nodes context ms) i ∙ h ∙ sym (ap (λ (o : Kind). of_own_argument o code given nodes context ms) i)

-- a function of one argument
pub by-other : (k : Kind) (code : ℕ) (given : Given) (nodes : List Node) (context : Context) (ms : List Meaning) →
    (k ≡ kind.Asking → ⊥) → (k ≡ kind.Plainly → ⊥) → (k ≡ kind.Owning → ⊥) → ((b : Bool) → k ≡ kind.Truth b → ⊥) → (k ≡ kind.Choosing → ⊥) → (k ≡ kind.Branching → ⊥) → (k ≡ kind.LocalName → ⊥) → (k ≡ kind.Name → ⊥) → (k ≡ kind.Namespace → ⊥) → (k ≡ kind.Number → ⊥) → (k ≡ kind.Text → ⊥) → (k ≡ kind.Current → ⊥) → (k ≡ kind.Last → ⊥) → (k ≡ kind.Position → ⊥) →
    by_kind k code given nodes context ms ≡ (argument_or 0 [] ms (setting_of called given nodes context) (focus_of context) >>= one_worth given.decimals k context.model given nodes)
by-other kind.Asking code given nodes context ms a b c d e f g h i j k l m n = absurd (a refl)
by-other kind.Plainly code given nodes context ms a b c d e f g h i j k l m n = absurd (b refl)
by-other kind.Owning code given nodes context ms a b c d e f g h i j k l m n = absurd (c refl)
by-other (kind.Truth t) code given nodes context ms a b c d e f g h i j k l m n = absurd (d t refl)
by-other kind.Choosing code given nodes context ms a b c d e f g h i j k l m n = absurd (e refl)
by-other kind.Branching code given nodes context ms a b c d e f g h i j k l m n = absurd (f refl)
by-other kind.LocalName code given nodes context ms a b c d e f g h i j k l m n = absurd (g refl)
by-other kind.Name code given nodes context ms a b c d e f g h i j k l m n = absurd (h refl)
by-other kind.Namespace code given nodes context ms a b c d e f g h i j k l m n = absurd (i refl)
by-other kind.Number code given nodes context ms a b c d e f g h i j k l m n = absurd (j refl)
by-other kind.Text code given nodes context ms a b c d e f g h i j k l m n = absurd (k refl)
by-other kind.Current code given nodes context ms a b c d e f g h i j k l m n = absurd (l refl)
by-other kind.Last code given nodes context ms a b c d e f g h i j k l m n = absurd (m refl)
by-other kind.Position code given nodes context ms a b c d e f g h i j k l m n = absurd (n refl)
by-other kind.Boolean code given nodes context ms a b c d e f g h i j k l m n = refl
by-other kind.Not code given nodes context ms a b c d e f g h i j k l m n = refl
by-other kind.Counting code given nodes context ms a b c d e f g h i j k l m n = refl
by-other kind.CountingFilled code given nodes context ms a b c d e f g h i j k l m n = refl
by-other kind.Adding code given nodes context ms a b c d e f g h i j k l m n = refl
by-other kind.Averaging code given nodes context ms a b c d e f g h i j k l m n = refl
by-other kind.Greatest code given nodes context ms a b c d e f g h i j k l m n = refl
by-other kind.Least code given nodes context ms a b c d e f g h i j k l m n = refl
by-other kind.Event code given nodes context ms a b c d e f g h i j k l m n = refl
by-other kind.Index code given nodes context ms a b c d e f g h i j k l m n = refl
by-other kind.Instance code given nodes context ms a b c d e f g h i j k l m n = refl

-- the argument that is written at a place
pub argument-within : (arguments : List Expr) (at : ℕ) (own : List ℕ) (other : Expr) (s : Setting) (c : Focus) → at < length arguments → argument_or at own (map meaning arguments) s c ≡ meaning (get_or arguments at other) s c
argument-within [] at own other s c h = absurd (omega arith)
argument-within (e ∷ es) zero own other s c h = refl
argument-within (e ∷ es) (suc at) own other s c h = argument-within es at own other s c (omega arith)

-- what stands for one that is not written
pub argument-past : (arguments : List Expr) (at : ℕ) (own : List ℕ) (s : Setting) (c : Focus) → length arguments ≤ at → argument_or at own (map meaning arguments) s c ≡ Some (Nodes own)
argument-past [] at own s c h = refl
argument-past (e ∷ es) zero own s c h = absurd (omega arith)
argument-past (e ∷ es) (suc at) own s c h = argument-past es at own s c (omega arith)

-- ---- a whole expression

pub bounded-gives : (r : Result Value EvalFault) (m : Option Value) → GivesBounded Memory Long (λ v. v) r m → Gives Memory (λ v. v) r (or_long m)
bounded-gives (Ok v) m h = ap or_long h
bounded-gives (Err e) m (inl h) = inl h
bounded-gives (Err e) m (inr h) = inr (ap or_long h.1 ∙ ap Err (sym h.0))
