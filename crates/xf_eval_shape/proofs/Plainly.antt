-- Expressions that give no nodes by their syntax.
use Rattle.std.proofs.Common.{◌≡◌, ℕ, zero, suc, Bool, true, false, not, ◌&&◌, List, [], ◌∷◌, map, Option, Some, None, option_map, refl, sym, ap, ◌∙◌}
use Rattle.std.specs.Prelude.{is_some}
use Rattle.std.specs.List.{list_all}
use Rattle.xf_def_syntax.specs.declared.expr.Expr.{Expr}
use Rattle.xf_def_syntax.specs.declared.expr.Expr.TheOpen.{Expr-F}
use Rattle.xf_def_syntax.specs.declared.expr.Expr.TheFolds.{map-Expr}
use Rattle.xf_def_syntax.specs.declared.expr.Operator.{Operator}
use Rattle.xf_def_syntax.specs.declared.expr.Operator.TheVariants.{Or, And, Equal, NotEqual, Less, LessOrEqual, Greater, GreaterOrEqual, Add, Subtract, Multiply, Divide, Modulo, Union}
use Rattle.xf_def_forest.proofs.BackLaws.{and-true, not-true}
use Rattle.xf_num.specs.Number.{sum, difference, product, quotient, remainder}
use Rattle.xf_def_values.specs.declared.plain.Plain.{Plain}
use Rattle.xf_def_values.specs.declared.plain.Plain.TheVariants as plain
use Rattle.xf_def_values.specs.Conversions.{Decimal}
use Rattle.xf_def_xpath.specs.declared.value.Value.{Value}
use Rattle.xf_def_xpath.specs.declared.value.Value.TheVariants.{Nodes, Text, Number, Truth}
use Rattle.xf_def_xpath.specs.Comparisons.{compared}
use Rattle.xf_def_xpath.specs.Conversions.{nodes_of, number_of, string_of, plain_of, truth_of, value_of_plain}
use Rattle.xf_def_xpath.specs.Exact.{Facts, is_union, branches, call_facts, links_plain}
use Rattle.xf_def_xpath.specs.Functions.{argument, own_argument, branch, branched, called, plain_arguments, of_set, of_numbers, count_of, filled_count, text_value, first_name, local_part, namespace_of, total, average, extreme, greater, lesser}
use Rattle.xf_def_xpath.specs.Meaning.{expr_meaning, link_meaning, meaning}
use Rattle.xf_def_xpath.specs.Operators.{truly, or_else, and_then, computed, combined, linked, chained}
use Rattle.xf_def_forest.specs.Forest.{written_in}
use Rattle.xf_def_xpath.specs.Setting.{Setting, Focus, Meaning, LinkMeaning, Walk, ◌>>=◌, capped}
use Rattle.xf_def_xpath.specs.Steps.{step_walk}
use Rattle.xf_def_xpath.specs.Table.{Function, function_at}
use Rattle.xf_def_xpath.specs.Table as of
use Rattle.xf_def_xpath.proofs.PairKeeps.{pair_keeps}
use Rattle.xf_def_xpath.proofs.VisitFacts.{no, some-same, none-some}
use Rattle.xf_eval_shape.specs.Fixed.{Fixed, LinkFixed, told, link_told, call_fixed, expr_fixed, link_fixed, step_fixed, fixed_of, is_fixed}
use Rattle.xf_eval_shape.specs.Bound.{Gives}

abbrev Empty : Option Value → Type 0
Empty m = Gives [] m

mapped : {A : Type 0} (f : A → Value) → ((a : A) → nodes_of (f a) ≡ []) → (m : Option A) → Empty (option_map f m)
mapped f h None = λ w e. none-some e
mapped f h (Some a) = λ w e. ap nodes_of (sym (some-same e)) ∙ h a

then : {A : Type 0} (k : A → Option Value) → ((a : A) → Empty (k a)) → (m : Option A) → Empty (m >>= k)
then k h None = λ w e. none-some e
then k h (Some a) = h a

given : (v : Value) → nodes_of v ≡ [] → Empty (Some v)
given v h = λ w e. ap nodes_of (sym (some-same e)) ∙ h

no-nodes : (p : Plain) → nodes_of (value_of_plain p) ≡ []
no-nodes (plain.Text text) = refl
no-nodes (plain.Number k) = refl
no-nodes (plain.Truth b) = refl

-- ---- operators

truly-empty : (m : Option Value) → Empty (truly m)
truly-empty m = mapped (λ v. Truth (truth_of v)) (λ v. refl) m

or-empty : (b : Bool) (m : Option Value) → Empty (or_else b m)
or-empty true m = given (Truth true) refl
or-empty false m = truly-empty m

and-empty : (b : Bool) (m : Option Value) → Empty (and_then b m)
and-empty true m = truly-empty m
and-empty false m = given (Truth false) refl

computed-empty : (s : Setting) (operation : Decimal → Decimal → Decimal) (a b : Value) → Empty (computed s operation a b)
computed-empty s operation a b = then _ (λ j. then _ (λ k. given (Number (operation j k)) refl) (number_of s b)) (number_of s a)

combined-empty : (o : Operator) → is_union o ≡ false → (s : Setting) (a b : Value) → Empty (combined o s a b)
combined-empty Or i s a b = mapped Truth (λ x. refl) (compared s Or a b)
combined-empty And i s a b = mapped Truth (λ x. refl) (compared s And a b)
combined-empty Equal i s a b = mapped Truth (λ x. refl) (compared s Equal a b)
combined-empty NotEqual i s a b = mapped Truth (λ x. refl) (compared s NotEqual a b)
combined-empty Less i s a b = mapped Truth (λ x. refl) (compared s Less a b)
combined-empty LessOrEqual i s a b = mapped Truth (λ x. refl) (compared s LessOrEqual a b)
combined-empty Greater i s a b = mapped Truth (λ x. refl) (compared s Greater a b)
combined-empty GreaterOrEqual i s a b = mapped Truth (λ x. refl) (compared s GreaterOrEqual a b)
combined-empty Add i s a b = computed-empty s sum a b
combined-empty Subtract i s a b = computed-empty s difference a b
combined-empty Multiply i s a b = computed-empty s (product s.given.decimals) a b
combined-empty Divide i s a b = computed-empty s (quotient s.given.decimals) a b
combined-empty Modulo i s a b = computed-empty s remainder a b
combined-empty Union i s a b = no (sym i)

pub linked-empty : (o : Operator) → is_union o ≡ false → (v : Value) (right : Meaning) (s : Setting) (c : Focus) → Empty (linked o v right s c)
linked-empty Or i v right s c = or-empty (truth_of v) (right s c)
linked-empty And i v right s c = and-empty (truth_of v) (right s c)
linked-empty Equal i v right s c = then _ (combined-empty Equal i s v) (right s c)
linked-empty NotEqual i v right s c = then _ (combined-empty NotEqual i s v) (right s c)
linked-empty Less i v right s c = then _ (combined-empty Less i s v) (right s c)
linked-empty LessOrEqual i v right s c = then _ (combined-empty LessOrEqual i s v) (right s c)
linked-empty Greater i v right s c = then _ (combined-empty Greater i s v) (right s c)
linked-empty GreaterOrEqual i v right s c = then _ (combined-empty GreaterOrEqual i s v) (right s c)
linked-empty Add i v right s c = then _ (combined-empty Add i s v) (right s c)
linked-empty Subtract i v right s c = then _ (combined-empty Subtract i s v) (right s c)
linked-empty Multiply i v right s c = then _ (combined-empty Multiply i s v) (right s c)
linked-empty Divide i v right s c = then _ (combined-empty Divide i s v) (right s c)
linked-empty Modulo i v right s c = then _ (combined-empty Modulo i s v) (right s c)
linked-empty Union i v right s c = no (sym i)

-- ---- one induction over the syntax

abbrev Law : Fixed → Meaning → Type 0
Law f m = f.is_fixed ≡ true → f.is_plain ≡ true → (s : Setting) (c : Focus) → Empty (m s c)

abbrev LinkLaw : LinkFixed → LinkMeaning → Type 0
LinkLaw l m = m.operator ≡ l.operator

abbrev StepLaw : Bool → Walk → Type 0
StepLaw b m = true ≡ true

abbrev Pair : Type 0
Pair = (f : Fixed) × (m : Meaning) × Law f m

abbrev LinkPair : Type 0
LinkPair = (l : LinkFixed) × (m : LinkMeaning) × LinkLaw l m

abbrev StepPair : Type 0
StepPair = (b : Bool) × (m : Walk) × StepLaw b m

abbrev fixed_in : List Pair → List Fixed
fixed_in ks = map (λ (k : Pair). k.0) ks

abbrev meanings : List Pair → List Meaning
meanings ks = map (λ (k : Pair). k.1) ks

-- a branch
argument-empty : (place : ℕ) (ks : List Pair) → list_all (λ (x : Fixed). x.is_fixed) (fixed_in ks) ≡ true → list_all (λ (x : Facts). x.is_plain) (map told (fixed_in ks)) ≡ true → (s : Setting) (c : Focus) → Empty (argument place (meanings ks) s c)
argument-empty place [] h i s c = given (Nodes []) refl
argument-empty zero (k ∷ ks) h i s c = k.2 (and-true _ _ h).0 (and-true _ _ i).0 s c
argument-empty (suc place) (k ∷ ks) h i s c = argument-empty place ks (and-true _ _ h).1 (and-true _ _ i).1 s c

branch-empty : (place : ℕ) (ks : List Pair) → list_all (λ (x : Fixed). x.is_fixed) (fixed_in ks) ≡ true → list_all (λ (x : Facts). x.is_plain) (branches (map told (fixed_in ks))) ≡ true → (s : Setting) (c : Focus) → Empty (argument (suc place) (meanings ks) s c)
branch-empty place [] h i s c = given (Nodes []) refl
branch-empty place (k ∷ ks) h i s c = argument-empty place ks (and-true _ _ h).1 i s c

branched-empty : (ks : List Pair) → list_all (λ (x : Fixed). x.is_fixed) (fixed_in ks) ≡ true → list_all (λ (x : Facts). x.is_plain) (branches (map told (fixed_in ks))) ≡ true → (s : Setting) (c : Focus) → Empty (branched (meanings ks) s c)
branched-empty ks h i s c = then _ (λ v. by (truth_of v)) (argument 0 (meanings ks) s c)
  where
    by : (b : Bool) → Empty (branch b (meanings ks) s c)
    by true = branch-empty 0 ks h i s c
    by false = branch-empty 1 ks h i s c

set-empty : (made : Setting → List ℕ → Option Value) → ((s : Setting) (ns : List ℕ) → Empty (made s ns)) → (m : Meaning) (s : Setting) (c : Focus) → Empty (of_set made m s c)
set-empty made h m s c = then _ (λ v. h s (nodes_of v)) (m s c)

call-empty : (g : Function) (code : ℕ) (ks : List Pair) → call_fixed g (fixed_in ks) ≡ true → (call_facts g (map told (fixed_in ks))).is_plain ≡ true → (s : Setting) (c : Focus) → Empty (called g code (meanings ks) s c)
call-empty of.asking code ks h i s c = mapped value_of_plain no-nodes (plain_arguments (meanings ks) s c >>= s.functions code)
call-empty of.plainly code ks h i s c = mapped value_of_plain no-nodes (plain_arguments (meanings ks) s c >>= s.functions code)
call-empty of.owning code ks h i s c = mapped value_of_plain no-nodes (own_argument (meanings ks) s c >>= plain_of s >>= λ p. s.functions code (p ∷ []))
call-empty of.boolean code ks h i s c = mapped (λ v. Truth (truth_of v)) (λ v. refl) (argument 0 (meanings ks) s c)
call-empty of.not code ks h i s c = mapped _ (λ v. refl) (argument 0 (meanings ks) s c)
call-empty (of.truth b) code ks h i s c = given (Truth b) refl
call-empty of.choosing code ks h i s c = let p = and-true _ _ h in branched-empty ks p.0 p.1 s c
call-empty of.branching code ks h i s c = mapped Text (λ t. refl) (branched (meanings ks) s c >>= string_of s)
call-empty of.counting code ks h i s c = set-empty (λ s ns. Some (count_of s ns)) (λ s ns. given (count_of s ns) refl) (argument 0 (meanings ks)) s c
call-empty of.counting_filled code ks h i s c = set-empty filled_count (λ s ns. mapped _ (λ t. refl) _) (argument 0 (meanings ks)) s c
call-empty of.adding code ks h i s c = set-empty (λ s ns. of_numbers s total ns) (λ s ns. mapped _ (λ t. refl) _) (argument 0 (meanings ks)) s c
call-empty of.averaging code ks h i s c = set-empty (λ s ns. of_numbers s (average s.given.decimals) ns) (λ s ns. mapped _ (λ t. refl) _) (argument 0 (meanings ks)) s c
call-empty of.greatest code ks h i s c = set-empty (λ s ns. of_numbers s (extreme greater) ns) (λ s ns. mapped _ (λ t. refl) _) (argument 0 (meanings ks)) s c
call-empty of.least code ks h i s c = set-empty (λ s ns. of_numbers s (extreme lesser) ns) (λ s ns. mapped _ (λ t. refl) _) (argument 0 (meanings ks)) s c
call-empty of.local_name code ks h i s c = set-empty (λ s ns. text_value s (local_part (first_name s.all ns))) (λ s ns. mapped Text (λ t. refl) (capped s.most (local_part (first_name s.all ns)))) (own_argument (meanings ks)) s c
call-empty of.name code ks h i s c = set-empty (λ s ns. text_value s (written_in (first_name s.all ns))) (λ s ns. mapped Text (λ t. refl) (capped s.most (written_in (first_name s.all ns)))) (own_argument (meanings ks)) s c
call-empty of.namespace code ks h i s c = set-empty (λ s ns. text_value s (namespace_of s.given.bindings (first_name s.all ns))) (λ s ns. mapped Text (λ t. refl) (capped s.most (namespace_of s.given.bindings (first_name s.all ns)))) (own_argument (meanings ks)) s c
call-empty of.number code ks h i s c = mapped Number (λ t. refl) (own_argument (meanings ks) s c >>= number_of s)
call-empty of.string code ks h i s c = mapped Text (λ t. refl) (own_argument (meanings ks) s c >>= string_of s)
call-empty of.current code ks h i s c = no i
call-empty of.event code ks h i s c = no h
call-empty of.index code ks h i s c = mapped _ (λ t. refl) (argument 0 (meanings ks) s c >>= string_of s)
call-empty of.instance code ks h i s c = no i
call-empty of.last code ks h i s c = given _ refl
call-empty of.position code ks h i s c = given _ refl

links-empty : (ls : List LinkPair) (plain : Bool) → links_plain plain (map link_told (map (λ (l : LinkPair). l.0) ls)) ≡ true → (v : Value) → (plain ≡ true → nodes_of v ≡ []) → (s : Setting) (c : Focus) → Empty (chained (map (λ (l : LinkPair). l.1) ls) v s c)
links-empty [] plain h v e s c = given v (e h)
links-empty (l ∷ ls) plain h v e s c = of (λ value e'. links-empty ls (not (is_union l.0.operator)) h value e' s c) (linked l.1.operator v l.1.right s c) refl
  where
    of : ((value : Value) → (not (is_union l.0.operator) ≡ true → nodes_of value ≡ []) → Empty (chained (map (λ (l : LinkPair). l.1) ls) value s c)) → (m : Option Value) → linked l.1.operator v l.1.right s c ≡ m → Empty (m >>= λ value. chained (map (λ (l : LinkPair). l.1) ls) value s c)
    of rest None j = λ w k. none-some k
    of rest (Some value) j = rest value (λ u. linked-empty l.1.operator (ap is_union l.2 ∙ not-true (is_union l.0.operator) u) v l.1.right s c value j)

level : (y : Expr-F Pair LinkPair StepPair) → Law (expr_fixed (map-Expr Pair LinkPair StepPair Fixed LinkFixed Bool (λ k. k.0) (λ k. k.0) (λ k. k.0) y)) (expr_meaning (map-Expr Pair LinkPair StepPair Meaning LinkMeaning Walk (λ k. k.1) (λ k. k.1) (λ k. k.1) y))
level (Expr-F.Number place k) = λ h i s c. given (Number k) refl
level (Expr-F.Literal place text) = λ h i s c. mapped Text (λ t. refl) _
level (Expr-F.Call place code ks) = λ h i s c. call-empty (function_at code) code ks h i s c
level (Expr-F.Negated place signs k) = λ h i s c. mapped _ (λ t. refl) (k.1 s c >>= number_of s)
level (Expr-F.Chain k ls) = λ h i s c. of ls k i h s c (k.1 s c) refl
  where
    of : (ls : List LinkPair) (k : Pair) → links_plain k.0.is_plain (map link_told (map (λ (l : LinkPair). l.0) ls)) ≡ true → (k.0.is_fixed && list_all (λ (l : LinkFixed). l.right.is_fixed) (map (λ (l : LinkPair). l.0) ls)) ≡ true → (s : Setting) (c : Focus) (m : Option Value) → k.1 s c ≡ m → Empty (m >>= λ left. chained (map (λ (l : LinkPair). l.1) ls) left s c)
    of ls k i h s c None j = λ w e. none-some e
    of ls k i h s c (Some v) j = links-empty ls k.0.is_plain i v (λ p. k.2 (and-true _ _ h).0 p s c v j) s c
level (Expr-F.Filter k ks) = λ h i. no i
level (Expr-F.Path place start ks) = λ h i. no i
level (Expr-F.From k ks) = λ h i. no i

plain-law : (e : Expr) → Law (fixed_of e) (meaning e)
plain-law = pair_keeps Fixed LinkFixed Bool expr_fixed link_fixed step_fixed Meaning LinkMeaning Walk expr_meaning link_meaning step_walk Law LinkLaw StepLaw level (λ y. refl) (λ y. refl)

-- an expression that gives no nodes
pub plain-nodes : (e : Expr) → is_fixed e ≡ true → (fixed_of e).is_plain ≡ true → (s : Setting) (c : Focus) → is_some (meaning e s c) ≡ true → option_map nodes_of (meaning e s c) ≡ Some []
plain-nodes e h i s c a = by (meaning e s c) refl a
  where
    by : (m : Option Value) → meaning e s c ≡ m → is_some m ≡ true → option_map nodes_of m ≡ Some []
    by None j k = no k
    by (Some v) j k = ap Some (plain-law e h i s c v j)
