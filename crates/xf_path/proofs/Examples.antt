-- Expressions by the definitions.
use Rattle.std.proofs.Common.{◌≡◌, ◌*◌, ℕ, zero, suc, List, [], ◌∷◌, ◌++◌, Some, Ok, Err, refl, sym, ap, ◌∙◌, ◌&&◌, Bool, true, false, pos, codes}
use Rattle.std.specs.Prelude.{Result}
use Rattle.std.specs.Str.{chars}
use Rattle.unicode_ident.specs.Ident.{is_xid_start, is_xid_continue}
use Rattle.ucd_table.specs.Rows.{in_ranges}
use Rattle.ucd_derived.specs.XidStartRanges.{xid_start_ranges}
use Rattle.ucd_derived.specs.XidContinueRanges.{xid_continue_ranges}
use lib.Utf8.{encode}
use Rattle.xf_num.specs.Number.{scale}
use Rattle.xf_table.specs.Contents.{function_entries}
use Rattle.xf_name.specs.Bindings.{Bindings}
use Rattle.xf_name.specs.declared.axis.Axis.{Axis}
use Rattle.xf_name.specs.declared.axis.Axis.TheVariants as axis
use Rattle.xf_def_syntax.specs.declared.expr.Operator.{Operator}
use Rattle.xf_def_syntax.specs.declared.expr.Operator.TheVariants as o
use Rattle.xf_def_syntax.specs.declared.expr.Start.TheVariants.{Root, Context}
use Rattle.xf_def_syntax.specs.declared.expr.Test.{Test}
use Rattle.xf_def_syntax.specs.declared.expr.Test.TheVariants as test
use Rattle.xf_def_syntax.specs.declared.expr.Expr.{Expr}
use Rattle.xf_def_syntax.specs.declared.expr.Expr.TheVariants as e
use Rattle.xf_def_syntax.specs.declared.expr.Expr.TheOpen.{Expr-F}
use Rattle.xf_def_syntax.specs.declared.expr.Expr.TheFolds.{fold-roll-Expr}
use Rattle.xf_def_syntax.specs.declared.expr.Link.{Link, roll-Link}
use Rattle.xf_def_syntax.specs.declared.expr.Step.{Step, roll-Step}
use Rattle.xf_path.specs.declared.fault.ExprKind.TheVariants.{Syntax, Prefix, Long, Deep, Arity, UnknownFunction, ClockOrRandom}
use Rattle.xf_path.specs.declared.fault.ParseFault.{ParseFault}
use Rattle.xf_path.specs.declared.fault.ParseFault.TheVariants as fault
use Rattle.xf_path.specs.Tokens.{kind_of_name}
use Rattle.xf_path.specs.Steps.{axis_called, axis_rule, type_called, target, node_test, predicate, more_predicates, abbreviated, written, step}
use Rattle.xf_path.specs.Paths.{more_steps, steps, path}
use Rattle.xf_path.specs.Calls.{more_arguments, arguments, called, call, entry_at, is_marked, expr_may_give, link_is_union, may_give_nodes, takes}
use Rattle.xf_path.specs.Primary.{number, unquoted, literal, primary, grouped, onward, filtered, operand}
use Rattle.xf_path.specs.Operators.{operator_of, more_links, chain}
use Rattle.xf_path.specs.Grammar.{unary_by, ranked, signed, parsed}

-- a form that binds the prefix p
abbrev tables : Bindings
tables = record { spaces = codes "urn:p" ∷ []; prefixes = (codes "p", 1) ∷ [] }

abbrev given : List ℕ → Result Expr ParseFault
given text = parsed 6 tables text

-- ---- short words for trees

abbrev num : ℕ → ℕ → Expr
num place n = e.Number place (Some (pos (n * 1000000)))

abbrev link : ℕ → Operator → Expr → Link
link place operator right = roll-Link (record { place = place; operator = operator; right = right })

abbrev test_at : ℕ → Bool → Axis → Test → List Expr → Step
test_at place is_below along asked predicates = roll-Step (record { place = place; is_below = is_below; is_written = true; axis = along; test = asked; predicates = predicates })

abbrev named : List ℕ → Test
named local = test.Name (record { space = 0; prefix = 0; local = local })

abbrev child : ℕ → List ℕ → Step
child place local = test_at place false axis.Child (named local) []

abbrev below : ℕ → List ℕ → Step
below place local = test_at place true axis.Child (named local) []

abbrev parent : ℕ → Step
parent place = roll-Step (record { place = place; is_below = false; is_written = false; axis = axis.Parent; test = test.Node; predicates = [] })

abbrev path_at : ℕ → List Step → Expr
path_at place found = e.Path place Context found

abbrev name_at : ℕ → List ℕ → Expr
name_at place local = path_at place (child place local ∷ [])

abbrev any_at : ℕ → Expr
any_at place = path_at place (test_at place false axis.Child test.AnyName [] ∷ [])

-- ---- operators

precedence : given (codes "1 + 2 * 3") ≡ Ok (e.Chain (num 0 1) (link 2 o.Add (e.Chain (num 4 2) (link 6 o.Multiply (num 8 3) ∷ [])) ∷ []))
unfolding chars scale encode is_xid_start is_xid_continue in_ranges xid_start_ranges xid_continue_ranges function_entries kind_of_name axis_called axis_rule type_called target node_test predicate more_predicates abbreviated written step more_steps steps path more_arguments arguments called call number unquoted literal primary grouped onward filtered operand operator_of more_links chain unary_by ranked signed
precedence = refl

from_left : given (codes "3-2-1") ≡ Ok (e.Chain (num 0 3) (link 1 o.Subtract (num 2 2) ∷ link 3 o.Subtract (num 4 1) ∷ []))
unfolding chars scale encode is_xid_start is_xid_continue in_ranges xid_start_ranges xid_continue_ranges function_entries kind_of_name axis_called axis_rule type_called target node_test predicate more_predicates abbreviated written step more_steps steps path more_arguments arguments called call number unquoted literal primary grouped onward filtered operand operator_of more_links chain unary_by ranked signed
from_left = refl

product_of_names : given (codes "a * b") ≡ Ok (e.Chain (name_at 0 (codes "a")) (link 2 o.Multiply (name_at 4 (codes "b")) ∷ []))
unfolding chars scale encode is_xid_start is_xid_continue in_ranges xid_start_ranges xid_continue_ranges function_entries kind_of_name axis_called axis_rule type_called target node_test predicate more_predicates abbreviated written step more_steps steps path more_arguments arguments called call number unquoted literal primary grouped onward filtered operand operator_of more_links chain unary_by ranked signed
product_of_names = refl

product_of_any : given (codes "* * *") ≡ Ok (e.Chain (any_at 0) (link 2 o.Multiply (any_at 4) ∷ []))
unfolding chars scale encode is_xid_start is_xid_continue in_ranges xid_start_ranges xid_continue_ranges function_entries kind_of_name axis_called axis_rule type_called target node_test predicate more_predicates abbreviated written step more_steps steps path more_arguments arguments called call number unquoted literal primary grouped onward filtered operand operator_of more_links chain unary_by ranked signed
product_of_any = refl

quotient_of_div : given (codes "div div div") ≡ Ok (e.Chain (name_at 0 (codes "div")) (link 4 o.Divide (name_at 8 (codes "div")) ∷ []))
unfolding chars scale encode is_xid_start is_xid_continue in_ranges xid_start_ranges xid_continue_ranges function_entries kind_of_name axis_called axis_rule type_called target node_test predicate more_predicates abbreviated written step more_steps steps path more_arguments arguments called call number unquoted literal primary grouped onward filtered operand operator_of more_links chain unary_by ranked signed
quotient_of_div = refl

-- behind an operand a name before `(` is an operator
operator_before_a_bracket : given (codes "1 and(2)") ≡ Ok (e.Chain (num 0 1) (link 2 o.And (num 6 2) ∷ []))
unfolding chars scale encode is_xid_start is_xid_continue in_ranges xid_start_ranges xid_continue_ranges function_entries kind_of_name axis_called axis_rule type_called target node_test predicate more_predicates abbreviated written step more_steps steps path more_arguments arguments called call number unquoted literal primary grouped onward filtered operand operator_of more_links chain unary_by ranked signed
operator_before_a_bracket = refl

ranks_of_truths : given (codes "1 = 2 or 3 < 4") ≡ Ok (e.Chain (e.Chain (num 0 1) (link 2 o.Equal (num 4 2) ∷ [])) (link 6 o.Or (e.Chain (num 9 3) (link 11 o.Less (num 13 4) ∷ [])) ∷ []))
unfolding chars scale encode is_xid_start is_xid_continue in_ranges xid_start_ranges xid_continue_ranges function_entries kind_of_name axis_called axis_rule type_called target node_test predicate more_predicates abbreviated written step more_steps steps path more_arguments arguments called call number unquoted literal primary grouped onward filtered operand operator_of more_links chain unary_by ranked signed
ranks_of_truths = refl

one_name : given (codes "a-b") ≡ Ok (name_at 0 (codes "a-b"))
unfolding chars scale encode is_xid_start is_xid_continue in_ranges xid_start_ranges xid_continue_ranges function_entries kind_of_name axis_called axis_rule type_called target node_test predicate more_predicates abbreviated written step more_steps steps path more_arguments arguments called call number unquoted literal primary grouped onward filtered operand operator_of more_links chain unary_by ranked signed
one_name = refl

two_signs : given (codes "- - 1") ≡ Ok (e.Negated 0 2 (num 4 1))
unfolding chars scale encode is_xid_start is_xid_continue in_ranges xid_start_ranges xid_continue_ranges function_entries kind_of_name axis_called axis_rule type_called target node_test predicate more_predicates abbreviated written step more_steps steps path more_arguments arguments called call number unquoted literal primary grouped onward filtered operand operator_of more_links chain unary_by ranked signed
two_signs = refl

sign_before_a_union : given (codes "-a|b") ≡ Ok (e.Negated 0 1 (e.Chain (name_at 1 (codes "a")) (link 2 o.Union (name_at 3 (codes "b")) ∷ [])))
unfolding chars scale encode is_xid_start is_xid_continue in_ranges xid_start_ranges xid_continue_ranges function_entries kind_of_name axis_called axis_rule type_called target node_test predicate more_predicates abbreviated written step more_steps steps path more_arguments arguments called call number unquoted literal primary grouped onward filtered operand operator_of more_links chain unary_by ranked signed
sign_before_a_union = refl

point_first : given (codes ".5") ≡ Ok (e.Number 0 (Some (pos 500000)))
unfolding chars scale encode is_xid_start is_xid_continue in_ranges xid_start_ranges xid_continue_ranges function_entries kind_of_name axis_called axis_rule type_called target node_test predicate more_predicates abbreviated written step more_steps steps path more_arguments arguments called call number unquoted literal primary grouped onward filtered operand operator_of more_links chain unary_by ranked signed
point_first = refl

point_last : given (codes "5.") ≡ Ok (num 0 5)
unfolding chars scale encode is_xid_start is_xid_continue in_ranges xid_start_ranges xid_continue_ranges function_entries kind_of_name axis_called axis_rule type_called target node_test predicate more_predicates abbreviated written step more_steps steps path more_arguments arguments called call number unquoted literal primary grouped onward filtered operand operator_of more_links chain unary_by ranked signed
point_last = refl

-- ---- paths

root : given (codes "/") ≡ Ok (e.Path 0 Root [])
unfolding chars scale encode is_xid_start is_xid_continue in_ranges xid_start_ranges xid_continue_ranges function_entries kind_of_name axis_called axis_rule type_called target node_test predicate more_predicates abbreviated written step more_steps steps path more_arguments arguments called call number unquoted literal primary grouped onward filtered operand operator_of more_links chain unary_by ranked signed
root = refl

below_the_root : given (codes "//a") ≡ Ok (e.Path 0 Root (below 2 (codes "a") ∷ []))
unfolding chars scale encode is_xid_start is_xid_continue in_ranges xid_start_ranges xid_continue_ranges function_entries kind_of_name axis_called axis_rule type_called target node_test predicate more_predicates abbreviated written step more_steps steps path more_arguments arguments called call number unquoted literal primary grouped onward filtered operand operator_of more_links chain unary_by ranked signed
below_the_root = refl

below_a_child : given (codes "a//b") ≡ Ok (path_at 0 (child 0 (codes "a") ∷ below 3 (codes "b") ∷ []))
unfolding chars scale encode is_xid_start is_xid_continue in_ranges xid_start_ranges xid_continue_ranges function_entries kind_of_name axis_called axis_rule type_called target node_test predicate more_predicates abbreviated written step more_steps steps path more_arguments arguments called call number unquoted literal primary grouped onward filtered operand operator_of more_links chain unary_by ranked signed
below_a_child = refl

attribute : given (codes "@a") ≡ Ok (path_at 0 (test_at 0 false axis.Attribute (named (codes "a")) [] ∷ []))
unfolding chars scale encode is_xid_start is_xid_continue in_ranges xid_start_ranges xid_continue_ranges function_entries kind_of_name axis_called axis_rule type_called target node_test predicate more_predicates abbreviated written step more_steps steps path more_arguments arguments called call number unquoted literal primary grouped onward filtered operand operator_of more_links chain unary_by ranked signed
attribute = refl

attribute_of_the_parent : given (codes "../@k") ≡ Ok (path_at 0 (parent 0 ∷ test_at 3 false axis.Attribute (named (codes "k")) [] ∷ []))
unfolding chars scale encode is_xid_start is_xid_continue in_ranges xid_start_ranges xid_continue_ranges function_entries kind_of_name axis_called axis_rule type_called target node_test predicate more_predicates abbreviated written step more_steps steps path more_arguments arguments called call number unquoted literal primary grouped onward filtered operand operator_of more_links chain unary_by ranked signed
attribute_of_the_parent = refl

axis_and_prefix : given (codes "ancestor-or-self::p:*") ≡ Ok (path_at 0 (test_at 0 false axis.AncestorOrSelf (test.InSpace 1) [] ∷ []))
unfolding chars scale encode is_xid_start is_xid_continue in_ranges xid_start_ranges xid_continue_ranges function_entries kind_of_name axis_called axis_rule type_called target node_test predicate more_predicates abbreviated written step more_steps steps path more_arguments arguments called call number unquoted literal primary grouped onward filtered operand operator_of more_links chain unary_by ranked signed
axis_and_prefix = refl

texts : given (codes "text()") ≡ Ok (path_at 0 (test_at 0 false axis.Child test.Text [] ∷ []))
unfolding chars scale encode is_xid_start is_xid_continue in_ranges xid_start_ranges xid_continue_ranges function_entries kind_of_name axis_called axis_rule type_called target node_test predicate more_predicates abbreviated written step more_steps steps path more_arguments arguments called call number unquoted literal primary grouped onward filtered operand operator_of more_links chain unary_by ranked signed
texts = refl

instructions : given (codes "processing-instruction('x')") ≡ Ok (path_at 0 (test_at 0 false axis.Child test.Nothing [] ∷ []))
unfolding chars scale encode is_xid_start is_xid_continue in_ranges xid_start_ranges xid_continue_ranges function_entries kind_of_name axis_called axis_rule type_called target node_test predicate more_predicates abbreviated written step more_steps steps path more_arguments arguments called call number unquoted literal primary grouped onward filtered operand operator_of more_links chain unary_by ranked signed
instructions = refl

name_behind_the_root : given (codes "/ div") ≡ Ok (e.Path 0 Root (child 2 (codes "div") ∷ []))
unfolding chars scale encode is_xid_start is_xid_continue in_ranges xid_start_ranges xid_continue_ranges function_entries kind_of_name axis_called axis_rule type_called target node_test predicate more_predicates abbreviated written step more_steps steps path more_arguments arguments called call number unquoted literal primary grouped onward filtered operand operator_of more_links chain unary_by ranked signed
name_behind_the_root = refl

two_predicates : given (codes "a[1][2]") ≡ Ok (path_at 0 (test_at 0 false axis.Child (named (codes "a")) (num 2 1 ∷ num 5 2 ∷ []) ∷ []))
unfolding chars scale encode is_xid_start is_xid_continue in_ranges xid_start_ranges xid_continue_ranges function_entries kind_of_name axis_called axis_rule type_called target node_test predicate more_predicates abbreviated written step more_steps steps path more_arguments arguments called call number unquoted literal primary grouped onward filtered operand operator_of more_links chain unary_by ranked signed
two_predicates = refl

filter : given (codes "(a)[1]") ≡ Ok (e.Filter (name_at 1 (codes "a")) (num 4 1 ∷ []))
unfolding chars scale encode is_xid_start is_xid_continue in_ranges xid_start_ranges xid_continue_ranges function_entries kind_of_name axis_called axis_rule type_called target node_test predicate more_predicates abbreviated written step more_steps steps path more_arguments arguments called call number unquoted literal primary grouped onward filtered operand operator_of more_links chain unary_by ranked signed
filter = refl

path_from_parentheses : given (codes "(a)/b") ≡ Ok (e.From (name_at 1 (codes "a")) (child 4 (codes "b") ∷ []))
unfolding chars scale encode is_xid_start is_xid_continue in_ranges xid_start_ranges xid_continue_ranges function_entries kind_of_name axis_called axis_rule type_called target node_test predicate more_predicates abbreviated written step more_steps steps path more_arguments arguments called call number unquoted literal primary grouped onward filtered operand operator_of more_links chain unary_by ranked signed
path_from_parentheses = refl

path_from_a_call : given (codes "instance('x')//b") ≡ Ok (e.From (e.Call 0 18 (e.Literal 9 (codes "x") ∷ [])) (below 15 (codes "b") ∷ []))
unfolding chars scale encode is_xid_start is_xid_continue in_ranges xid_start_ranges xid_continue_ranges function_entries kind_of_name axis_called axis_rule type_called target node_test predicate more_predicates abbreviated written step more_steps steps path more_arguments arguments called call number unquoted literal primary grouped onward filtered operand operator_of more_links chain unary_by ranked signed
path_from_a_call = refl

double_quotes : given (codes "\"it's\"") ≡ Ok (e.Literal 0 (codes "it's"))
unfolding chars scale encode is_xid_start is_xid_continue in_ranges xid_start_ranges xid_continue_ranges function_entries kind_of_name axis_called axis_rule type_called target node_test predicate more_predicates abbreviated written step more_steps steps path more_arguments arguments called call number unquoted literal primary grouped onward filtered operand operator_of more_links chain unary_by ranked signed
double_quotes = refl

-- ---- faults

no_operator : given (codes "2 2") ≡ Err (fault.Expr 2 Syntax)
unfolding chars scale encode is_xid_start is_xid_continue in_ranges xid_start_ranges xid_continue_ranges function_entries kind_of_name axis_called axis_rule type_called target node_test predicate more_predicates abbreviated written step more_steps steps path more_arguments arguments called call number unquoted literal primary grouped onward filtered operand operator_of more_links chain unary_by ranked signed
no_operator = refl

no_step : given (codes "./") ≡ Err (fault.Expr 2 Syntax)
unfolding chars scale encode is_xid_start is_xid_continue in_ranges xid_start_ranges xid_continue_ranges function_entries kind_of_name axis_called axis_rule type_called target node_test predicate more_predicates abbreviated written step more_steps steps path more_arguments arguments called call number unquoted literal primary grouped onward filtered operand operator_of more_links chain unary_by ranked signed
no_step = refl

predicate_of_a_point : given (codes ".[1]") ≡ Err (fault.Expr 1 Syntax)
unfolding chars scale encode is_xid_start is_xid_continue in_ranges xid_start_ranges xid_continue_ranges function_entries kind_of_name axis_called axis_rule type_called target node_test predicate more_predicates abbreviated written step more_steps steps path more_arguments arguments called call number unquoted literal primary grouped onward filtered operand operator_of more_links chain unary_by ranked signed
predicate_of_a_point = refl

open_literal : given (codes "1 + 'a") ≡ Err (fault.Expr 4 Syntax)
unfolding chars scale encode is_xid_start is_xid_continue in_ranges xid_start_ranges xid_continue_ranges function_entries kind_of_name axis_called axis_rule type_called target node_test predicate more_predicates abbreviated written step more_steps steps path more_arguments arguments called call number unquoted literal primary grouped onward filtered operand operator_of more_links chain unary_by ranked signed
open_literal = refl

axis_left_out : given (codes "following::a") ≡ Err (fault.Expr 0 Syntax)
unfolding chars scale encode is_xid_start is_xid_continue in_ranges xid_start_ranges xid_continue_ranges function_entries kind_of_name axis_called axis_rule type_called target node_test predicate more_predicates abbreviated written step more_steps steps path more_arguments arguments called call number unquoted literal primary grouped onward filtered operand operator_of more_links chain unary_by ranked signed
axis_left_out = refl

variable : given (codes "$v") ≡ Err (fault.Expr 0 Syntax)
unfolding chars scale encode is_xid_start is_xid_continue in_ranges xid_start_ranges xid_continue_ranges function_entries kind_of_name axis_called axis_rule type_called target node_test predicate more_predicates abbreviated written step more_steps steps path more_arguments arguments called call number unquoted literal primary grouped onward filtered operand operator_of more_links chain unary_by ranked signed
variable = refl

unknown_prefix : given (codes "./q:a)") ≡ Err (fault.Expr 2 Prefix)
unfolding chars scale encode is_xid_start is_xid_continue in_ranges xid_start_ranges xid_continue_ranges function_entries kind_of_name axis_called axis_rule type_called target node_test predicate more_predicates abbreviated written step more_steps steps path more_arguments arguments called call number unquoted literal primary grouped onward filtered operand operator_of more_links chain unary_by ranked signed
unknown_prefix = refl

unknown_function : given (codes "1 + f(2)") ≡ Err (fault.Expr 4 UnknownFunction)
unfolding chars scale encode is_xid_start is_xid_continue in_ranges xid_start_ranges xid_continue_ranges function_entries kind_of_name axis_called axis_rule type_called target node_test predicate more_predicates abbreviated written step more_steps steps path more_arguments arguments called call number unquoted literal primary grouped onward filtered operand operator_of more_links chain unary_by ranked signed
unknown_function = refl

clock : given (codes "now()") ≡ Err (fault.Expr 0 ClockOrRandom)
unfolding chars scale encode is_xid_start is_xid_continue in_ranges xid_start_ranges xid_continue_ranges function_entries kind_of_name axis_called axis_rule type_called target node_test predicate more_predicates abbreviated written step more_steps steps path more_arguments arguments called call number unquoted literal primary grouped onward filtered operand operator_of more_links chain unary_by ranked signed
clock = refl

too_few : given (codes "concat('x')") ≡ Err (fault.Expr 0 Arity)
unfolding chars scale encode is_xid_start is_xid_continue in_ranges xid_start_ranges xid_continue_ranges function_entries kind_of_name axis_called axis_rule type_called target node_test predicate more_predicates abbreviated written step more_steps steps path more_arguments arguments called call number unquoted literal primary grouped onward filtered operand operator_of more_links chain unary_by ranked signed
too_few = refl

-- a text many times
abbrev many : ℕ → List ℕ → List ℕ
many zero text = []
many (suc n) text = text ++ many n text

too_many_signs : given (many 65 (codes "-")) ≡ Err (fault.Expr 64 Deep)
unfolding chars scale encode is_xid_start is_xid_continue in_ranges xid_start_ranges xid_continue_ranges function_entries kind_of_name axis_called axis_rule type_called target node_test predicate more_predicates abbreviated written step more_steps steps path more_arguments arguments called call number unquoted literal primary grouped onward filtered operand operator_of more_links chain unary_by ranked signed
too_many_signs = refl

too_many_brackets : given (many 65 (codes "a[")) ≡ Err (fault.Expr 129 Deep)
unfolding chars scale encode is_xid_start is_xid_continue in_ranges xid_start_ranges xid_continue_ranges function_entries kind_of_name axis_called axis_rule type_called target node_test predicate more_predicates abbreviated written step more_steps steps path more_arguments arguments called call number unquoted literal primary grouped onward filtered operand operator_of more_links chain unary_by ranked signed
too_many_brackets = refl

-- a text that is too long is not read at all
too_long : given (many 4097 (codes "$")) ≡ Err (fault.Expr 0 Long)
unfolding chars scale encode is_xid_start is_xid_continue in_ranges xid_start_ranges xid_continue_ranges function_entries kind_of_name axis_called axis_rule type_called target node_test predicate more_predicates abbreviated written step more_steps steps path more_arguments arguments called call number unquoted literal primary grouped onward filtered operand operator_of more_links chain unary_by ranked signed
too_long = refl

-- ---- kinds by syntax

may-Literal : (place : ℕ) (text : List ℕ) → may_give_nodes (e.Literal place text) ≡ false
may-Literal place text = ap may_give_nodes (sym (e.rolls-Literal place text)) ∙ fold-roll-Expr Bool Bool Bool expr_may_give link_is_union (λ step. true) (Expr-F.Literal place text)

may-Call : (place code : ℕ) (found : List Expr) → may_give_nodes (e.Call place code found) ≡ is_marked 2 (entry_at function_entries code)
may-Call place code found = ap may_give_nodes (sym (e.rolls-Call place code found)) ∙ fold-roll-Expr Bool Bool Bool expr_may_give link_is_union (λ step. true) (Expr-F.Call place code found)

-- count('x')
count_of_a_literal : takes (entry_at function_entries 8) (e.Literal 6 (codes "x") ∷ []) ≡ false
unfolding function_entries
count_of_a_literal = ap (λ b. b && true) (may-Literal 6 (codes "x"))

-- count(choose(..)): what `choose` gives may be nodes, whatever its branches
count_of_a_choice : takes (entry_at function_entries 8) (e.Call 6 4 [] ∷ []) ≡ true
unfolding function_entries
count_of_a_choice = ap (λ b. b && true) (may-Call 6 4 [])

-- count(true())
count_of_a_truth : takes (entry_at function_entries 8) (e.Call 6 44 [] ∷ []) ≡ false
unfolding function_entries
count_of_a_truth = ap (λ b. b && true) (may-Call 6 44 [])
