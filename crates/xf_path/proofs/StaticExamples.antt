-- Worked static expressions.
use Rattle.std.proofs.Common.{◌≡◌, ℕ, true, false, List, [], ◌∷◌, codes, refl, Some, None, pos}
use Rattle.xf_def_syntax.specs.declared.expr.Expr.TheOpen.{Expr-F}
use Rattle.xf_def_syntax.specs.declared.expr.Operator.{Operator}
use Rattle.xf_def_syntax.specs.declared.expr.Operator.TheVariants as operator
use Rattle.xf_def_syntax.specs.declared.expr.Start.TheVariants as start
use Rattle.xf_def_syntax.specs.declared.expr.Test.TheVariants as test
use Rattle.xf_name.specs.declared.axis.Axis.TheVariants as axis
use Rattle.xf_table.specs.Contents.{function_entries}
use Rattle.xf_path.specs.StaticParts.{Static}
use Rattle.xf_path.specs.Static.{expr_static, link_static, step_static}

abbrev number : ℕ → Static
number place = expr_static (Expr-F.Number place (Some (pos 1)))

abbrev literal : ℕ → Static
literal place = expr_static (Expr-F.Literal place (codes "x"))

-- a child step with these predicates, and a path of it
abbrev path_with : ℕ → List Static → Static
path_with place predicates = expr_static (Expr-F.Path place start.Context (step_static (record { place = place; is_below = false; is_written = true; axis = axis.Child; test = test.AnyName; predicates = predicates }) ∷ []))

abbrev call : ℕ → ℕ → List Static → Static
call place code es = expr_static (Expr-F.Call place code es)

abbrev two : Static → ℕ → Operator → Static → Static
two left place operator right = expr_static (Expr-F.Chain left (link_static (record { place = place; operator = operator; right = right }) ∷ []))

-- a[2]
a_number_in_a_predicate : (path_with 0 (number 2 ∷ [])).fault ≡ None
a_number_in_a_predicate = refl

-- a[. = 'x']: the path at 2
a_path_in_a_predicate : (path_with 0 (two (path_with 2 []) 4 operator.Equal (literal 6) ∷ [])).fault ≡ Some 2
a_path_in_a_predicate = refl

-- a[position() = last()]
positions_in_a_predicate : (path_with 0 (two (call 2 29 []) 13 operator.Equal (call 15 19 []) ∷ [])).fault ≡ None
unfolding function_entries
positions_in_a_predicate = refl

-- a[string-length('x') = 1]
a_plain_call_in_a_predicate : (path_with 0 (two (call 2 38 (literal 16 ∷ [])) 21 operator.Equal (number 23) ∷ [])).fault ≡ None
unfolding function_entries
a_plain_call_in_a_predicate = refl

-- a[string-length() = 1]: it asks the context node
a_bare_call_in_a_predicate : (path_with 0 (two (call 2 38 []) 18 operator.Equal (number 20) ∷ [])).fault ≡ Some 2
unfolding function_entries
a_bare_call_in_a_predicate = refl

-- a[count(b) = 1]
nodes_in_a_predicate : (path_with 0 (two (call 2 8 (path_with 8 [] ∷ [])) 11 operator.Equal (number 13) ∷ [])).fault ≡ Some 2
unfolding function_entries
nodes_in_a_predicate = refl

-- a[b | c]: the path comes before the union
a_union_in_a_predicate : (path_with 0 (two (path_with 2 []) 4 operator.Union (path_with 6 []) ∷ [])).fault ≡ Some 2
a_union_in_a_predicate = refl

-- a | b: outside a predicate a union may stand
a_union_outside : (two (path_with 0 []) 2 operator.Union (path_with 4 [])).fault ≡ None
a_union_outside = refl

-- 1 + index('r')
an_index : (two (number 0) 2 operator.Add (call 4 17 (literal 10 ∷ []))).fault ≡ Some 4
unfolding function_entries
an_index = refl

-- event('e')
an_event : (call 0 13 (literal 6 ∷ [])).fault ≡ Some 0
unfolding function_entries
an_event = refl

-- instance(), instance('i'), and instance(a)
instances_by_literals : ((call 0 18 []).fault ≡ None) × ((call 0 18 (literal 9 ∷ [])).fault ≡ None) × ((call 0 18 (path_with 9 [] ∷ [])).fault ≡ Some 0)
unfolding function_entries
instances_by_literals = (refl, refl, refl)

-- choose(1, a, 2): the branch gives nodes; choose(a, 1, 2): the condition may
branches_of_nodes : ((call 0 4 (number 7 ∷ path_with 10 [] ∷ number 13 ∷ [])).fault ≡ Some 10) × ((call 0 4 (path_with 7 [] ∷ number 10 ∷ number 13 ∷ [])).fault ≡ None)
unfolding function_entries
branches_of_nodes = (refl, refl)

-- if(index('r'), 1, 2): a branch that is not taken counts as well
a_part_of_a_call : (call 0 16 (call 3 17 (literal 9 ∷ []) ∷ number 15 ∷ number 18 ∷ [])).fault ≡ Some 3
unfolding function_entries
a_part_of_a_call = refl
