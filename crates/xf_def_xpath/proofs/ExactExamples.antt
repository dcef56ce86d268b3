-- Which expressions the law of two forests covers, one level at a time.
use Rattle.std.proofs.Common.{◌≡◌, ℕ, Bool, true, false, List, [], ◌∷◌, Some, pos, refl, codes}
use Rattle.xf_name.specs.declared.axis.Axis.{Axis}
use Rattle.xf_name.specs.declared.axis.Axis.TheVariants as axis
use Rattle.xf_def_syntax.specs.declared.expr.Test.{Test}
use Rattle.xf_def_syntax.specs.declared.expr.Test.TheVariants as test
use Rattle.xf_def_syntax.specs.declared.expr.Operator.{Operator}
use Rattle.xf_def_syntax.specs.declared.expr.Operator.TheVariants as operator
use Rattle.xf_def_syntax.specs.declared.expr.Start.TheVariants as start
use Rattle.xf_def_syntax.specs.declared.expr.Expr.TheOpen.{Expr-F}
use Rattle.xf_def_xpath.specs.Examples.{simple}
use Rattle.xf_def_xpath.specs.Exact.{Facts, expr_facts, step_facts}
use Rattle.xf_def_xpath.specs.Quiet.{Quiet, quiet, expr_quiet, step_quiet}

abbrev step : Bool → Axis → Test → List Facts → Bool
step is_below axis test predicates = step_facts (record { place = 0; is_below = is_below; is_written = true; axis = axis; test = test; predicates = predicates })

abbrev path : List Bool → Facts
path steps = expr_facts (Expr-F.Path 0 start.Context steps)

abbrev one : Facts
one = expr_facts (Expr-F.Number 0 (Some (pos 1000000)))

abbrev call : ℕ → List Facts → Facts
call code arguments = expr_facts (Expr-F.Call 0 code arguments)

abbrev two : Facts → Operator → Facts → Facts
two left operator right = expr_facts (Expr-F.Chain left (record { operator = operator; right = right } ∷ []))

abbrev a : List Facts → Bool
a predicates = step false axis.Child (simple (codes "a")) predicates

abbrev up : Bool
up = step_facts (record { place = 0; is_below = false; is_written = false; axis = axis.Parent; test = test.Node; predicates = [] })

-- count(../preceding-sibling::a) + 1
a_place_is_covered : (two (call 8 (path (up ∷ step false axis.PrecedingSibling (simple (codes "a")) [] ∷ []) ∷ [])) operator.Add one).is_exact ≡ true
a_place_is_covered = refl

-- sum(//a[position() < last()])
a_sum_is_covered : (call 42 (path (step true axis.Child (simple (codes "a")) (two (call 29 []) operator.Less (call 19 []) ∷ []) ∷ []) ∷ [])).is_exact ≡ true
a_sum_is_covered = refl

-- if(a = 'x', concat(a, 1), string())
branches_are_covered : (call 16 (two (path (a [] ∷ [])) operator.Equal one ∷ call 6 (path (a [] ∷ []) ∷ one ∷ []) ∷ call 37 [] ∷ [])).is_exact ≡ true
branches_are_covered = refl

-- instance('z'), instance(a)
a_written_id_is_covered : (call 18 (expr_facts (Expr-F.Literal 0 (codes "z")) ∷ [])).is_exact ≡ true
a_written_id_is_covered = refl

a_computed_id_is_not : (call 18 (path (a [] ∷ []) ∷ [])).is_exact ≡ false
a_computed_id_is_not = refl

-- a[. = 1], a[a]
a_predicate_on_values_is_not : path (a (two (path []) operator.Equal one ∷ []) ∷ []) ≡ record { is_placed = false; is_plain = false; is_exact = false }
a_predicate_on_values_is_not = refl

-- a/text(), self::text(), a/node(), .//.., .//following-sibling::a
texts_are_not : (path (a [] ∷ step false axis.Child test.Text [] ∷ [])).is_exact ≡ false
texts_are_not = refl

a_test_of_itself_is_covered : (path (step false axis.Self_ test.Text [] ∷ [])).is_exact ≡ true
a_test_of_itself_is_covered = refl

a_pair_is_not : (path (step true axis.Parent test.AnyName [] ∷ [])).is_exact ≡ false
a_pair_is_not = refl

siblings_of_all_are_not : (path (step true axis.FollowingSibling (simple (codes "a")) [] ∷ [])).is_exact ≡ false
siblings_of_all_are_not = refl

-- choose(a, 1, 1), choose(a, a, 1)
plain_branches_are_covered : (call 4 (path (a [] ∷ []) ∷ one ∷ one ∷ [])).is_exact ≡ true
plain_branches_are_covered = refl

branches_of_nodes_are_not : (call 4 (path (a [] ∷ []) ∷ path (a [] ∷ []) ∷ one ∷ [])).is_exact ≡ false
branches_of_nodes_are_not = refl

-- index('r'), event('x')
the_index_is_not : (call 17 (one ∷ [])).is_exact ≡ false
the_index_is_not = refl

the_event_is_not : (call 13 (one ∷ [])).is_exact ≡ false
the_event_is_not = refl

-- ---- what reads nothing by its syntax

abbrev quiet_step : Bool → Axis → Test → Bool
quiet_step is_below axis test = step_quiet (record { place = 0; is_below = is_below; is_written = true; axis = axis; test = test; predicates = [] })

abbrev quiet_path : List Bool → Quiet
quiet_path steps = expr_quiet (Expr-F.Path 0 start.Context steps)

-- a | .//a, instance('z')/a, current()
places_read_nothing : (expr_quiet (Expr-F.Chain (quiet_path (quiet_step false axis.Child (simple (codes "a")) ∷ [])) (record { operator = operator.Union; right = quiet_path (quiet_step true axis.Child (simple (codes "a")) ∷ []) } ∷ []))).is_quiet ≡ true
places_read_nothing = refl

an_instance_reads_nothing : (expr_quiet (Expr-F.From (expr_quiet (Expr-F.Call 0 18 (expr_quiet (Expr-F.Literal 0 (codes "z")) ∷ []))) (quiet_step false axis.Child (simple (codes "a")) ∷ []))).is_quiet ≡ true
an_instance_reads_nothing = refl

the_current_node_reads_nothing : expr_quiet (Expr-F.Call 0 10 []) ≡ quiet true false
the_current_node_reads_nothing = refl

-- instance(a), a/text(), .//.., -a, a = a
a_computed_id_reads : (expr_quiet (Expr-F.Call 0 18 (quiet_path (quiet_step false axis.Child (simple (codes "a")) ∷ []) ∷ []))).is_quiet ≡ false
a_computed_id_reads = refl

a_written_text_reads : (quiet_path (quiet_step false axis.Child test.Text ∷ [])).is_quiet ≡ false
a_written_text_reads = refl

a_pair_reads : (quiet_path (quiet_step true axis.Parent test.Node ∷ [])).is_quiet ≡ false
a_pair_reads = refl

a_sign_reads : expr_quiet (Expr-F.Negated 0 1 (quiet_path (quiet_step false axis.Child (simple (codes "a")) ∷ []))) ≡ quiet false true
a_sign_reads = refl

a_comparison_reads : (expr_quiet (Expr-F.Chain (quiet_path []) (record { operator = operator.Equal; right = quiet_path [] } ∷ []))).is_quiet ≡ false
a_comparison_reads = refl
