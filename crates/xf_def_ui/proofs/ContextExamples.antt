-- Where elements are evaluated, and the rows of repeats.
use Rattle.std.proofs.Common.{◌≡◌, ℕ, List, [], ◌∷◌, Option, Some, None, option_map, refl, codes}
use Rattle.xf_name.specs.declared.axis.Axis.TheVariants as axis
use Rattle.xf_def_syntax.specs.declared.expr.Test.TheVariants as test
use Rattle.xf_def_xpath.specs.Setting.{Focus}
use Rattle.xf_def_xpath.specs.Asked.{Trace}
use Rattle.xf_def_xpath.specs.Examples.{step, path, from_root}
use Rattle.xf_def_ui.specs.Interface.{Interface, nodes}
use Rattle.xf_def_ui.specs.Interface as sort
use Rattle.xf_def_ui.specs.Around.{alone, all_bound, first_bound}
use Rattle.xf_def_ui.specs.Context.{Context, context_of, moved}
use Rattle.xf_def_ui.specs.Rows.{rows_of, row_at, held}
use Rattle.xf_def_ui.specs.Examples

-- ---- rows

of_the_outer : rows_of Examples.lists (Examples.around Examples.two_lists) [] 1 ≡ Some (2 ∷ 7 ∷ [])
of_the_outer = refl

under_the_first : rows_of Examples.lists (Examples.around Examples.two_lists) (2 ∷ []) 3 ≡ Some (3 ∷ 5 ∷ [])
under_the_first = refl

under_the_second : rows_of Examples.lists (Examples.around Examples.two_lists) (7 ∷ []) 3 ≡ Some (8 ∷ [])
under_the_second = refl

-- a chain that is too short leaves no context node, and so no rows
under_none : rows_of Examples.lists (Examples.around Examples.two_lists) [] 3 ≡ Some []
under_none = refl

the_second_row : row_at (2 ∷ 7 ∷ []) 2 ≡ Some 7
the_second_row = refl

no_row_0 : row_at (2 ∷ 7 ∷ []) 0 ≡ None
no_row_0 = refl

not_below_1 : held 0 (2 ∷ 7 ∷ []) ≡ 1
not_below_1 = refl

not_past_the_end : held 9 (2 ∷ 7 ∷ []) ≡ 2
not_past_the_end = refl

without_rows : held 1 [] ≡ 0
without_rows = refl

-- ---- contexts

abbrev focus_at : List ℕ → ℕ → Option (Option Focus)
focus_at rows n = option_map (λ c. c.focus) (context_of Examples.lists (Examples.around Examples.two_lists) rows n)

-- a row has its place among the rows and their number
a_row : focus_at (7 ∷ []) 2 ≡ Some (Some (record { node = 7; position = 2; size = 2 }))
a_row = refl

an_inner_row : focus_at (2 ∷ 5 ∷ []) 4 ≡ Some (Some (record { node = 5; position = 2; size = 2 }))
an_inner_row = refl

-- a group on e holds a model with a submission of s, in which an action stands
abbrev sending : Interface
sending = Examples.interface
    (Examples.top (1 ∷ [])
    ∷ Examples.by (Examples.to (codes "e")) (Examples.inside 0 (2 ∷ []) sort.group)
    ∷ Examples.inside 1 (3 ∷ []) sort.other
    ∷ Examples.by (Examples.to (codes "s")) (Examples.inside 2 (4 ∷ []) sort.other)
    ∷ Examples.inside 3 [] (sort.action None)
    ∷ []) [] []

-- what stands in the model has the node of the group, what stands in the submission the node that is sent
in_such_a_model : option_map (λ c. c.focus) (context_of sending (Examples.around Examples.two_lists) [] 3) ≡ Some (Some (alone 10))
in_such_a_model = refl

in_its_submission : option_map (λ c. c.focus) (context_of sending (Examples.around Examples.two_lists) [] 4) ≡ Some (Some (alone 2))
in_its_submission = refl

-- a node that is no row any more stands alone
no_row_any_more : focus_at (10 ∷ []) 2 ≡ Some (Some (alone 10))
no_row_any_more = refl

the_document_element : focus_at [] 5 ≡ Some (Some (alone 1))
the_document_element = refl

-- the repeat itself is evaluated outside its rows
the_repeat : focus_at (7 ∷ 8 ∷ []) 3 ≡ Some (Some (record { node = 7; position = 2; size = 2 }))
the_repeat = refl

-- ---- bindings and models

-- a group on `zz`, which selects nothing, and one on e; in each a trigger, in the second one also an element of the second model;
-- then a group on a bind of the second model, and one that names that model
abbrev groups : Interface
groups = Examples.interface
    (Examples.top (1 ∷ 3 ∷ 6 ∷ 8 ∷ [])
    ∷ Examples.by (Examples.to (codes "zz")) (Examples.inside 0 (2 ∷ []) sort.group)
    ∷ Examples.inside 1 [] sort.field
    ∷ Examples.by (Examples.to (codes "e")) (Examples.inside 0 (4 ∷ 5 ∷ []) sort.group)
    ∷ Examples.inside 3 [] sort.field
    ∷ Examples.of_model 1 (Examples.inside 3 [] sort.field)
    ∷ Examples.by_number 1 (Examples.inside 0 (7 ∷ []) sort.group)
    ∷ Examples.inside 6 [] sort.field
    ∷ Examples.of_model 1 (Examples.inside 0 (9 ∷ []) sort.group)
    ∷ Examples.inside 8 [] sort.field
    ∷ [])
    [] []

abbrev within : ℕ → Option Context
within n = context_of groups (Examples.around Examples.two_lists) [] n

no_context_node : within 2 ≡ Some (record { model = 0; focus = None })
no_context_node = refl

the_bound_node : within 4 ≡ Some (record { model = 0; focus = Some (alone 10) })
the_bound_node = refl

-- an element of another model keeps the node of the element around
a_node_of_another_model : within 5 ≡ Some (record { model = 1; focus = Some (alone 10) })
a_node_of_another_model = refl

-- what a bind selects is of its own model, which is then in scope
the_model_of_a_bind : within 7 ≡ Some (record { model = 1; focus = Some (alone 14) })
the_model_of_a_bind = refl

-- where nothing around has a binding, it is the document element of the model in scope
of_the_second_model : within 9 ≡ Some (record { model = 1; focus = Some (alone 13) })
of_the_second_model = refl

-- in a group on zz a repeat on s, and one on a bind: no rows, since nothing is evaluated
abbrev lost_repeats : Interface
lost_repeats = Examples.interface
    (Examples.top (1 ∷ [])
    ∷ Examples.by (Examples.to (codes "zz")) (Examples.inside 0 (2 ∷ 3 ∷ []) sort.group)
    ∷ Examples.by (Examples.to (codes "s")) (Examples.inside 1 [] (sort.repeated 0 1))
    ∷ Examples.by_number 0 (Examples.inside 1 [] (sort.repeated 1 1))
    ∷ [])
    (2 ∷ 3 ∷ []) []

no_rows_of_an_expression : rows_of lost_repeats (Examples.around Examples.two_lists) [] 2 ≡ Some []
no_rows_of_an_expression = refl

no_rows_of_a_bind : rows_of lost_repeats (Examples.around Examples.two_lists) [] 3 ≡ Some []
no_rows_of_a_bind = refl

-- `context` in place of the context of an action
moved_to_e : moved (Examples.around Examples.two_lists) (record { model = 0; focus = Some (alone 1) }) (Some (Examples.to (codes "e")).meaning) ≡ Some (record { model = 0; focus = Some (alone 10) })
moved_to_e = refl

moved_to_nothing : moved (Examples.around Examples.two_lists) (record { model = 0; focus = Some (alone 1) }) (Some (Examples.to (codes "zz")).meaning) ≡ Some (record { model = 0; focus = None })
moved_to_nothing = refl

not_moved : moved (Examples.around Examples.two_lists) (record { model = 0; focus = Some (alone 1) }) None ≡ Some (record { model = 0; focus = Some (alone 1) })
not_moved = refl

-- what a submission selects is the context of what stands in it: 1 a model, 2 a submission of e, 4 one of zz, in each a handler
abbrev submissions : Interface
submissions = Examples.interface
    (Examples.top (1 ∷ [])
    ∷ Examples.of_model 0 (Examples.inside 0 (2 ∷ 4 ∷ []) sort.other)
    ∷ Examples.by (Examples.to (codes "e")) (Examples.inside 1 (3 ∷ []) sort.other)
    ∷ Examples.inside 2 [] (sort.action None)
    ∷ Examples.by (Examples.to (codes "zz")) (Examples.inside 1 (5 ∷ []) sort.other)
    ∷ Examples.inside 4 [] (sort.action None)
    ∷ [])
    [] []

in_a_submission : context_of submissions (Examples.around Examples.two_lists) [] 3 ≡ Some (record { model = 0; focus = Some (alone 10) })
in_a_submission = refl

in_one_that_selects_nothing : context_of submissions (Examples.around Examples.two_lists) [] 5 ≡ Some (record { model = 0; focus = None })
in_one_that_selects_nothing = refl

-- the submission itself is evaluated at the document element
the_submission_itself : context_of submissions (Examples.around Examples.two_lists) [] 4 ≡ Some (record { model = 0; focus = Some (alone 1) })
the_submission_itself = refl

-- ---- the first node, and then what stands for it

abbrev any_child : Trace
any_child = path (step axis.Child test.Node [] ∷ [])

-- the first one is b; the text behind it would stand for d
first_of_all : first_bound (Examples.around Examples.beside_text) 0 (nodes any_child.meaning) (Some (alone 1)) ≡ Some (Some 2)
first_of_all = refl

each_by_what_stands_for_it : all_bound (Examples.around Examples.beside_text) 0 (nodes any_child.meaning) (Some (alone 1)) ≡ Some (1 ∷ 2 ∷ [])
each_by_what_stands_for_it = refl

abbrev root : Trace
root = from_root []

a_root_by_its_document_element : first_bound (Examples.around Examples.beside_text) 0 (nodes root.meaning) (Some (alone 2)) ≡ Some (Some 1)
a_root_by_its_document_element = refl

-- a bind is not evaluated either where there is no context node
nothing_without_a_context_node : first_bound (Examples.around Examples.two_lists) 0 (sort.by_bind 0) None ≡ Some None
nothing_without_a_context_node = refl

the_first_of_a_bind : first_bound (Examples.around Examples.two_lists) 0 (sort.by_bind 0) (Some (alone 1)) ≡ Some (Some 2)
the_first_of_a_bind = refl
