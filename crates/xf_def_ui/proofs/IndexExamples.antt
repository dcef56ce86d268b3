-- Indexes: the table, passes, how they start, and how one is set.
use Rattle.std.proofs.Common.{◌≡◌, ℕ, true, false, List, [], ◌∷◌, Some, None, Ok, Err, refl, codes}
use Rattle.xf_num.specs.Number.{scale}
use Rattle.xf_name.specs.declared.axis.Axis.TheVariants as axis
use Rattle.xf_def_syntax.specs.declared.expr.Operator.TheVariants as operator
use Rattle.xf_def_xpath.specs.Examples.{simple, step, child, path, number, literal, call, two}
use Rattle.xf_def_ui.specs.Interface.{Interface}
use Rattle.xf_def_ui.specs.Interface as sort
use Rattle.xf_def_ui.specs.Index.{Index, unset, index_rule, brought_up, pass, passes, indexed_rows, named_indexes}
use Rattle.xf_def_ui.specs.Started.{started, index_set}
use Rattle.xf_def_ui.specs.Examples

-- ---- the table, over the rows 3, 5 and 8

abbrev rows : List ℕ
rows = 3 ∷ 5 ∷ 8 ∷ []

no_rows : index_rule [] (Some 5) 2 [] ≡ (0, true)
no_rows = refl

-- the node at the index is a row: its place, wherever it was
the_kept_node : index_rule rows (Some 5) 3 [] ≡ (2, false)
the_kept_node = refl

-- the last row that was just inserted, though the kept node is a row
just_inserted : index_rule rows (Some 3) 1 (5 ∷ 8 ∷ []) ≡ (3, true)
just_inserted = refl

-- the order in which they were inserted is nothing
by_the_order_of_rows : index_rule rows (Some 3) 1 (8 ∷ 3 ∷ []) ≡ (3, true)
by_the_order_of_rows = refl

-- an inserted node that is no row, though one in it is, leaves the kept node
only_what_is_a_row : index_rule rows (Some 3) 1 (2 ∷ []) ≡ (1, false)
only_what_is_a_row = refl

-- the kept node is gone: the old index, which now names the next row
the_next_row : index_rule (3 ∷ 8 ∷ []) (Some 5) 2 [] ≡ (2, true)
the_next_row = refl

-- and the last one where the last row is gone
the_last_row : index_rule (3 ∷ 5 ∷ []) (Some 8) 3 [] ≡ (2, true)
the_last_row = refl

-- rows after none
from_none : index_rule rows None 0 [] ≡ (1, true)
from_none = refl

-- ---- the start

abbrev one : Index
one = record { index = 1; node = Some 2 }

at_the_first_rows : started Examples.lists (Examples.around Examples.two_lists) ≡ Some (record { index = 1; node = Some 2 } ∷ record { index = 1; node = Some 3 } ∷ [])
at_the_first_rows = refl

without_any : started Examples.lists (Examples.around Examples.no_list) ≡ Some (unset ∷ unset ∷ [])
without_any = refl

-- a repeat over s that starts at 9
abbrev starts_late : Interface
starts_late = Examples.interface (Examples.top (1 ∷ []) ∷ Examples.by (Examples.to (codes "s")) (Examples.inside 0 [] (sort.repeated 0 9)) ∷ []) (1 ∷ []) []

held_at_the_last : started starts_late (Examples.around Examples.two_lists) ≡ Some (record { index = 2; node = Some 7 } ∷ [])
held_at_the_last = refl

-- ---- passes: the second row of r and its first i, or the first row of r and its second i

abbrev at_second : List Index
at_second = record { index = 2; node = Some 7 } ∷ record { index = 1; node = Some 8 } ∷ []

abbrev at_first : List Index
at_first = record { index = 1; node = Some 2 } ∷ record { index = 2; node = Some 5 } ∷ []

nothing_changed : brought_up 1 Examples.lists (Examples.around Examples.two_lists) [] at_first ≡ Ok at_first
nothing_changed = refl

-- the last row is deleted: the index goes back with it, and the repeat inside starts anew, at 1 though it was there at 2
after_a_delete_of_the_last : brought_up 2 Examples.lists (Examples.around Examples.first_list) [] (record { index = 2; node = Some 7 } ∷ record { index = 2; node = Some 9 } ∷ []) ≡ Ok (record { index = 1; node = Some 2 } ∷ record { index = 1; node = Some 3 } ∷ [])
after_a_delete_of_the_last = refl

-- the row before is deleted: the kept node is the first row now, and the repeat inside keeps its own
after_a_delete_before : brought_up 2 Examples.lists (Examples.around Examples.second_list) [] at_second ≡ Ok (record { index = 1; node = Some 7 } ∷ record { index = 1; node = Some 8 } ∷ [])
after_a_delete_before = refl

after_all_are_gone : brought_up 2 Examples.lists (Examples.around Examples.no_list) [] at_first ≡ Ok (unset ∷ unset ∷ [])
after_all_are_gone = refl

-- the second s is inserted: it is indexed, and the repeat inside starts in it
after_an_insert : brought_up 2 Examples.lists (Examples.around Examples.two_lists) (7 ∷ []) at_first ≡ Ok at_second
after_an_insert = refl

-- the first s is inserted again while it is indexed: the repeat inside starts anew though its kept node is a row
inside_an_inserted_row : brought_up 2 Examples.lists (Examples.around Examples.two_lists) (2 ∷ []) at_first ≡ Ok (record { index = 1; node = Some 2 } ∷ record { index = 1; node = Some 3 } ∷ [])
inside_an_inserted_row = refl

-- a row of the inner repeat alone is inserted
of_the_inner_alone : brought_up 2 Examples.lists (Examples.around Examples.two_lists) (3 ∷ []) at_first ≡ Ok (record { index = 1; node = Some 2 } ∷ record { index = 1; node = Some 3 } ∷ [])
of_the_inner_alone = refl

-- a repeat over s/i, of which the row 5 is indexed
abbrev through : Interface
through = Examples.interface
    (Examples.top (1 ∷ []) ∷ Examples.by (path (child (codes "s") ∷ child (codes "i") ∷ [])) (Examples.inside 0 [] (sort.repeated 0 1)) ∷ [])
    (1 ∷ []) []

-- an s is inserted: the i in it is a row, but not what was inserted
only_the_top_was_inserted : brought_up 1 through (Examples.around Examples.two_lists) (7 ∷ []) (record { index = 2; node = Some 5 } ∷ []) ≡ Ok (record { index = 2; node = Some 5 } ∷ [])
only_the_top_was_inserted = refl

-- one pass changes the indexes, so that a second one is needed to see that nothing changes any more
one_pass_is_not_enough : brought_up 1 Examples.lists (Examples.around Examples.two_lists) (7 ∷ []) at_first ≡ Err passes
one_pass_is_not_enough = refl

-- a repeat k on s[index('k') = 0] has rows exactly where it has none
abbrev unsteady : Interface
unsteady = Examples.interface
    (Examples.top (1 ∷ [])
    ∷ Examples.named (codes "k") (Examples.by (path (step axis.Child (simple (codes "s")) (two (call 17 (literal (codes "k") ∷ [])) operator.Equal (number 0) ∷ []) ∷ [])) (Examples.inside 0 [] (sort.repeated 0 1)))
    ∷ [])
    (1 ∷ []) []

never_at_rest : brought_up 4 unsteady (Examples.around Examples.two_lists) [] (one ∷ []) ≡ Err passes
unfolding scale
never_at_rest = refl

-- the inner repeat sees the index of the outer one as this pass has made it
in_one_pass : pass Examples.lists (Examples.around Examples.two_lists) (7 ∷ []) at_first ≡ Some at_second
in_one_pass = refl

-- ---- what indexes give

the_indexed_rows : indexed_rows Examples.lists at_first 4 ≡ Some (2 ∷ 5 ∷ [])
the_indexed_rows = refl

not_under_index_0 : indexed_rows Examples.lists (one ∷ unset ∷ []) 4 ≡ None
not_under_index_0 = refl

by_their_ids : named_indexes Examples.lists at_first ≡ (codes "r", 1) ∷ (codes "q", 2) ∷ []
by_their_ids = refl

-- a repeat without an id has no index by name
without_an_id : named_indexes starts_late (one ∷ []) ≡ []
without_an_id = refl

-- ---- setting one

set_to_the_second : index_set Examples.lists (Examples.around Examples.two_lists) 1 2 at_first ≡ Some at_second
set_to_the_second = refl

-- the indexed node stays, and so does the repeat inside
set_to_the_same : index_set Examples.lists (Examples.around Examples.two_lists) 1 0 at_first ≡ Some at_first
set_to_the_same = refl

set_past_the_end : index_set Examples.lists (Examples.around Examples.two_lists) 1 9 at_first ≡ Some at_second
set_past_the_end = refl

set_without_rows : index_set Examples.lists (Examples.around Examples.no_list) 1 1 (unset ∷ unset ∷ []) ≡ Some (unset ∷ unset ∷ [])
set_without_rows = refl
