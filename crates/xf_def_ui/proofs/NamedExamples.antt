-- Which copies are named.
use Rattle.std.proofs.Common.{◌≡◌, ℕ, List, [], ◌∷◌, Option, Some, None, refl}
use Rattle.xf_def_ui.specs.Index.{Index, unset}
use Rattle.xf_def_ui.specs.Named.{named_rows, rows_cut, handler_rows}
use Rattle.xf_def_ui.specs.Examples

abbrev by_numbers : ℕ → List ℕ → Option (Option (List ℕ))
by_numbers n numbers = named_rows Examples.lists (Examples.around Examples.two_lists) n numbers

-- ---- by a line

the_second_i_of_the_first_s : by_numbers 4 (1 ∷ 2 ∷ []) ≡ Some (Some (2 ∷ 5 ∷ []))
the_second_i_of_the_first_s = refl

outside_repeats : by_numbers 5 [] ≡ Some (Some [])
outside_repeats = refl

too_few : by_numbers 4 (1 ∷ []) ≡ Some None
too_few = refl

too_many : by_numbers 2 (1 ∷ 1 ∷ []) ≡ Some None
too_many = refl

no_second_i_there : by_numbers 4 (2 ∷ 2 ∷ []) ≡ Some None
no_second_i_there = refl

no_row_0 : by_numbers 2 (0 ∷ []) ≡ Some None
no_row_0 = refl

-- of a repeat itself the rows around it
the_inner_repeat : by_numbers 3 (2 ∷ []) ≡ Some (Some (7 ∷ []))
the_inner_repeat = refl

-- ---- by the target of an event, while the first s and its second i are indexed

abbrev indexes : List Index
indexes = record { index = 1; node = Some 2 } ∷ record { index = 2; node = Some 5 } ∷ []

-- a handler in both repeats is called for an input in both
those_of_the_target : handler_rows Examples.lists indexes 4 (7 ∷ 8 ∷ []) 4 ≡ Some (7 ∷ 8 ∷ [])
those_of_the_target = refl

-- the target is in r alone: for q the index counts
then_the_indexed_ones : handler_rows Examples.lists indexes 2 (7 ∷ []) 4 ≡ Some (7 ∷ 5 ∷ [])
then_the_indexed_ones = refl

-- the target stands outside
all_indexed : handler_rows Examples.lists indexes 5 [] 4 ≡ Some (2 ∷ 5 ∷ [])
all_indexed = refl

-- a repeat does not hold itself: for a handler in it the index counts
at_the_repeat_itself : handler_rows Examples.lists indexes 3 (7 ∷ []) 4 ≡ Some (7 ∷ 5 ∷ [])
at_the_repeat_itself = refl

-- a handler outside needs none
a_handler_outside : handler_rows Examples.lists indexes 4 (7 ∷ 8 ∷ []) 5 ≡ Some []
a_handler_outside = refl

-- a target whose rows were cut at an index 0: no row, and so no context node
cut_short : handler_rows Examples.lists (unset ∷ unset ∷ []) 4 [] 4 ≡ None
cut_short = refl

-- ---- by the indexes, cut at the first 0

both : rows_cut Examples.lists indexes 4 ≡ 2 ∷ 5 ∷ []
both = refl

without_inner_rows : rows_cut Examples.lists (record { index = 1; node = Some 2 } ∷ unset ∷ []) 4 ≡ 2 ∷ []
without_inner_rows = refl

without_any : rows_cut Examples.lists (unset ∷ unset ∷ []) 4 ≡ []
without_any = refl
