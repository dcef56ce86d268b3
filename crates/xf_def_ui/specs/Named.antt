-- Which copy of an element is meant (XForms 1.1, section 4.7.1): the chain of rows of the repeats around it, as a line names it by numbers, as
-- the indexes give it, or as the target of an event has it.
use Rattle.std.specs.Prelude.{ℕ, suc, List, [], ◌∷◌, ◌++◌, Option, Some, None, slice_get, if◌then◌else◌}
use Rattle.xf_def_forest.specs.Visit.{has}
use Rattle.xf_def_xpath.specs.Setting.{◌>>=◌}
use Rattle.xf_def_ui.specs.Interface.{Interface}
use Rattle.xf_def_ui.specs.Elements.{ancestors, repeats_around}
use Rattle.xf_def_ui.specs.Around.{Around}
use Rattle.xf_def_ui.specs.Rows.{rows_of, row_at}
use Rattle.xf_def_ui.specs.Index.{Index, index_of}

-- ---- by numbers, that of the outermost repeat first

-- None within where a number names no row
abbrev pub with_row : (ℕ → Option (Option (List ℕ))) → Option ℕ → Option (Option (List ℕ))
with_row further None = Some None
with_row further (Some n) = further n

-- by the rows that were found so far, the repeats further in and the numbers that are left
abbrev pub named_from : Interface → Around → List ℕ → List ℕ → List ℕ → Option (Option (List ℕ))
named_from f a chain [] [] = Some (Some chain)
named_from f a chain (r ∷ rs) (k ∷ ks) = do
  rows ← rows_of f a chain r
  with_row (λ n. named_from f a (chain ++ n ∷ []) rs ks) (row_at rows k)
named_from f a chain rs ks = Some None

-- None within where they are too few or too many, or a row does not stand
abbrev pub named_rows : Interface → Around → ℕ → List ℕ → Option (Option (List ℕ))
named_rows f a n numbers = named_from f a [] (repeats_around f n) numbers

-- ---- by the indexes, as far as these go: the rows of an event at a model or at what stands in one

-- what follows a row, where there is one
abbrev pub cut_before : Option ℕ → List ℕ → List ℕ
cut_before None ns = []
cut_before (Some n) ns = n ∷ ns

-- of these repeats, one in the other
abbrev pub cut_at : Interface → List Index → List ℕ → List ℕ
cut_at f indexes [] = []
cut_at f indexes (r ∷ rs) = cut_before (index_of f indexes r).node (cut_at f indexes rs)

-- up to the first repeat whose index is 0
abbrev pub rows_cut : Interface → List Index → ℕ → List ℕ
rows_cut f indexes n = cut_at f indexes (repeats_around f n)

-- ---- by the target of the event that a handler is called for

-- the row for one repeat around the handler, which stands at this place in the chain
abbrev pub row_for : Interface → List Index → List ℕ → List ℕ → ℕ → ℕ → Option ℕ
row_for f indexes around_target rows place r = if has r around_target then slice_get rows place else (index_of f indexes r).node

-- the rows for these repeats, from this place of the chain on
abbrev pub rows_from : Interface → List Index → List ℕ → List ℕ → ℕ → List ℕ → Option (List ℕ)
rows_from f indexes around_target rows place [] = Some []
rows_from f indexes around_target rows place (r ∷ rs) = do
  n ← row_for f indexes around_target rows place r
  ns ← rows_from f indexes around_target rows (suc place) rs
  Some (n ∷ ns)

-- those of the target for each repeat around both, else the indexed ones; None where one of these is missing
abbrev pub handler_rows : Interface → List Index → ℕ → List ℕ → ℕ → Option (List ℕ)
handler_rows f indexes target rows handler = rows_from f indexes (ancestors f target) rows 0 (repeats_around f handler)
