-- The rows of a repeat (XForms 1.1, section 9.3.1): the nodes that it selects under a chain of rows of the repeats around it.
use Rattle.std.specs.Prelude.{ℕ, zero, suc, List, length, Option, None, min, max, slice_get}
use Rattle.xf_def_xpath.specs.Setting.{◌>>=◌}
use Rattle.xf_def_ui.specs.Interface.{Interface}
use Rattle.xf_def_ui.specs.Elements.{element_at}
use Rattle.xf_def_ui.specs.Around.{Around, all_bound}
use Rattle.xf_def_ui.specs.Context.{context_of}

-- in document order
abbrev pub rows_of : Interface → Around → List ℕ → ℕ → Option (List ℕ)
rows_of f a outer r = do
  c ← context_of f a outer r
  all_bound a c.model (element_at f r).binding c.focus

-- the row at an index, which counts from 1
abbrev pub row_at : List ℕ → ℕ → Option ℕ
row_at rows zero = None
row_at rows (suc k) = slice_get rows k

-- a number held between 1 and the number of rows; 0 without rows
abbrev pub held : ℕ → List ℕ → ℕ
held n rows = min (max n 1) (length rows)
