-- What stands at a place of a table.
use Rattle.std.specs.Prelude.{ℕ, zero, suc, List, [], ◌∷◌}
use Rattle.xf_table.specs.Rows.{Entry}

-- the name at a place, empty past the end
abbrev pub name_at : List Entry → ℕ → List ℕ
name_at [] place = []
name_at (entry ∷ entries) zero = entry.name
name_at (entry ∷ entries) (suc place) = name_at entries place

-- the code at a place, 0 past the end
abbrev pub code_at : List Entry → ℕ → ℕ
code_at [] place = 0
code_at (entry ∷ entries) zero = entry.code
code_at (entry ∷ entries) (suc place) = code_at entries place
