-- The lines of a sheet that are to be cases.
use Rattle.std.specs.Prelude.{ℕ, ◌+◌, Bool, List, [], ◌∷◌, not, if◌then◌else◌, nat_eq, codes}
use Rattle.std.specs.List.{starts_with}

-- a line is to be a case, unless it is a comment
abbrev pub is_case : List ℕ → Bool
is_case line = not (starts_with nat_eq line (codes "#"))

-- the numbers of the lines that are to be cases, where the first line has the given number
abbrev pub case_numbers : ℕ → List (List ℕ) → List ℕ
case_numbers number [] = []
case_numbers number (line ∷ lines) =
    if is_case line then number ∷ case_numbers (number + 1) lines else case_numbers (number + 1) lines
