-- The rows in which a copy of a control stands, and their numbers (XForms 1.1, section 9.3.1).
use Rattle.std.specs.Prelude.{ℕ, ◌≡◌, Bool, false, ◌&&◌, List, [], ◌∷◌, ◌++◌, map, take, Option, Some, None, unwrap_or, ◌==◌}
use Rattle.xf_def_ui.specs.Around.{Around}
use Rattle.xf_def_ui.specs.Interface.{Interface}
use Rattle.xf_def_ui.specs.Rows.{rows_of}
use Rattle.xf_def_machine.specs.ControlText.{number_in}
use Rattle.xf_report_state.specs.declared.levels.Level.{Level}

-- each row's number among the rows of its repeat under the rows before; a string that is too long leaves none
abbrev pub numbers_under : Interface → Around → List ℕ → List ℕ → List ℕ → List ℕ
numbers_under f a chain (r ∷ rs) (n ∷ ns) = number_in (unwrap_or (rows_of f a chain r) []) n ∷ numbers_under f a (chain ++ n ∷ []) rs ns
numbers_under f a chain rs ns = []

abbrev pub row_of : Level → ℕ
row_of l = l.row.number

-- the levels tell what they are made of, under this chain
abbrev pub AreLevels : Interface → Around → List ℕ → List Level → Type 0
AreLevels f a chain [] = Unit {0}
AreLevels f a chain (l ∷ ls) =
    (l.rows ≡ unwrap_or (rows_of f a chain l.repeat) []) × (l.number ≡ number_in l.rows (row_of l)) × AreLevels f a (chain ++ row_of l ∷ []) ls

-- the first of them, so many, are of these repeats, with these rows
pub record Starts (levels : List Level) (count : ℕ) (rs ns : List ℕ) : Type 0 where
  pub repeats : map (λ l. l.repeat) (take count levels) ≡ take count rs
  pub rows : map row_of (take count levels) ≡ take count ns

-- there is a level, of this repeat, with this row
abbrev pub is_at : ℕ → ℕ → Option Level → Bool
is_at repeat row None = false
is_at repeat row (Some l) = (l.repeat == repeat) && (row_of l == row)
