-- Where bytes are no JSON.
use Rattle.std.specs.Prelude.{ℕ, suc, ◌≡◌, ◌≤◌, ◌+◌, ◌==◌, if◌then◌else◌, List, [], ◌∷◌, IsSomeAnd, Option, Some, None}
use Rattle.xf_form_explain.specs.declared.detail.Detail.{Detail}
use Rattle.xf_form_explain.specs.declared.detail.Detail.TheVariants.{Unread}

-- how many bytes a line has, of bytes that begin in the line `at` behind so many of its bytes
abbrev pub width_in : ℕ → ℕ → ℕ → List ℕ → Option ℕ
width_in at width line [] = if at == line then Some width else None
width_in at width line (b ∷ bs) =
    if b == 10 then (if at == line then Some width else width_in (at + 1) 0 line bs) else width_in at (width + 1) line bs

-- what is told is in the bytes: the line is one of theirs, and the column stands in it or right behind it
abbrev pub IsUnreadIn : List ℕ → Detail → Type 0
IsUnreadIn bytes (Unread line column is_early) = IsSomeAnd (width_in 1 0 line bytes) (λ width. column ≤ width + 1)
IsUnreadIn bytes detail = Unit {0}
