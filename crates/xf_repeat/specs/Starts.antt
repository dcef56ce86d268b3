-- Which repeats start, and at which index (XForms 1.1, sections 9.3.1 and 10.5).
use Rattle.std.specs.Prelude.{ℕ, Bool, true, List, length, min}
use Rattle.xf_def_forest.specs.Visit.{has}
use Rattle.xf_def_ui.specs.Elements.{ancestors, element_at, repeat_start}
use Rattle.xf_def_ui.specs.Interface.{Interface}
use Rattle.xf_def_ui.specs.Rows.{held}
use Rattle.xf_repeat.specs.declared.starting.Start.{Start}
use Rattle.xf_repeat.specs.declared.starting.Start.TheVariants.{Written, Inside}

-- all, or those that stand in one
abbrev pub is_taken : Interface → Start → ℕ → Bool
is_taken f Written = λ r. true
is_taken f (Inside outer) = λ r. has outer (ancestors f r)

-- the index of a repeat with these rows
abbrev pub taken_by : Interface → Start → ℕ → List ℕ → ℕ
taken_by f Written = λ r. held (repeat_start (element_at f r).sort)
taken_by f (Inside outer) = λ r rows. min 1 (length rows)
