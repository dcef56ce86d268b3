-- What functions of plain values are (XPath 1.0, section 3.2). Expressions have their meaning for any such functions; those of a form are
-- `called` of `xf_funcs`.
use Rattle.std.specs.Prelude.{ℕ, List, Option}
use Rattle.xf_def_values.specs.declared.plain.Plain.{Plain}

-- by the most bytes that a string may have, the decimals of numbers, the code in the table of functions, and the arguments; None is a
-- string that has more
abbrev pub Functions : Type 0
Functions = Option ℕ → ℕ → ℕ → List Plain → Option Plain
