-- The decimals of a second: a point and digits (XML Schema part 2, section 3.2.7.1).
use Rattle.std.specs.Prelude.{ℕ, if◌then◌else◌, List, []}
use Rattle.xf_num.specs.Written.{leading_digits, after_digits}
use Rattle.xf_types.specs.Behind.{begins_with, past_first}

-- the digits after a point, and none where there is no point
abbrev pub decimals_at : List ℕ → List ℕ
decimals_at text = if begins_with 46 text then leading_digits (past_first text) else []

-- what follows a point and its digits, and otherwise the text
abbrev pub past_decimals : List ℕ → List ℕ
past_decimals text = if begins_with 46 text then after_digits (past_first text) else text
