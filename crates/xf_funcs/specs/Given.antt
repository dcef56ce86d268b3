-- The arguments of a call (XPath 1.0, section 3.2): each is converted to the type of its parameter.
use Rattle.std.specs.Prelude.{ℕ, List, [], Option, get_or}
use Rattle.xf_def_values.specs.declared.plain.Plain.{Plain}
use Rattle.xf_def_values.specs.declared.plain.Plain.TheVariants.{Text}
use Rattle.xf_def_values.specs.Bounded.{capped}
use Rattle.xf_def_values.specs.Conversions.{Decimal, number_in, text_in}

-- the string that a function makes of a value
abbrev pub string_of : Option ℕ → ℕ → Plain → Option (List ℕ)
string_of most d value = capped most (text_in d value)

-- the argument at a place from 0; a call has as many as its function takes
abbrev pub argument : List Plain → ℕ → Plain
argument given at = get_or given at (Text [])

abbrev pub string_at : Option ℕ → ℕ → List Plain → ℕ → Option (List ℕ)
string_at most d given at = string_of most d (argument given at)

abbrev pub number_at : ℕ → List Plain → ℕ → Decimal
number_at d given at = number_in d (argument given at)
