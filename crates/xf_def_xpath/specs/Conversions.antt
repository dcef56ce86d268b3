-- Conversions of values (XPath 1.0, sections 3.2 and 4): of a set, the string value of the node that is first in document order counts.
use Rattle.std.specs.Prelude.{ℕ, Bool, true, false, List, [], ◌∷◌, Option, Some, option_map}
use Rattle.xf_def_xpath.specs.declared.value.Value.{Value}
use Rattle.xf_def_xpath.specs.declared.value.Value.TheVariants.{Nodes, Text, Number, Truth}
use Rattle.xf_def_values.specs.declared.plain.Plain.{Plain}
use Rattle.xf_def_values.specs.Conversions.{Decimal, truth_in, number_in, text_in}
use Rattle.xf_def_values.specs.declared.plain.Plain.TheVariants as plain
use Rattle.xf_def_xpath.specs.Setting.{Setting, ◌>>=◌, each, capped}

-- a plain value where nodes are asked is the empty set
abbrev pub nodes_of : Value → List ℕ
nodes_of (Nodes ns) = ns
nodes_of value = []

abbrev pub value_of_plain : Plain → Value
value_of_plain (plain.Text text) = Text text
value_of_plain (plain.Number k) = Number k
value_of_plain (plain.Truth b) = Truth b

-- ---- as a truth (section 4.3): no string is made

abbrev pub is_filled : List ℕ → Bool
is_filled [] = false
is_filled (x ∷ xs) = true

abbrev pub truth_of : Value → Bool
truth_of (Nodes ns) = is_filled ns
truth_of (Text text) = truth_in (plain.Text text)
truth_of (Number k) = truth_in (plain.Number k)
truth_of (Truth b) = truth_in (plain.Truth b)

-- ---- as a text or a number

abbrev pub string_of_node : Setting → ℕ → Option (List ℕ)
string_of_node s n = capped s.most (s.strings n)

abbrev pub strings_of : Setting → List ℕ → Option (List (List ℕ))
strings_of s ns = each (string_of_node s) ns

-- that of the first node, empty where there is none
abbrev pub first_string : Setting → List ℕ → Option (List ℕ)
first_string s [] = Some []
first_string s (n ∷ ns) = string_of_node s n

-- the plain value that stands for a value (section 3.2)
abbrev pub plain_of : Setting → Value → Option Plain
plain_of s (Nodes ns) = option_map plain.Text (first_string s ns)
plain_of s (Text text) = Some (plain.Text text)
plain_of s (Number k) = Some (plain.Number k)
plain_of s (Truth b) = Some (plain.Truth b)

-- as a number (section 4.4)
abbrev pub number_of : Setting → Value → Option Decimal
number_of s value = option_map (number_in s.given.decimals) (plain_of s value)

-- as a text (section 4.2)
abbrev pub string_of : Setting → Value → Option (List ℕ)
string_of s value = do
  p ← plain_of s value
  capped s.most (text_in s.given.decimals p)
