-- Functions (XPath 1.0, section 4; XForms 1.1, section 7).
use Rattle.std.specs.Prelude.{ℕ, zero, suc, Bool, true, false, List, [], ◌∷◌, map, filter, find, length, fold, ℤ, pos, Option, Some, None, option_map, option_and_then, unwrap_or, ◌==◌, if◌then◌else◌}
use Rattle.std.specs.Prelude as std
use Rattle.xf_num.specs.Number.{sum, quotient, order_of}
use Rattle.xf_num.specs.Written.{read_at}
use Rattle.xf_name.specs.Bindings.{Bindings, text_of_space}
use Rattle.xf_def_forest.specs.declared.content.Name.{Name}
use Rattle.xf_def_forest.specs.Forest.{name_in, written_in}
use Rattle.xf_def_forest.specs.Visit.{Visit}
use Rattle.xf_def_xpath.specs.declared.value.Value.{Value}
use Rattle.xf_def_xpath.specs.declared.value.Value.TheVariants.{Nodes, Text, Number, Truth}
use Rattle.xf_def_xpath.specs.Given.{document_of, beside, property_of}
use Rattle.xf_def_values.specs.declared.plain.Plain.{Plain}
use Rattle.xf_def_values.specs.Conversions.{Decimal, whole}
use Rattle.xf_def_xpath.specs.Setting.{Setting, Focus, Meaning, ◌>>=◌, each, capped}
use Rattle.xf_def_xpath.specs.Conversions.{nodes_of, truth_of, number_of, string_of, plain_of, value_of_plain, strings_of, is_filled}
use Rattle.xf_def_xpath.specs.Comparisons.{is_less, is_greater}
use Rattle.xf_def_xpath.specs.Table.{Function}
use Rattle.xf_def_xpath.specs.Table as of

-- ---- arguments

-- the argument at a place from 0; one that is not written is the empty set
abbrev pub argument : ℕ → List Meaning → Meaning
argument at [] s c = Some (Nodes [])
argument zero (m ∷ ms) s c = m s c
argument (suc at) (m ∷ ms) s c = argument at ms s c

-- the argument, or the context node where none is written
abbrev pub own_argument : List Meaning → Meaning
own_argument [] s c = Some (Nodes (c.node ∷ []))
own_argument (m ∷ ms) s c = m s c

abbrev pub plain_arguments : List Meaning → Setting → Focus → Option (List Plain)
plain_arguments ms s c = each (λ m. m s c >>= plain_of s) ms

abbrev pub text_value : Setting → List ℕ → Option Value
text_value s text = option_map Text (capped s.most text)

-- ---- functions of nodes (XPath 1.0, sections 4.1 and 4.4; XForms 1.1, section 7.7)

abbrev pub count_of : Setting → List ℕ → Value
count_of s ns = Number (whole s.given.decimals (length ns))

abbrev pub filled_count : Setting → List ℕ → Option Value
filled_count s ns = option_map (λ texts. Number (whole s.given.decimals (length (filter is_filled texts)))) (strings_of s ns)

-- what is made of the numbers that the nodes have, in document order
abbrev pub of_numbers : Setting → (List Decimal → Decimal) → List ℕ → Option Value
of_numbers s made ns = option_map (λ texts. Number (made (map (read_at s.given.decimals) texts))) (strings_of s ns)

abbrev pub total : List Decimal → Decimal
total ks = fold sum (Some (pos 0)) ks

-- of no numbers a quotient by zero
abbrev pub average : ℕ → List Decimal → Decimal
average d ks = quotient d (total ks) (whole d (length ks))

abbrev pub chosen : Bool → Decimal → Decimal → Decimal
chosen true j k = j
chosen false j k = k

-- the greater of two, and the lesser: NaN where one is NaN
abbrev pub greater : Decimal → Decimal → Decimal
greater (Some j) (Some k) = chosen (is_greater (order_of (Some j) (Some k))) (Some j) (Some k)
greater j k = None

abbrev pub lesser : Decimal → Decimal → Decimal
lesser (Some j) (Some k) = chosen (is_less (order_of (Some j) (Some k))) (Some j) (Some k)
lesser j k = None

-- NaN where there is none
abbrev pub extreme : (Decimal → Decimal → Decimal) → List Decimal → Decimal
extreme better [] = None
extreme better (k ∷ ks) = fold better k ks

-- the name of the first node
abbrev pub first_name : List Visit → List ℕ → Option Name
first_name all [] = None
first_name all (n ∷ ns) = option_and_then (λ x. name_in x.content) (find (λ x. x.number == n) all)

abbrev pub local_part : Option Name → List ℕ
local_part None = []
local_part (Some name) = name.meaning.local

abbrev pub namespace_of : Bindings → Option Name → List ℕ
namespace_of bindings None = []
namespace_of bindings (Some name) = unwrap_or (text_of_space bindings name.meaning.space) []

-- ---- functions of what surrounds the expression (XForms 1.1, sections 7.7, 7.10 and 7.11)

-- the node, or the empty set
abbrev pub set_of : Option ℕ → Value
set_of None = Nodes []
set_of (Some n) = Nodes (n ∷ [])

abbrev pub index_number : ℕ → Option ℕ → Decimal
index_number d None = None
index_number d (Some index) = whole d index

-- the id of an instance that is meant: the empty text where none is written
abbrev pub instance_id : List Meaning → Setting → Focus → Option (List ℕ)
instance_id [] s c = Some []
instance_id (m ∷ ms) s c = m s c >>= string_of s

-- ---- branches (XForms 1.1, sections 7.8 and 7.11): the other one is not evaluated

abbrev pub branch : Bool → List Meaning → Meaning
branch true arguments = argument 1 arguments
branch false arguments = argument 2 arguments

abbrev pub branched : List Meaning → Meaning
branched arguments s c = do
  condition ← argument 0 arguments s c
  branch (truth_of condition) arguments s c

-- ---- calls

-- what a function makes of a set
abbrev pub of_set : (Setting → List ℕ → Option Value) → Meaning → Meaning
of_set made m s c = m s c >>= λ v. made s (nodes_of v)

abbrev pub called : Function → ℕ → List Meaning → Meaning
called of.asking code ms s c = option_map value_of_plain (plain_arguments ms s c >>= s.functions code)
called of.plainly code ms s c = option_map value_of_plain (plain_arguments ms s c >>= s.functions code)
called of.owning code ms s c = option_map value_of_plain (own_argument ms s c >>= plain_of s >>= λ p. s.functions code (p ∷ []))
called of.boolean code ms s c = option_map (λ v. Truth (truth_of v)) (argument 0 ms s c)
called of.not code ms s c = option_map (λ v. Truth (std.not (truth_of v))) (argument 0 ms s c)
called (of.truth b) code ms s c = Some (Truth b)
called of.choosing code ms s c = branched ms s c
called of.branching code ms s c = option_map Text (branched ms s c >>= string_of s)
called of.counting code ms s c = of_set (λ s ns. Some (count_of s ns)) (argument 0 ms) s c
called of.counting_filled code ms s c = of_set filled_count (argument 0 ms) s c
called of.adding code ms s c = of_set (λ s ns. of_numbers s total ns) (argument 0 ms) s c
called of.averaging code ms s c = of_set (λ s ns. of_numbers s (average s.given.decimals) ns) (argument 0 ms) s c
called of.greatest code ms s c = of_set (λ s ns. of_numbers s (extreme greater) ns) (argument 0 ms) s c
called of.least code ms s c = of_set (λ s ns. of_numbers s (extreme lesser) ns) (argument 0 ms) s c
called of.local_name code ms s c = of_set (λ s ns. text_value s (local_part (first_name s.all ns))) (own_argument ms) s c
called of.name code ms s c = of_set (λ s ns. text_value s (written_in (first_name s.all ns))) (own_argument ms) s c
called of.namespace code ms s c = of_set (λ s ns. text_value s (namespace_of s.given.bindings (first_name s.all ns))) (own_argument ms) s c
called of.number code ms s c = option_map Number (own_argument ms s c >>= number_of s)
called of.string code ms s c = option_map Text (own_argument ms s c >>= string_of s)
called of.current code ms s c = Some (Nodes (s.current ∷ []))
called of.event code ms s c = option_map (λ name. unwrap_or (property_of name s.given.event) (Nodes [])) (argument 0 ms s c >>= string_of s)
called of.index code ms s c = option_map (λ id. Number (index_number s.given.decimals (beside id s.given.indexes))) (argument 0 ms s c >>= string_of s)
called of.instance code ms s c = option_map (λ id. set_of (document_of s.model id s.given.documents)) (instance_id ms s c)
called of.last code ms s c = Some (Number (whole s.given.decimals c.size))
called of.position code ms s c = Some (Number (whole s.given.decimals c.position))
