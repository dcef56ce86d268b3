-- What of a value counts where it is converted to a text, a number or a truth: of a set the node that is first in document order (XPath 1.0,
-- sections 3.2 and 4.2 to 4.4).
use Rattle.std.specs.Prelude.{ℕ, Bool, true, false, List, [], ◌∷◌}
use Rattle.xf_def_syntax.specs.declared.expr.Link.{Link}
use Rattle.xf_def_syntax.specs.declared.expr.Operator.{Operator}
use Rattle.xf_def_syntax.specs.declared.expr.Operator.TheVariants.{Or, And, Add, Subtract, Multiply, Divide, Modulo}
use Rattle.xf_def_xpath.specs.declared.value.Value.{Value}
use Rattle.xf_def_xpath.specs.declared.value.Value.TheVariants.{Nodes, Text, Number, Truth}
use Rattle.xf_eval.specs.declared.kinds.Kind.{Kind}
use Rattle.xf_eval.specs.declared.kinds.Kind.TheVariants as kind

abbrev pub first_node : List ℕ → List ℕ
first_node [] = []
first_node (n ∷ ns) = n ∷ []

abbrev pub first_alone : Value → Value
first_alone (Nodes ns) = Nodes (first_node ns)
first_alone (Text text) = Text text
first_alone (Number k) = Number k
first_alone (Truth b) = Truth b

-- of a value that is converted, or of one that is not
abbrev pub counted : Bool → Value → Value
counted true value = first_alone value
counted false value = value

-- the operator converts both of its sides (sections 3.4 and 3.5)
abbrev pub converts : Operator → Bool
converts Or = true
converts And = true
converts Add = true
converts Subtract = true
converts Multiply = true
converts Divide = true
converts Modulo = true
converts other = false

-- so does the first operator of a chain, with the value before it
abbrev pub leads : List Link → Bool
leads [] = false
leads (link ∷ links) = converts link.operator

-- a function converts its one argument (XPath 1.0, section 4; XForms 1.1, section 7)
abbrev pub takes_plain : Kind → Bool
takes_plain kind.Boolean = true
takes_plain kind.Not = true
takes_plain kind.Event = true
takes_plain kind.Index = true
takes_plain kind.Instance = true
takes_plain other = false
