-- The value of a call, as the evaluator tells the functions apart (XPath 1.0, section 4; XForms 1.1, section 7).
use Rattle.std.specs.Prelude.{ℕ, zero, suc, [], ◌∷◌, List, Option, Some, option_map}
use Rattle.xf_def_forest.specs.declared.content.Node.{Node}
use Rattle.xf_def_xpath.specs.declared.context.Context.{Context}
use Rattle.xf_def_xpath.specs.declared.value.Value.{Value}
use Rattle.xf_def_xpath.specs.declared.value.Value.TheVariants.{Nodes, Text, Number, Truth}
use Rattle.xf_def_values.specs.Conversions.{whole}
use Rattle.xf_def_xpath.specs.Given.{Given}
use Rattle.xf_def_xpath.specs.Setting.{Meaning, ◌>>=◌}
use Rattle.xf_def_xpath.specs.Conversions.{string_of}
use Rattle.xf_def_xpath.specs.Functions.{branched, plain_arguments}
use Rattle.xf_def_xpath.specs.Meaning.{focus_of, setting_of}
use Rattle.xf_funcs.specs.Called.{called}
use Rattle.xf_eval.specs.declared.kinds.Kind.{Kind}
use Rattle.xf_eval.specs.declared.kinds.Kind.TheVariants as kind
use Rattle.xf_eval.specs.Worth.{setting_in}
use Rattle.xf_eval.specs.OfOne.{one_worth, own_worth, plain_worth}

-- the argument at a place from 0; where none is written, these nodes
abbrev pub argument_or : ℕ → List ℕ → List Meaning → Meaning
argument_or at own [] s c = Some (Nodes own)
argument_or zero own (m ∷ ms) s c = m s c
argument_or (suc at) own (m ∷ ms) s c = argument_or at own ms s c

-- of the argument of a function that stands for the context node where none is written
abbrev pub of_own_argument : Kind → ℕ → Given → List Node → Context → List Meaning → Option Value
of_own_argument k code given nodes context ms =
    argument_or 0 (context.node.number ∷ []) ms (setting_of called given nodes context) (focus_of context) >>= own_worth given.decimals k code given nodes

abbrev pub by_kind : Kind → ℕ → Given → List Node → Context → List Meaning → Option Value
by_kind kind.Asking code given nodes context ms = plain_arguments ms (setting_of called given nodes context) (focus_of context) >>= plain_worth given.decimals code
by_kind kind.Plainly code given nodes context ms = plain_arguments ms (setting_of called given nodes context) (focus_of context) >>= plain_worth given.decimals code
by_kind (kind.Truth b) code given nodes context ms = Some (Truth b)
by_kind kind.Current code given nodes context ms = Some (Nodes (context.current.number ∷ []))
by_kind kind.Last code given nodes context ms = Some (Number (whole given.decimals context.size))
by_kind kind.Position code given nodes context ms = Some (Number (whole given.decimals context.position))
by_kind kind.Choosing code given nodes context ms = branched ms (setting_of called given nodes context) (focus_of context)
by_kind kind.Branching code given nodes context ms = option_map Text (branched ms (setting_of called given nodes context) (focus_of context) >>= string_of (setting_in given.decimals nodes))
by_kind kind.Owning code given nodes context ms = of_own_argument kind.Owning code given nodes context ms
by_kind kind.Number code given nodes context ms = of_own_argument kind.Number code given nodes context ms
by_kind kind.Text code given nodes context ms = of_own_argument kind.Text code given nodes context ms
by_kind kind.LocalName code given nodes context ms = of_own_argument kind.LocalName code given nodes context ms
by_kind kind.Name code given nodes context ms = of_own_argument kind.Name code given nodes context ms
by_kind kind.Namespace code given nodes context ms = of_own_argument kind.Namespace code given nodes context ms
by_kind other code given nodes context ms = argument_or 0 [] ms (setting_of called given nodes context) (focus_of context) >>= one_worth given.decimals other context.model given nodes
