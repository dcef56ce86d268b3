-- The functions in the order of their table, as the evaluator tells them apart.
use Rattle.xf_def_xpath.specs.Table.{Function}
use Rattle.xf_def_xpath.specs.Table as of
use Rattle.xf_eval.specs.declared.kinds.Kind.{Kind}
use Rattle.xf_eval.specs.declared.kinds.Kind.TheVariants as kind

abbrev pub function_in : Kind → Function
function_in kind.Asking = of.asking
function_in kind.Plainly = of.plainly
function_in kind.Owning = of.owning
function_in kind.Boolean = of.boolean
function_in kind.Not = of.not
function_in (kind.Truth b) = of.truth b
function_in kind.Choosing = of.choosing
function_in kind.Branching = of.branching
function_in kind.Counting = of.counting
function_in kind.CountingFilled = of.counting_filled
function_in kind.Adding = of.adding
function_in kind.Averaging = of.averaging
function_in kind.Greatest = of.greatest
function_in kind.Least = of.least
function_in kind.LocalName = of.local_name
function_in kind.Name = of.name
function_in kind.Namespace = of.namespace
function_in kind.Number = of.number
function_in kind.Text = of.string
function_in kind.Current = of.current
function_in kind.Event = of.event
function_in kind.Index = of.index
function_in kind.Instance = of.instance
function_in kind.Last = of.last
function_in kind.Position = of.position
