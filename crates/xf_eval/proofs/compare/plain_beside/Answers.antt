use Rattle.std.proofs.Common.{false, ◌∷◌, [], Some, option_map, sym, ap, ◌∙◌}
use Rattle.xf_def_xpath.specs.declared.fault.EvalFault.TheVariants.{Long, Memory}
use Rattle.xf_def_xpath.specs.Comparisons.{compared}
use Rattle.xf_def_xpath.specs.Conversions.{strings_of, value_of_plain}
use Rattle.xf_eval.specs.Sides.{plain_on, some_beside, value_in}
use Rattle.xf_eval.specs.Worth.{bare_setting, setting_in}
use Rattle.xf_eval.proofs.Bounded.{gives-same}
use Rattle.xf_eval.proofs.Sides.{plain-plain, side-left}
use Rattle.xf_eval.proofs.compare.plain_beside.Goals as goal

pub returns-in-Plain : goal.returns-in-Plain
returns-in-Plain c =
    let nodes = c.args.forest.now.forest.nodes in
    let d = c.args.decimals in
    let left = plain_on c.args.left.now in
    ap (λ r. compared (setting_in d nodes) c.args.operator (value_of_plain left) (value_in r)) c.in-Plain.is
    ∙ plain-plain d nodes c.args.operator left (plain_on c.in-Plain.side) ∙ ap Some (sym c.holds.ensures)

pub returns-in_default : goal.returns-in_default
returns-in_default c =
    let nodes = c.args.forest.now.forest.nodes in
    let d = c.args.decimals in
    let left = c.args.left.now in
    gives-same Memory Long (λ b. b) c.some_beside.result _ _
    (ap (λ l. option_map (some_beside d c.args.operator false l) (strings_of (bare_setting nodes) c.in-Nodes.nodes)) c.from_ref.ensures.value
    ∙ side-left d nodes c.args.operator c.in-Nodes.nodes left c.in_default.not-Truth
    ∙ ap (λ r. compared (setting_in d nodes) c.args.operator (value_of_plain (plain_on left)) (value_in r)) (sym c.in-Nodes.is))
    c.some_beside.ensures
