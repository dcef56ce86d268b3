use Rattle.std.proofs.Common.{true, Some, option_map, map, sym, ap, ◌∙◌}
use Rattle.xf_def_xpath.specs.declared.fault.EvalFault.TheVariants.{Long, Memory}
use Rattle.xf_def_xpath.specs.declared.value.Value.TheVariants.{Nodes}
use Rattle.xf_def_xpath.specs.Comparisons.{compared}
use Rattle.xf_def_xpath.specs.Conversions.{strings_of}
use Rattle.xf_eval.specs.Worth.{bare_setting, setting_in}
use Rattle.xf_eval.specs.Sides.{plain_on, some_beside, value_in}
use Rattle.xf_eval.proofs.Bounded.{gives-same}
use Rattle.xf_eval.proofs.Sides.{set-left, side-right}
use Rattle.xf_eval.proofs.compare.set_beside.Goals as goal

pub returns-in_ok-sides-in-Nodes : goal.returns-in_ok-sides-in-Nodes
returns-in_ok-sides-in-Nodes c =
    let nodes = c.args.forest.now.forest.nodes in
    let ns = c.args.nodes.now in
    let o = c.args.operator in
    let d = c.args.decimals in
    gives-same Memory Long (λ b. b) c.some_beside.result _ _
    (set-left d nodes o ns (Nodes c.in-Nodes.others) c.as_slice.result.now (c.in_ok-sides-in-Nodes.ensures ∙ ap (λ l. Some (map plain_on l)) (sym c.as_slice.ensures.value)) ∙ ap (λ r. compared (setting_in d nodes) o (Nodes ns) (value_in r)) (sym c.in-Nodes.is))
    c.some_beside.ensures

pub returns-in_default : goal.returns-in_default
returns-in_default c =
    let nodes = c.args.forest.now.forest.nodes in
    let ns = c.args.nodes.now in
    let o = c.args.operator in
    let d = c.args.decimals in
    gives-same Memory Long (λ b. b) c.some_beside-in_default.result _ _
    (ap (λ l. option_map (some_beside d o true l) (strings_of (bare_setting nodes) ns)) c.from_ref.ensures.value
    ∙ side-right d nodes o ns c.in-Plain.side c.in_default.not-Truth ∙ ap (λ r. compared (setting_in d nodes) o (Nodes ns) (value_in r)) (sym c.in-Plain.is))
    c.some_beside-in_default.ensures
