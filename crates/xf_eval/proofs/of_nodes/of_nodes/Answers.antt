use Rattle.std.proofs.Common.{ap, ◌∙◌, option_map}
use Rattle.std.proofs.lemmas.Result.{err_from_is_err_and}
use Rattle.xf_def_xpath.specs.declared.fault.EvalFault.TheVariants.{Long, Memory}
use Rattle.xf_def_xpath.specs.declared.value.Value.TheVariants.{Number}
use Rattle.xf_eval.proofs.Bounded.{part-long}
use Rattle.xf_eval.proofs.Numbers.{adding-worth, averaging-worth, greatest-worth, least-worth}
use Rattle.xf_eval.proofs.of_nodes.of_nodes.Goals as goal

pub returns-in_ok-total-in-Adding : goal.returns-in_ok-total-in-Adding
returns-in_ok-total-in-Adding c = adding-worth c.args.decimals c.args.kind c.args.forest.now.forest.nodes c.args.nodes.now c.in-Adding.is ∙ ap (option_map Number) c.in_ok-total-in-Adding.ensures

pub returns-in_err-total-in-Adding : goal.returns-in_err-total-in-Adding
returns-in_err-total-in-Adding c =
    let p = err_from_is_err_and c.from_residual-in_err-total-in-Adding.result c.from_residual-in_err-total-in-Adding.ensures.1 in
    rw (p.1, p.2) (part-long Memory Long _ _ _ c.in_err-total-in-Adding.ensures (λ h. adding-worth c.args.decimals c.args.kind c.args.forest.now.forest.nodes c.args.nodes.now c.in-Adding.is ∙ ap (option_map Number) h))

pub returns-in_ok-average-in-Averaging : goal.returns-in_ok-average-in-Averaging
returns-in_ok-average-in-Averaging c = averaging-worth c.args.decimals c.args.kind c.args.forest.now.forest.nodes c.args.nodes.now c.in-Averaging.is ∙ ap (option_map Number) c.in_ok-average-in-Averaging.ensures

pub returns-in_err-average-in-Averaging : goal.returns-in_err-average-in-Averaging
returns-in_err-average-in-Averaging c =
    let p = err_from_is_err_and c.from_residual-in_err-average-in-Averaging.result c.from_residual-in_err-average-in-Averaging.ensures.1 in
    rw (p.1, p.2) (part-long Memory Long _ _ _ c.in_err-average-in-Averaging.ensures (λ h. averaging-worth c.args.decimals c.args.kind c.args.forest.now.forest.nodes c.args.nodes.now c.in-Averaging.is ∙ ap (option_map Number) h))

pub returns-in_ok-extreme-in-Greatest : goal.returns-in_ok-extreme-in-Greatest
returns-in_ok-extreme-in-Greatest c = greatest-worth c.args.decimals c.args.kind c.args.forest.now.forest.nodes c.args.nodes.now c.in-Greatest.is ∙ ap (option_map Number) c.in_ok-extreme-in-Greatest.ensures

pub returns-in_err-extreme-in-Greatest : goal.returns-in_err-extreme-in-Greatest
returns-in_err-extreme-in-Greatest c =
    let p = err_from_is_err_and c.from_residual-in_err-extreme-in-Greatest.result c.from_residual-in_err-extreme-in-Greatest.ensures.1 in
    rw (p.1, p.2) (part-long Memory Long _ _ _ c.in_err-extreme-in-Greatest.ensures (λ h. greatest-worth c.args.decimals c.args.kind c.args.forest.now.forest.nodes c.args.nodes.now c.in-Greatest.is ∙ ap (option_map Number) h))

pub returns-in_ok-extreme-in-Least : goal.returns-in_ok-extreme-in-Least
returns-in_ok-extreme-in-Least c = least-worth c.args.decimals c.args.kind c.args.forest.now.forest.nodes c.args.nodes.now c.in-Least.is ∙ ap (option_map Number) c.in_ok-extreme-in-Least.ensures

pub returns-in_err-extreme-in-Least : goal.returns-in_err-extreme-in-Least
returns-in_err-extreme-in-Least c =
    let p = err_from_is_err_and c.from_residual-in_err-extreme-in-Least.result c.from_residual-in_err-extreme-in-Least.ensures.1 in
    rw (p.1, p.2) (part-long Memory Long _ _ _ c.in_err-extreme-in-Least.ensures (λ h. least-worth c.args.decimals c.args.kind c.args.forest.now.forest.nodes c.args.nodes.now c.in-Least.is ∙ ap (option_map Number) h))
