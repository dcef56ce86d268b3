use Rattle.std.proofs.Common.{Some, ap, ◌∙◌, sym}
use Rattle.xf_num.specs.Number.{quotient}
use Rattle.xf_def_values.specs.Conversions.{whole}
use Rattle.xf_eval.proofs.Numbers.{average-of}
use Rattle.xf_eval.proofs.of_nodes.average.Goals as goal

pub returns : goal.returns
returns c =
    let sum = c.in_ok-sum.sum in
    average-of c.args.decimals c.args.forest.now.forest.nodes c.args.nodes.now sum c.in_ok-sum.ensures ∙ ap Some (sym (c.div.ensures ∙ ap (quotient c.args.decimals sum) (c.whole.ensures ∙ ap (whole c.args.decimals) c.len.ensures)))
