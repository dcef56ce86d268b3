use Rattle.std.proofs.Common.{subst}
use Rattle.xf_def_xpath.specs.Asked.{tightly}
use Rattle.xf_eval_dependencies.specs.Asked.Tells.{Tells}
use Rattle.xf_eval_dependencies.proofs.arguments.node_asked.Goals as goal

pub returns-clause-tells : goal.returns-clause-tells
returns-clause-tells c =
    let nodes = c.args.forest.now.forest.nodes in
    subst (λ ns. Tells nodes c.tightly.result (tightly ns)) c.in_ok-set.ensures.value (c.tightly.ensures.tells nodes)

pub returns-clause-stands : goal.returns-clause-stands
returns-clause-stands c = c.tightly.ensures.stands c.args.forest.now.forest.nodes c.in_ok-set.ensures.spots
