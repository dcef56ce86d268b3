use Rattle.std.proofs.Common.{subst}
use Rattle.xf_def_xpath.specs.AskedCalls.{beside}
use Rattle.xf_eval_dependencies.specs.Asked.Tells.{Tells}
use Rattle.xf_eval_dependencies.proofs.asked.asked.compared.Goals as goal

pub returns-clause-tells : goal.returns-clause-tells
returns-clause-tells c =
    let nodes = c.args.forest.now.forest.nodes in
    λ s e a b t u.
    c.as_truth.ensures.tells nodes _ (c.in_ok-asked.ensures.tells nodes _ _
    (subst (λ x. Tells nodes c.in_ok-first.first (beside s x a)) u.is_truth (c.in_ok-first.ensures.tells s e a t))
    (subst (λ x. Tells nodes c.in_ok-second.second (beside s x b)) t.is_truth (c.in_ok-second.ensures.tells s e b u)))

pub returns-clause-stands : goal.returns-clause-stands
returns-clause-stands c =
    let nodes = c.args.forest.now.forest.nodes in
    c.as_truth.ensures.stands nodes (c.in_ok-asked.ensures.stands nodes c.in_ok-first.ensures.stands c.in_ok-second.ensures.stands)
