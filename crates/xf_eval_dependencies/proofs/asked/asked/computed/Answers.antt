use Rattle.std.proofs.Common.{sym, subst}
use Rattle.std.proofs.lemmas.Result.{IfOk-weaker}
use Rattle.xf_def_xpath.specs.Asked.{asked_first, with_read}
use Rattle.xf_eval_dependencies.specs.Asked.Tells.{Tells}
use Rattle.xf_eval_dependencies.proofs.asked.asked.computed.Goals as goal

pub returns-clause-tells : goal.returns-clause-tells
returns-clause-tells c =
    let nodes = c.args.forest.now.forest.nodes in
    IfOk-weaker c.both.result _ _
    (λ told h s e a b t u.
    h nodes _ _
    (subst (λ all. Tells nodes c.in_ok-one.one (with_read all (asked_first a.is_loose a.set) a)) (sym e) (c.in_ok-one.ensures.tells a t))
    (subst (λ all. Tells nodes c.in_ok-other.other (with_read all (asked_first b.is_loose b.set) b)) (sym e) (c.in_ok-other.ensures.tells b u)))
    c.both.ensures.tells

pub returns-clause-stands : goal.returns-clause-stands
returns-clause-stands c = IfOk-weaker c.both.result _ _ (λ told h. h c.args.forest.now.forest.nodes c.in_ok-one.ensures.stands c.in_ok-other.ensures.stands) c.both.ensures.stands
