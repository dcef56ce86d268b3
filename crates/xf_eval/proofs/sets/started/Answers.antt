use Rattle.std.proofs.Common.{◌≡◌, true, length, ap, sym, ◌∙◌}
use Rattle.std.proofs.lemmas.Result.{IfOk-weaker}
use Rattle.xf_def_xpath.specs.Steps.{begun_at}
use Rattle.xf_eval.specs.Worth.{seen}
use Rattle.xf_eval.proofs.Lives.{live-get}
use Rattle.xf_eval.proofs.Ordered.{alone-is}
use Rattle.xf_eval.proofs.sets.started.Goals as goal

pub down_from-requires : goal.down_from-requires
down_from-requires c = live-get c.args.nodes 0 c.at.result.number c.args.forest.now.forest.nodes c.requires c.at.ensures

pub returns-then-len-eq1-clause-value : goal.returns-then-len-eq1-clause-value
returns-then-len-eq1-clause-value c =
    let all = seen c.args.forest.now.forest.nodes in
    let one : length c.args.nodes ≡ 1 = sym c.len.ensures ∙ c.if-len-eq1.true in
    IfOk-weaker c.down_from.result _ _ (λ start h. h ∙ ap (begun_at true all) (sym (alone-is c.args.nodes c.at.result.number one c.at.ensures)) ∙ ap (λ b. begun_at b all c.args.nodes) (sym c.if-not-is_below.false)) c.down_from.ensures.value
