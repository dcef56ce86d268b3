use Rattle.std.proofs.Common.{sym, ap, ◌∙◌}
use Rattle.xf_def_forest.specs.Forest.{has_number}
use Rattle.xf_def_forest.proofs.BackLaws.{and-true, not-true}
use Rattle.xf_def_xpath.specs.Steps.{reached}
use Rattle.xf_eval_shape.specs.Spots.{is_spot, number_at, numbers_at, shaped, stands}
use Rattle.xf_eval_shape.proofs.Reached.{outside-reached}
use Rattle.xf_eval_shape.proofs.walk.reached.Goals as goal

pub returns-in-Outside-clause-value : goal.returns-in-Outside-clause-value
returns-in-Outside-clause-value c =
    let nodes = c.args.forest.now.forest.nodes in
    let n = c.in-Outside.field-0.number in
    let h = ap (is_spot nodes) (sym c.in-Outside.is) ∙ c.requires in
    ap numbers_at c.new.ensures.items
    ∙ outside-reached nodes n (not-true (stands nodes n) (and-true (has_number n nodes) _ h).1) c.args.axis c.args.test.now
    ∙ ap (λ s. reached c.args.axis c.args.test.now (shaped nodes) (number_at s)) (sym c.in-Outside.is)
