use Rattle.std.proofs.Common.{sym, ap, ◌∙◌}
use Rattle.std.specs.List.{list_all}
use Rattle.std.proofs.lemmas.Result.{IfOk-weaker}
use Rattle.xf_def_forest.specs.Forest.{has_number}
use Rattle.xf_def_forest.proofs.BackLaws.{and-true, not-true}
use Rattle.xf_eval_shape.specs.Bound.{bound_at}
use Rattle.xf_eval_shape.specs.Spots.{is_leaf, is_spot, number_at, stands}
use Rattle.xf_eval_shape.specs.Woven.{is_shown}
use Rattle.xf_eval_shape.proofs.Bounds.{bound-outside, bound-text, one-shown}
use Rattle.xf_eval_shape.proofs.Reached.{owner-own}
use Rattle.xf_eval_shape.proofs.nodes.bound.Goals as goal

pub returns-in-Outside-clause-value : goal.returns-in-Outside-clause-value
returns-in-Outside-clause-value c =
    let nodes = c.args.forest.now.forest.nodes in
    let n = c.in-Outside.field-0.number in
    let h = ap (is_spot nodes) (sym c.in-Outside.is) ∙ c.requires in
    c.new.ensures ∙ bound-outside nodes n (not-true (stands nodes n) (and-true (has_number n nodes) _ h).1) ∙ ap (λ s. bound_at nodes (number_at s)) (sym c.in-Outside.is)

pub returns-in-TextOf-clause-value : goal.returns-in-TextOf-clause-value
returns-in-TextOf-clause-value c =
    let f = c.args.forest.now.forest in
    let n = c.in-TextOf.owner.number in
    let h = ap (is_spot f.nodes) (sym c.in-TextOf.is) ∙ c.requires in
    let p = and-true (has_number n f.nodes) (is_leaf f.nodes n) h in
    IfOk-weaker c.single.result _ _ (λ nodes e. e ∙ bound-text f c.is_sound.ensures n p.0 p.1 ∙ ap (λ s. bound_at f.nodes (number_at s)) (sym c.in-TextOf.is)) c.single.ensures

pub returns-in-TextOf-clause-shown : goal.returns-in-TextOf-clause-shown
returns-in-TextOf-clause-shown c =
    let f = c.args.forest.now.forest in
    let h = ap (is_spot f.nodes) (sym c.in-TextOf.is) ∙ c.requires in
    IfOk-weaker c.single.result _ _ (λ nodes e. ap (list_all (is_shown f.nodes)) e ∙ one-shown f.nodes c.in-TextOf.owner.number (owner-own f c.is_sound.ensures c.in-TextOf.owner h)) c.single.ensures
