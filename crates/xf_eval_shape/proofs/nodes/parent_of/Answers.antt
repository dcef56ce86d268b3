use Rattle.std.proofs.Common.{sym, ap, ◌∙◌}
use Rattle.std.specs.List.{list_all}
use Rattle.std.proofs.lemmas.Result.{IfOk-weaker}
use Rattle.xf_def_xpath.specs.Binding.{as_list}
use Rattle.xf_eval_shape.specs.Woven.{is_shown}
use Rattle.xf_eval_shape.proofs.Bounds.{one-shown, parent-shown}
use Rattle.xf_eval_shape.proofs.nodes.parent_of.Goals as goal

pub returns-in-Some-clause-value : goal.returns-in-Some-clause-value
returns-in-Some-clause-value c = IfOk-weaker c.single.result _ _ (λ nodes e. e ∙ ap as_list c.in-Some.ensures) c.single.ensures

pub returns-in-Some-clause-shown : goal.returns-in-Some-clause-shown
returns-in-Some-clause-shown c =
    let f = c.args.forest.now.forest in
    IfOk-weaker c.single.result _ _ (λ nodes e. ap (list_all (is_shown f.nodes)) e ∙ one-shown f.nodes c.in-Some.parent.number (parent-shown f c.is_sound.ensures c.args.node.number c.requires c.in-Some.parent.number (sym c.in-Some.ensures))) c.single.ensures

pub returns-in-None-clause-value : goal.returns-in-None-clause-value
returns-in-None-clause-value c = c.new.ensures ∙ ap as_list c.in-None.ensures
