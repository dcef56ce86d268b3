use Rattle.std.proofs.Common.{map, option_map, sym, ap, ◌∙◌}
use Rattle.std.proofs.lemmas.Result.{err_from_is_err_and}
use Rattle.xf_def_forest.specs.declared.node.NodeId.{NodeId}
use Rattle.xf_def_xpath.specs.declared.fault.EvalFault.TheVariants.{Long, Memory}
use Rattle.xf_def_ui.specs.Context.{enter}
use Rattle.xf_def_ui.specs.Interface.{element_of, interface_of}
use Rattle.xf_form_elements.specs.Bound.{seen_bound}
use Rattle.xf_eval.proofs.Bounded.{gives-same, part-long}
use Rattle.xf_eval_context.specs.Inside.{seen_inside, seen_place}
use Rattle.xf_eval_context.specs.Over.{around_over}
use Rattle.xf_eval_context.proofs.InsideLaws.{at_place, enter-placed, enter-rows}
use Rattle.xf_eval_context.proofs.inside.enter_element.Goals as goal

pub returns-then-is_repeat : goal.returns-then-is_repeat
returns-then-is_repeat c =
    let o = c.args.over.now in
    let form = o.form.now in
    let a = around_over o in
    let outer = c.args.outer.now in
    let rows = map (λ (n : NodeId). n.number) outer.rows.now in
    let model = c.scope_of-model.result in
    let e = element_of form.tables c.args.here.now in
    let b = seen_bound c.binding_of-binding.result in
    gives-same Memory Long seen_inside c.enter_row.result _ _
    (sym (enter-rows a outer.model model (seen_place outer.place) rows (interface_of form) e b c.scope_of-model.ensures c.binding_of-binding.ensures (sym c.is_repeat.ensures ∙ c.if-is_repeat.true)))
    c.enter_row.ensures

pub returns-in_err-place : goal.returns-in_err-place
returns-in_err-place c =
    let o = c.args.over.now in
    let form = o.form.now in
    let a = around_over o in
    let outer = c.args.outer.now in
    let place = seen_place outer.place in
    let rows = map (λ (n : NodeId). n.number) outer.rows.now in
    let model = c.scope_of-model.result in
    let e = element_of form.tables c.args.here.now in
    let b = seen_bound c.binding_of-binding.result in
    let p = err_from_is_err_and c.from_residual.result c.from_residual.ensures.1 in
    rw (p.1, p.2) (part-long Memory Long _ _ (enter (interface_of form) a (seen_inside outer) e) c.in_err-place.ensures
    (λ h. enter-placed a outer.model model place rows (interface_of form) e b c.scope_of-model.ensures c.binding_of-binding.ensures
    (seen_place c.place_for-from.result) c.place_for-from.ensures (sym c.is_repeat.ensures ∙ c.if-is_repeat.false)
    ∙ ap (option_map (at_place a outer.model model place rows)) h))

pub returns : goal.returns
returns c =
    let o = c.args.over.now in
    let form = o.form.now in
    let a = around_over o in
    let outer = c.args.outer.now in
    let place = seen_place outer.place in
    let rows = map (λ (n : NodeId). n.number) outer.rows.now in
    let model = c.scope_of-model.result in
    let e = element_of form.tables c.args.here.now in
    let b = seen_bound c.binding_of-binding.result in
    enter-placed a outer.model model place rows (interface_of form) e b c.scope_of-model.ensures c.binding_of-binding.ensures
    (seen_place c.place_for-from.result) c.place_for-from.ensures (sym c.is_repeat.ensures ∙ c.if-is_repeat.false)
    ∙ ap (option_map (at_place a outer.model model place rows)) c.in_ok-place.ensures
