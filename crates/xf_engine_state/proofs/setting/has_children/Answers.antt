use Rattle.std.proofs.Common.{◌∷◌, sym, ap, ◌∙◌}
use Rattle.xf_engine_state.proofs.AroundLaws.{children-axis}
use Rattle.xf_engine_state.proofs.TextSetLaws.{no-child, one-child, two-children}
use Rattle.xf_engine_state.proofs.setting.has_children.Goals as goal

pub returns-in-Some-next : goal.returns-in-Some-next
returns-in-Some-next c =
    let is = c.axis-walk.ensures ∙ children-axis c.args.node.number c.args.forest.now.forest.nodes c.requires in
    sym (two-children c.in-Some.field-0.number c.in-Some-next.field-0.number c.next-in-Some.new.self _ (sym is ∙ c.in-Some.ensures.steps ∙ ap (λ l. c.in-Some.field-0.number ∷ l) c.in-Some-next.ensures.steps))

pub returns-in-None-next : goal.returns-in-None-next
returns-in-None-next c =
    let is = c.axis-walk.ensures ∙ children-axis c.args.node.number c.args.forest.now.forest.nodes c.requires in
    sym (one-child c.in-Some.field-0.number _ (sym is ∙ c.in-Some.ensures.steps ∙ ap (λ l. c.in-Some.field-0.number ∷ l) c.in-None-next.ensures.steps.0))

pub returns-in-None : goal.returns-in-None
returns-in-None c =
    let is = c.axis-walk.ensures ∙ children-axis c.args.node.number c.args.forest.now.forest.nodes c.requires in
    sym (no-child _ (sym is ∙ c.in-None.ensures.steps.0))
