use Rattle.std.proofs.Common.{◌&&◌, ◌||◌, true, sym, ap, ◌∙◌}
use Rattle.xf_def_forest.proofs.LiveLaws.{parent-live}
use Rattle.xf_def_model.specs.declared.property.Property.TheVariants.{Relevant}
use Rattle.xf_def_model.specs.Properties.{own, own_readonly}
use Rattle.xf_binds.specs.Kept.{values_in}
use Rattle.xf_valid.proofs.Inherited.{relevant-top, relevant-up, readonly-top, readonly-up}
use Rattle.xf_valid.proofs.marks.pass.Goals as goal

pub passed_at-above-requires-clause-live : goal.passed_at-above-requires-clause-live
passed_at-above-requires-clause-live c = parent-live c.args.node.number c.in-Some.parent.number c.args.forest.now.forest.nodes (sym c.in-Some.ensures)

pub returns-in-Some-clause-relevant : goal.returns-in-Some-clause-relevant
returns-in-Some-clause-relevant c =
    c.both.ensures ∙ ap (λ b. b && c.passed_at-above.result.relevant) c.own-relevant.ensures
    ∙ ap (λ b. own (values_in c.args.table.now) Relevant true c.args.node.number && b) c.passed_at-above.ensures.relevant
    ∙ sym (relevant-up c.args.table.now c.args.forest.now.forest.nodes c.args.node.number c.in-Some.parent.number c.are_trees.ensures.apart c.requires.live (sym c.in-Some.ensures))

pub returns-in-Some-clause-readonly : goal.returns-in-Some-clause-readonly
returns-in-Some-clause-readonly c =
    c.either.ensures ∙ ap (λ b. b || c.passed_at-above.result.readonly) c.own_readonly-readonly.ensures
    ∙ ap (λ b. own_readonly (values_in c.args.table.now) c.args.node.number || b) c.passed_at-above.ensures.readonly
    ∙ sym (readonly-up c.args.table.now c.args.forest.now.forest.nodes c.args.node.number c.in-Some.parent.number c.are_trees.ensures.apart c.requires.live (sym c.in-Some.ensures))

pub returns-in-None-clause-relevant : goal.returns-in-None-clause-relevant
returns-in-None-clause-relevant c = c.own-relevant.ensures ∙ sym (relevant-top c.args.table.now c.args.forest.now.forest.nodes c.args.node.number (sym c.in-None.ensures))

pub returns-in-None-clause-readonly : goal.returns-in-None-clause-readonly
returns-in-None-clause-readonly c = c.own_readonly-readonly.ensures ∙ sym (readonly-top c.args.table.now c.args.forest.now.forest.nodes c.args.node.number (sym c.in-None.ensures))
