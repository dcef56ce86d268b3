use Rattle.std.proofs.Common.{sym, ap, ◌∙◌}
use Rattle.xf_def_forest.specs.Forest.{Forest}
use Rattle.xf_def_machine.specs.Properties.{readonly_in}
use Rattle.xf_def_ui.specs.declared.marks.Marks.{Marks}
use Rattle.xf_valid.specs.Nodes.{marks_in}
use Rattle.xf_engine_state.specs.Parts.{chosen_of}
use Rattle.xf_engine_state.specs.Does.{Twin}
use Rattle.xf_engine_state.specs.Standing.{state_of}
use Rattle.xf_engine_state.proofs.MarkLaws.{marks-at}
use Rattle.xf_engine_state.proofs.work.Work.is_readonly.Goals as goal

pub returns : goal.returns
returns c =
    let w = c.self.inside in
    let n = c.args.node.number in
    ap (λ (m : Marks). m.readonly)
    (c.marks_at.ensures ∙ ap (λ (f : Forest). marks_in w.table f.nodes n) c.forest.ensures ∙ sym (marks-at (chosen_of w.indexes.items w.cases.items) w.loaded w.draft.now w.table w.flags.items w.shown.now w.tally c.self.invariant.sound.many n))
    ∙ ap (λ (t : Twin). readonly_in (state_of t.now) n) c.self.view_is
