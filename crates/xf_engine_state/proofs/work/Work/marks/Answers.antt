use Rattle.std.proofs.Common.{sym, ap, ◌∙◌}
use Rattle.xf_def_forest.specs.Forest.{Forest}
use Rattle.xf_def_machine.specs.Properties as machine
use Rattle.xf_valid.specs.Nodes.{marks_in}
use Rattle.xf_engine_state.specs.Parts.{chosen_of}
use Rattle.xf_engine_state.specs.Does.{Twin}
use Rattle.xf_engine_state.specs.Standing.{state_of}
use Rattle.xf_engine_state.proofs.MarkLaws.{marks-same}
use Rattle.xf_engine_state.proofs.work.Work.marks.Goals as goal

pub returns : goal.returns
returns c =
    let w = c.self.inside in
    ap (λ (f : Forest). marks_in w.table f.nodes) c.forest.ensures
    ∙ sym (marks-same (chosen_of w.indexes.items w.cases.items) w.loaded w.draft.now w.table w.flags.items w.shown.now w.tally c.self.invariant.sound.many)
    ∙ ap (λ (t : Twin). machine.marks_in (state_of t.now)) c.self.view_is
