use Rattle.std.proofs.Common.{ℕ, List, Ok, sym, ap, ◌∙◌}
use Rattle.xf_def_forest.specs.Forest.{Forest}
use Rattle.xf_def_ui.specs.declared.marks.Marks.{Marks}
use Rattle.xf_def_model.specs.declared.asked.DeleteAsked.{DeleteAsked}
use Rattle.xf_def_model.specs.Taken as model
use Rattle.xf_insert.specs.Closed.{closed_by, delete_asked}
use Rattle.xf_engine_state.specs.Marked.{properties_of}
use Rattle.xf_engine_world.specs.State.{state_of}
use Rattle.xf_engine_world.proofs.planning.planned_delete.Goals as goal

pub returns-in-Ok : goal.returns-in-Ok
returns-in-Ok c =
    let nodes = (state_of c.args.world.now).forest.nodes in
    let asked : List ℕ → DeleteAsked = λ closed. delete_asked closed c.args.set.now c.args.at in
    ap Ok (ap (λ (m : ℕ → Marks). model.planned_delete nodes (asked (closed_by m nodes))) (sym c.marks-marks.ensures)
    ∙ ap (λ (f : Forest). model.planned_delete f.nodes (asked (closed_by (properties_of c.marks-marks.result) f.nodes))) (sym c.forest-forest.ensures)
    ∙ sym c.in-Ok.ensures)
