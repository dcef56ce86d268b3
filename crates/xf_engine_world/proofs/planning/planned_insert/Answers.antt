use Rattle.std.proofs.Common.{ℕ, List, Ok, sym, ap, ◌∙◌}
use Rattle.xf_def_forest.specs.Forest.{Forest}
use Rattle.xf_def_ui.specs.declared.marks.Marks.{Marks}
use Rattle.xf_def_model.specs.declared.asked.InsertAsked.{InsertAsked}
use Rattle.xf_def_model.specs.Places as model
use Rattle.xf_def_machine.specs.Tables.{insert_by}
use Rattle.xf_insert.specs.Closed.{closed_by, insert_asked}
use Rattle.xf_engine_state.specs.Marked.{properties_of}
use Rattle.xf_engine_world.specs.State.{state_of}
use Rattle.xf_engine_world.proofs.planning.planned_insert.Goals as goal

pub returns-in-Ok : goal.returns-in-Ok
returns-in-Ok c =
    let nodes = (state_of c.args.world.now).forest.nodes in
    let asked : List ℕ → InsertAsked = λ closed. insert_asked closed (insert_by c.args.work.now) c.args.focus.now.node.number c.args.set.now c.args.origin.now c.args.at in
    ap Ok (ap (λ (m : ℕ → Marks). model.planned_insert nodes (asked (closed_by m nodes))) (sym c.marks-marks.ensures)
    ∙ ap (λ (f : Forest). model.planned_insert f.nodes (asked (closed_by (properties_of c.marks-marks.result) f.nodes))) (sym c.forest-forest.ensures)
    ∙ sym c.in-Ok.ensures)
