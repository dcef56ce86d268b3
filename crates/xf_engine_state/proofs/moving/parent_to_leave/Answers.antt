use Rattle.std.proofs.Common.{sym}
use Rattle.xf_def_forest.proofs.LiveLaws.{parent-live}
use Rattle.xf_engine_state.proofs.StandLaws.{go-live}
use Rattle.xf_engine_state.proofs.moving.parent_to_leave.Goals as goal

pub parent-requires : goal.parent-requires
parent-requires c = record { live = go-live c.args.node.number c.args.forest.now.forest (c.may_detach.ensures.0 c.if-not-may_detach.false) }

pub holder-requires : goal.holder-requires
holder-requires c = parent-live c.args.node.number c.in-Some.parent.number c.args.forest.now.forest.nodes (sym c.in-Some.ensures)
