use Rattle.xf_engine_state.proofs.StandLaws.{come-live}
use Rattle.xf_engine_state.proofs.moving.parent_to_come.Goals as goal

pub holder-requires : goal.holder-requires
holder-requires c = come-live c.args.node.number c.args.parent.number c.args.place c.args.forest.now.forest (c.may_attach.ensures.0 c.if-not-may_attach.false)
