use Rattle.xf_def_machine.specs.Tables.{insert_by}
use Rattle.xf_actions.specs.Seen.{acting_of, focus_of}
use Rattle.xf_actions.proofs.Flow.{reads-stopped, refuses-any}
use Rattle.xf_actions.proofs.Trees.{planned-stops, planned-no_origin, planned-no_place}
use Rattle.xf_actions.proofs.insert.inserting_by.Goals as goal

pub returns-in_err-set : goal.returns-in_err-set
returns-in_err-set g c = reads-stopped _ _ (g.W.World.state c.args.world.now) _ _ _ c.from_residual.ensures.1 (planned-stops g.W.World.profile (acting_of c.args.fired.now c.args.acting.now) (insert_by c.args.work.now) (focus_of c.args.focus.now) (g.W.World.state c.args.world.now) _ _ c.in_err-set.ensures)

pub returns-in_err-origin : goal.returns-in_err-origin
returns-in_err-origin g c =
    reads-stopped _ _ (g.W.World.state c.args.world.now) _ _ _ c.from_residual-in_err-origin.ensures.1
    (planned-no_origin g.W.World.profile (acting_of c.args.fired.now c.args.acting.now) (insert_by c.args.work.now) (focus_of c.args.focus.now) (g.W.World.state c.args.world.now) _ _ _ c.in_ok-set.ensures c.in_err-origin.ensures)

pub returns-in_err-at : goal.returns-in_err-at
returns-in_err-at g c =
    reads-stopped _ _ (g.W.World.state c.args.world.now) _ _ _ c.from_residual-in_err-at.ensures.1
    (planned-no_place g.W.World.profile (acting_of c.args.fired.now c.args.acting.now) (insert_by c.args.work.now) (focus_of c.args.focus.now) (g.W.World.state c.args.world.now) _ _ _ _ c.in_ok-set.ensures c.in_ok-origin.ensures c.in_err-at.ensures)

pub returns-in_err-location : goal.returns-in_err-location
returns-in_err-location g c = reads-stopped _ _ (g.W.World.state c.args.world.now) _ _ _ c.from_residual-in_err-location.ensures.1 (refuses-any _ _ _ _ c.in_err-location.ensures)

pub returns-in_err-places : goal.returns-in_err-places
returns-in_err-places g c = reads-stopped _ _ (g.W.World.state c.args.world.now) _ _ _ c.from_residual-in_err-places.ensures.1 (refuses-any _ _ _ _ c.in_err-places.ensures)
