use Rattle.std.proofs.Common.{rules}
use Rattle.xf_def_machine.specs.Acting.{act_at}
use Rattle.xf_actions.specs.Seen.{acting_of}
use Rattle.xf_actions.specs.Parts.{work_in}
use Rattle.xf_actions.proofs.Flow.{makes-stopped}
use Rattle.xf_actions.proofs.Doings.{sets-stops, speaks-stops}
use Rattle.xf_actions.proofs.WorkKinds.{loads-stops, indexes-stops, focuses-stops}
use Rattle.xf_actions.proofs.work.change.Goals as goal

pub returns-in_err-set_value-in-Sets-clause-done : goal.returns-in_err-set_value-in-Sets-clause-done
returns-in_err-set_value-in-Sets-clause-done g c =
    makes-stopped _ _ _ _ _ _ c.from_residual.ensures.1 (sets-stops g.W.World.profile (acting_of c.args.fired.now c.args.acting.now) (work_in (act_at (g.W.World.state c.args.world.now) c.args.acting.now.element)) (g.W.World.state c.args.world.now) _ _ (search rules) c.in_err-set_value-in-Sets.ensures.done)

pub returns-in_err-message-in-Speaks-clause-done : goal.returns-in_err-message-in-Speaks-clause-done
returns-in_err-message-in-Speaks-clause-done g c =
    makes-stopped _ _ _ _ _ _ c.from_residual-in_err-message-in-Speaks.ensures.1
    (speaks-stops g.W.World.profile (acting_of c.args.fired.now c.args.acting.now) (work_in (act_at (g.W.World.state c.args.world.now) c.args.acting.now.element)) (g.W.World.state c.args.world.now) _ _ (search rules) c.in_err-message-in-Speaks.ensures.done)

pub returns-in_err-load-in-Loads-clause-done : goal.returns-in_err-load-in-Loads-clause-done
returns-in_err-load-in-Loads-clause-done g c =
    makes-stopped _ _ _ _ _ _ c.from_residual-in_err-load-in-Loads.ensures.1
    (loads-stops g.W.World.profile (acting_of c.args.fired.now c.args.acting.now) (work_in (act_at (g.W.World.state c.args.world.now) c.args.acting.now.element)) (g.W.World.state c.args.world.now) _ _ (search rules) c.in_err-load-in-Loads.ensures.done)

pub returns-in_err-set_index-in-Indexes-clause-done : goal.returns-in_err-set_index-in-Indexes-clause-done
returns-in_err-set_index-in-Indexes-clause-done g c =
    makes-stopped _ _ _ _ _ _ c.from_residual-in_err-set_index-in-Indexes.ensures.1
    (indexes-stops g.W.World.profile (acting_of c.args.fired.now c.args.acting.now) (work_in (act_at (g.W.World.state c.args.world.now) c.args.acting.now.element)) c.in-Indexes.repeat (g.W.World.state c.args.world.now) _ _ (search rules) c.in_err-set_index-in-Indexes.ensures.done)

pub returns-in_err-set_focus-in-Focuses-clause-done : goal.returns-in_err-set_focus-in-Focuses-clause-done
returns-in_err-set_focus-in-Focuses-clause-done g c =
    makes-stopped _ _ _ _ _ _ c.from_residual-in_err-set_focus-in-Focuses.ensures.1
    (focuses-stops g.W.World.profile (acting_of c.args.fired.now c.args.acting.now) (work_in (act_at (g.W.World.state c.args.world.now) c.args.acting.now.element)) c.in-Focuses.control (g.W.World.state c.args.world.now) _ _ (search rules) c.in_err-set_focus-in-Focuses.ensures.done)
