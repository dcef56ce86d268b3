use Rattle.std.proofs.Common.{Ok, map, sym, ap, ◌∙◌}
use Rattle.xf_actions.specs.Seen.{fired_of}
use Rattle.xf_engine_state.specs.Standing.{state_of}
use Rattle.xf_engine_world.proofs.Besides.{beside_in, refresh-made, refresh-stopped}
use Rattle.xf_engine_world.proofs.behaviours.refresh.Goals as goal

pub returns-in-Ok-events_of-clause-done : goal.returns-in-Ok-events_of-clause-done
returns-in-Ok-events_of-clause-done c =
    let w = c.args.world.now in
    let after = c.told_of-told.new.world.work.now in
    let events = map fired_of c.in-Ok-events_of.events in
    refresh-made (beside_in w) c.args.model w.work.now after c.in-Ok.all events c.in-Ok.ensures.done c.in-Ok-events_of.ensures
    ∙ ap (λ ns. Ok (events, record (state_of after) { notes = ns; calls = w.calls })) (sym c.told_of-told.ensures.notes)
    ∙ ap (λ cs. Ok (events, record (state_of after) { notes = c.told_of-told.new.world.notes; calls = cs })) (sym c.told_of-told.ensures.calls)

pub returns-clause-done : goal.returns-clause-done
returns-clause-done c =
    let w = c.args.world.now in
    rw c.told_of-told.ensures.calls
    (refresh-stopped (beside_in w) c.args.model w.work.now c.told_of-told.new.world.work.now c.in-Err.fault c.event_fault.result c.in-Err.ensures.done c.event_fault.ensures)
