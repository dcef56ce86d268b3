use Rattle.std.proofs.Common.{slice_get, ap}
use Rattle.xf_def_machine.specs.Program.{Program}
use Rattle.xf_engine_world.specs.State.{state_of}
use Rattle.xf_engine_world.proofs.SendLaws.{exchanged-answered}
use Rattle.xf_engine_world.proofs.submitting.exchange.Goals as goal

pub returns-clause-done : goal.returns-clause-done
returns-clause-done g c =
    let s = state_of c.args.world.now in
    let mid = state_of c.call.new.world in
    let k = c.args.submission in
    exchanged-answered c.args.node.number c.args.asked s mid (slice_get s.form.submissions k) (slice_get mid.form.submissions k) (state_of c.respond.new.world) c.respond.result
    c.in_ok-outcome.outcome (ap (λ (f : Program). slice_get f.submissions k) c.in_ok-call.ensures.form) c.in_ok-call.ensures.done c.in_ok-outcome.ensures.value
    c.respond.ensures.done c.respond.ensures.calls
