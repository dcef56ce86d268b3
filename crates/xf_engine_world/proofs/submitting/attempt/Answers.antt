use Rattle.std.proofs.Common.{◌≡◌, Ok, slice_get, subst}
use Rattle.std.specs.Prelude.{IfSome}
use Rattle.xf_def_form.specs.Formed.{profile}
use Rattle.xf_submit.specs.Requesting.{seen_request}
use Rattle.xf_submit.specs.Steps.{request_in}
use Rattle.xf_engine_world.specs.State.{state_of}
use Rattle.xf_engine_world.proofs.SendLaws.{attempted-asks, attempted-fails}
use Rattle.xf_engine_world.proofs.submitting.attempt.Goals as goal

pub returns-in-Fails-clause-done : goal.returns-in-Fails-clause-done
returns-in-Fails-clause-done g c =
    let s = state_of c.args.world.now in
    let o = slice_get s.form.submissions c.args.submission in
    attempted-fails o s c.failed.result c.in-Fails.error
    (subst (λ r. IfSome o (λ sub. request_in profile sub s ≡ Ok (seen_request r))) c.in-Fails.is c.in_ok-error.ensures) c.failed.ensures.events c.failed.ensures.failure

pub returns-in-Asks-clause-done : goal.returns-in-Asks-clause-done
returns-in-Asks-clause-done g c =
    let s = state_of c.args.world.now in
    let o = slice_get s.form.submissions c.args.submission in
    attempted-asks o s (state_of c.exchange.new.world) c.exchange.result c.in-Asks.node.number c.in-Asks.asked
    (subst (λ r. IfSome o (λ sub. request_in profile sub s ≡ Ok (seen_request r))) c.in-Asks.is c.in_ok-error.ensures) c.exchange.ensures.done
