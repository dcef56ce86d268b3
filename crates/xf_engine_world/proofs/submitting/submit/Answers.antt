use Rattle.std.proofs.Common.{◌≡◌, Some, Ok, slice_get, ap, ◌∙◌, subst}
use Rattle.std.specs.Prelude.{not}
use Rattle.xf_def_machine.specs.Program.{Program}
use Rattle.xf_actions.specs.Defaulted.{with_end}
use Rattle.xf_actions.specs.Seen.{concluded_of}
use Rattle.xf_engine_world.specs.State.{state_of}
use Rattle.xf_engine_world.specs.Submitting.{sent_of}
use Rattle.xf_engine_world.proofs.SendLaws.{found-there, submitted-sent}
use Rattle.xf_engine_world.proofs.submitting.submit.Goals as goal

pub returns-in-Ok-clause-done : goal.returns-in-Ok-clause-done
returns-in-Ok-clause-done g c =
    let s = state_of c.args.world.now in
    let new = state_of c.send.new.world in
    let k = c.args.submission in
    let o = slice_get s.form.submissions k in
    submitted-sent o k s new s.form c.in_ok-sent.sent c.in-Ok.concluded (found-there _ c.submission_at.result o (c.is_none.ensures ∙ ap not c.if-is_none.false) c.submission_at.ensures) c.in_ok-sent.ensures.done
    (λ sub e. subst (λ (f : Program). with_end k (Some sub) (Ok (sent_of new c.in_ok-sent.sent)) ≡ Ok (concluded_of f new c.in-Ok.concluded)) c.in_ok-sent.ensures.form
    (c.in-Ok.ensures new sub (ap (λ (f : Program). slice_get f.submissions k) c.in_ok-sent.ensures.form ∙ e)))
