use Rattle.std.proofs.Common.{ap, ◌∙◌}
use Rattle.xf_def_machine.specs.Refusal.{or_long}
use Rattle.xf_actions.proofs.Flow.{reads-stopped, same-refuses}
use Rattle.xf_def_form.specs.Formed.{profile}
use Rattle.xf_submit.proofs.MachineLaws.{target-shown}
use Rattle.xf_engine_world.specs.State.{state_of}
use Rattle.xf_engine_world.proofs.ReadLaws.{long-told}
use Rattle.xf_engine_world.proofs.sending.target_of.Goals as goal

pub returns-in_err-found : goal.returns-in_err-found
returns-in_err-found c =
    let s = state_of c.args.world.now in
    reads-stopped _ _ s _ _ _ c.from_residual.ensures.1
    (same-refuses _ _ _ _ (target-shown profile c.over_quiet.result s c.over_quiet.ensures.shows c.args.submission.now c.args.selected.number) (long-told c.in_err-found.field-0.0 s _ c.in_err-found.ensures))

pub returns : goal.returns
returns c =
    let s = state_of c.args.world.now in
    target-shown profile c.over_quiet.result s c.over_quiet.ensures.shows c.args.submission.now c.args.selected.number ∙ ap (or_long s) c.in_ok-found.ensures
