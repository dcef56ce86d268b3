use Rattle.std.proofs.Common.{ap, ◌∙◌}
use Rattle.xf_def_machine.specs.Refusal.{or_long}
use Rattle.xf_def_form.specs.Formed.{profile}
use Rattle.xf_submit.proofs.MachineLaws.{request-shown}
use Rattle.xf_engine_state.specs.Marked.{properties_of}
use Rattle.xf_engine_world.specs.State.{state_of}
use Rattle.xf_engine_world.proofs.sending.request.Goals as goal

pub returns : goal.returns
returns c =
    let s = state_of c.args.world.now in
    request-shown profile c.over_quiet-over.result s c.over_quiet-over.ensures.shows (properties_of c.marks.result) c.args.submission.now c.marks.ensures
    ∙ ap (or_long s) c.in_ok-asked.ensures
