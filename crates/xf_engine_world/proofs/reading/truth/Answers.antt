use Rattle.std.proofs.Common.{Some, ◌∙◌}
use Rattle.xf_def_xpath.specs.Meaning.{meaning}
use Rattle.xf_def_ui.specs.Around.{setting}
use Rattle.xf_def_machine.specs.Surround.{around}
use Rattle.xf_actions.specs.Seen.{focus_of, told_of}
use Rattle.xf_actions.proofs.Flow.{reads-stopped, same-refuses}
use Rattle.xf_eval_context.specs.Over.{truth_worth}
use Rattle.xf_def_form.specs.Formed.{profile}
use Rattle.xf_engine_world.specs.State.{state_of}
use Rattle.xf_engine_world.proofs.ReadLaws.{read-fault, read-some, truth-by}
use Rattle.xf_engine_world.proofs.reading.truth.Goals as goal

pub returns-in_err-truth : goal.returns-in_err-truth
returns-in_err-truth c =
    let s = state_of c.args.world.now in
    let event = Some (told_of c.args.fired.now.properties) in
    let x = c.args.acting.now in
    let f = focus_of x.focus in
    let m = meaning c.args.expr.now in
    reads-stopped _ _ s _ _ _ c.from_residual.ensures.1
    (same-refuses _ _ _ _ (truth-by s (around profile s event) x.model f (m (setting (around profile s event) x.model f.node) f))
    (read-fault c.over_event-over.result s event c.over_event-over.ensures (λ a. truth_worth a x.model f m) c.in_err-truth.field-0.0 c.in_err-truth.ensures))

pub returns : goal.returns
returns c =
    let s = state_of c.args.world.now in
    let event = Some (told_of c.args.fired.now.properties) in
    let x = c.args.acting.now in
    let f = focus_of x.focus in
    let m = meaning c.args.expr.now in
    truth-by s (around profile s event) x.model f (m (setting (around profile s event) x.model f.node) f)
    ∙ read-some c.over_event-over.result s event c.over_event-over.ensures (λ a. truth_worth a x.model f m) c.in_ok-truth.truth c.in_ok-truth.ensures
