use Rattle.std.proofs.Common.{Some, ◌∙◌}
use Rattle.xf_def_xpath.specs.Meaning.{meaning}
use Rattle.xf_def_ui.specs.Around.{setting}
use Rattle.xf_def_machine.specs.Surround.{around}
use Rattle.xf_actions.specs.Seen.{focus_of, told_of}
use Rattle.xf_actions.proofs.Flow.{reads-stopped, same-refuses}
use Rattle.xf_eval_context.specs.Over.{whole_worth}
use Rattle.xf_def_form.specs.Formed.{profile}
use Rattle.xf_engine_world.specs.State.{state_of}
use Rattle.xf_engine_world.proofs.ReadLaws.{read-fault, read-some, whole-by}
use Rattle.xf_engine_world.proofs.reading.whole.Goals as goal

pub returns-in_err-number : goal.returns-in_err-number
returns-in_err-number c =
    let s = state_of c.args.world.now in
    let event = Some (told_of c.args.fired.now.properties) in
    let model = c.args.acting.now.model in
    let f = focus_of c.args.focus.now in
    let m = meaning c.args.expr.now in
    reads-stopped _ _ s _ _ _ c.from_residual.ensures.1
    (same-refuses _ _ _ _ (whole-by s (around profile s event) model f (m (setting (around profile s event) model f.node) f))
    (read-fault c.over_event-over.result s event c.over_event-over.ensures (λ a. whole_worth a model f m) c.in_err-number.field-0.0 c.in_err-number.ensures))

pub returns : goal.returns
returns c =
    let s = state_of c.args.world.now in
    let event = Some (told_of c.args.fired.now.properties) in
    let model = c.args.acting.now.model in
    let f = focus_of c.args.focus.now in
    let m = meaning c.args.expr.now in
    whole-by s (around profile s event) model f (m (setting (around profile s event) model f.node) f)
    ∙ read-some c.over_event-over.result s event c.over_event-over.ensures (λ a. whole_worth a model f m) c.in_ok-number.number c.in_ok-number.ensures
