use Rattle.std.proofs.Common.{◌≡◌, Some, None, sym, ap, ◌∙◌, subst, ◌⊎◌}
use Rattle.xf_def_xpath.specs.declared.fault.EvalFault.TheVariants.{Long, Memory}
use Rattle.xf_def_xpath.specs.Meaning.{meaning, text_worth}
use Rattle.xf_def_xpath.specs.Setting.{Focus}
use Rattle.xf_def_ui.specs.Around.{alone, setting}
use Rattle.xf_actions.specs.Seen.{told_of}
use Rattle.xf_actions.proofs.Flow.{reads-stopped}
use Rattle.xf_eval_context.specs.Over.{around_over}
use Rattle.xf_engine_world.specs.State.{state_of}
use Rattle.xf_engine_world.proofs.ReadLaws.{read-fault, read-some}
use Rattle.xf_engine_world.proofs.reading.text_at.Goals as goal

pub returns-in_err-text : goal.returns-in_err-text
returns-in_err-text c =
    let s = state_of c.args.world.now in
    let x = c.args.acting.now in
    let n = c.args.node.number in
    let o = c.over_event-over.result in
    let m = meaning c.args.expr.now in
    let e = c.in_err-text.field-0.0 in
    reads-stopped _ _ s _ _ _ c.from_residual.ensures.1
    (read-fault o s (Some (told_of c.args.fired.now.properties)) c.over_event-over.ensures (λ a. text_worth m (setting a x.model n) (alone n)) e
    (subst (λ (f : Focus). (e ≡ Memory) ⊎ ((e ≡ Long) × (text_worth m (setting (around_over o) x.model f.node) f ≡ None))) c.alone.ensures c.in_err-text.ensures))

pub returns : goal.returns
returns c =
    let s = state_of c.args.world.now in
    let x = c.args.acting.now in
    let n = c.args.node.number in
    let o = c.over_event-over.result in
    let m = meaning c.args.expr.now in
    read-some o s (Some (told_of c.args.fired.now.properties)) c.over_event-over.ensures (λ a. text_worth m (setting a x.model n) (alone n)) c.in_ok-text.text
    (ap (λ (f : Focus). text_worth m (setting (around_over o) x.model f.node) f) (sym c.alone.ensures) ∙ c.in_ok-text.ensures)
