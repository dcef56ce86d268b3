use Rattle.std.proofs.Common.{◌≡◌, Some, None, sym, ap, ◌∙◌, subst, ◌⊎◌}
use Rattle.xf_def_xpath.specs.declared.fault.EvalFault.TheVariants.{Long, Memory}
use Rattle.xf_def_ui.specs.Context.{Context}
use Rattle.xf_def_ui.specs.Elements.{element_at}
use Rattle.xf_def_machine.specs.Surround.{interface}
use Rattle.xf_actions.specs.Seen.{acting_of, told_of}
use Rattle.xf_actions.proofs.Flow.{reads-stopped, same-refuses}
use Rattle.xf_eval_context.specs.Over.{around_over, text_or}
use Rattle.xf_engine_world.specs.State.{state_of}
use Rattle.xf_engine_world.proofs.ReadLaws.{loaded-by, read-fault, read-some}
use Rattle.xf_engine_world.proofs.speaking.loaded.Goals as goal

pub returns-in_err-text : goal.returns-in_err-text
returns-in_err-text c =
    let s = state_of c.args.world.now in
    let x = acting_of c.args.fired.now c.args.acting.now in
    let at : Context = record { model = x.model; focus = Some x.focus } in
    let o = c.over_event-over.result in
    let resource = c.args.resource.now in
    let e = c.in_err-text.field-0.0 in
    let same = c.binding_at-binding.ensures ∙ ap (λ i. (element_at i x.element).binding) (sym c.over_event-over.ensures.interface) in
    reads-stopped _ _ s _ _ _ c.from_residual.ensures.1
    (same-refuses _ _ _ _ (loaded-by s x resource (element_at (interface s) x.element).binding)
    (read-fault o s (Some (told_of c.args.fired.now.properties)) c.over_event-over.ensures (λ b. text_or b at resource (element_at (interface s) x.element).binding) e
    (subst (λ y. (e ≡ Memory) ⊎ ((e ≡ Long) × (text_or (around_over o) at resource y ≡ None))) same c.in_err-text.ensures)))

pub returns : goal.returns
returns c =
    let s = state_of c.args.world.now in
    let x = acting_of c.args.fired.now c.args.acting.now in
    let at : Context = record { model = x.model; focus = Some x.focus } in
    let o = c.over_event-over.result in
    let resource = c.args.resource.now in
    let same = c.binding_at-binding.ensures ∙ ap (λ i. (element_at i x.element).binding) (sym c.over_event-over.ensures.interface) in
    loaded-by s x resource (element_at (interface s) x.element).binding
    ∙ read-some o s (Some (told_of c.args.fired.now.properties)) c.over_event-over.ensures (λ b. text_or b at resource (element_at (interface s) x.element).binding) c.in_ok-text.text
    (ap (text_or (around_over o) at resource) (sym same) ∙ c.in_ok-text.ensures)
