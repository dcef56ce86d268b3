use Rattle.std.proofs.Common.{◌≡◌, None, Some, sym, ap, ◌∙◌, subst, ◌⊎◌}
use Rattle.xf_def_xpath.specs.declared.fault.EvalFault.TheVariants.{Long, Memory}
use Rattle.xf_def_ui.specs.Context.{inside}
use Rattle.xf_def_ui.specs.Elements.{element_at}
use Rattle.xf_def_ui.specs.Interface.{interface_of}
use Rattle.xf_def_ui.specs.Labels.{text_in}
use Rattle.xf_def_machine.specs.Flow.{◌>>=◌}
use Rattle.xf_def_machine.specs.Surround.{interface}
use Rattle.xf_actions.specs.Seen.{acting_of, told_of}
use Rattle.xf_actions.proofs.Flow.{reads-stopped, refuses-then, same-refuses}
use Rattle.xf_eval_context.specs.Inside.{seen_inside}
use Rattle.xf_eval_context.specs.Over.{around_over}
use Rattle.xf_engine_world.specs.State.{state_of}
use Rattle.xf_engine_world.proofs.ReadLaws.{read-fault, read-some, spoken_in}
use Rattle.xf_engine_world.proofs.speaking.message.Goals as goal

pub returns-in_err-within : goal.returns-in_err-within
returns-in_err-within c =
    let s = state_of c.args.world.now in
    let x = acting_of c.args.fired.now c.args.acting.now in
    let o = c.over_quiet.result in
    let n = x.element in
    let e = c.in_err-within.field-0.0 in
    reads-stopped _ _ s _ _ _ c.from_residual.ensures.1
    (refuses-then _ _ _ (spoken_in s x)
    (read-fault o s None c.over_quiet.ensures.around (λ b. inside (interface s) b x.rows n) e
    (subst (λ f. (e ≡ Memory) ⊎ ((e ≡ Long) × (inside f (around_over o) x.rows n ≡ None))) (sym c.over_quiet.ensures.around.interface)
    (subst (λ rows. (e ≡ Memory) ⊎ ((e ≡ Long) × (inside (interface_of o.form.now) (around_over o) rows n ≡ None))) c.as_slice.ensures c.in_err-within.ensures))))

pub returns-in_err-text : goal.returns-in_err-text
returns-in_err-text c =
    let s = state_of c.args.world.now in
    let x = acting_of c.args.fired.now c.args.acting.now in
    let o = c.over_quiet.result in
    let q = c.over_event.result in
    let n = x.element in
    let within = seen_inside c.in_ok-within.within in
    let e = c.in_err-text.field-0.0 in
    reads-stopped _ _ s _ _ _ c.from_residual-in_err-text.ensures.1
    (same-refuses _ _ _ _
    (ap (λ r. r >>= spoken_in s x)
    (read-some o s None c.over_quiet.ensures.around (λ b. inside (interface s) b x.rows n) within
    (ap (λ f. inside f (around_over o) x.rows n) c.over_quiet.ensures.around.interface
    ∙ ap (λ rows. inside (interface_of o.form.now) (around_over o) rows n) (sym c.as_slice.ensures) ∙ c.in_ok-within.ensures)))
    (read-fault q s (Some (told_of c.args.fired.now.properties)) c.over_event.ensures (λ b. text_in (interface s) b within (element_at (interface s) n)) e
    (subst (λ f. (e ≡ Memory) ⊎ ((e ≡ Long) × (text_in f (around_over q) within (element_at f n) ≡ None))) (sym c.over_event.ensures.interface) c.in_err-text.ensures)))

pub returns : goal.returns
returns c =
    let s = state_of c.args.world.now in
    let x = acting_of c.args.fired.now c.args.acting.now in
    let o = c.over_quiet.result in
    let q = c.over_event.result in
    let n = x.element in
    let within = seen_inside c.in_ok-within.within in
    ap (λ r. r >>= spoken_in s x)
    (read-some o s None c.over_quiet.ensures.around (λ b. inside (interface s) b x.rows n) within
    (ap (λ f. inside f (around_over o) x.rows n) c.over_quiet.ensures.around.interface
    ∙ ap (λ rows. inside (interface_of o.form.now) (around_over o) rows n) (sym c.as_slice.ensures) ∙ c.in_ok-within.ensures))
    ∙ read-some q s (Some (told_of c.args.fired.now.properties)) c.over_event.ensures (λ b. text_in (interface s) b within (element_at (interface s) n)) c.in_ok-text.text
    (ap (λ f. text_in f (around_over q) within (element_at f n)) c.over_event.ensures.interface ∙ c.in_ok-text.ensures)
