use Rattle.std.proofs.Common.{◌≡◌, Some, None, option_map, sym, ap, ◌∙◌, subst, ◌⊎◌}
use Rattle.xf_def_forest.specs.declared.node.NodeId.{NodeId}
use Rattle.xf_def_xpath.specs.declared.fault.EvalFault.TheVariants.{Long, Memory}
use Rattle.xf_def_ui.specs.Around.{first_bound}
use Rattle.xf_def_ui.specs.Elements.{element_at}
use Rattle.xf_def_machine.specs.Surround.{interface}
use Rattle.xf_actions.specs.Seen.{focus_of, told_of}
use Rattle.xf_actions.proofs.Flow.{reads-stopped}
use Rattle.xf_eval_context.specs.Over.{around_over}
use Rattle.xf_engine_world.specs.State.{state_of}
use Rattle.xf_engine_world.proofs.ReadLaws.{read-fault, read-some}
use Rattle.xf_engine_world.proofs.reading.bound.Goals as goal

pub returns-in_err-node : goal.returns-in_err-node
returns-in_err-node c =
    let s = state_of c.args.world.now in
    let model = c.args.acting.now.model in
    let n = c.args.acting.now.element in
    let f = focus_of c.args.acting.now.focus in
    let o = c.over_event-over.result in
    let e = c.in_err-node.field-0.0 in
    let same = c.binding_at-binding.ensures ∙ ap (λ i. (element_at i n).binding) (sym c.over_event-over.ensures.interface) in
    reads-stopped _ _ s _ _ _ c.from_residual.ensures.1
    (read-fault o s (Some (told_of c.args.fired.now.properties)) c.over_event-over.ensures (λ b. first_bound b model (element_at (interface s) n).binding (Some f)) e
    (subst (λ y. (e ≡ Memory) ⊎ ((e ≡ Long) × (first_bound (around_over o) model y (Some f) ≡ None))) same c.in_err-node.ensures))

pub returns : goal.returns
returns c =
    let s = state_of c.args.world.now in
    let model = c.args.acting.now.model in
    let n = c.args.acting.now.element in
    let f = focus_of c.args.acting.now.focus in
    let o = c.over_event-over.result in
    let same = c.binding_at-binding.ensures ∙ ap (λ i. (element_at i n).binding) (sym c.over_event-over.ensures.interface) in
    read-some o s (Some (told_of c.args.fired.now.properties)) c.over_event-over.ensures (λ b. first_bound b model (element_at (interface s) n).binding (Some f)) (option_map (λ (n : NodeId). n.number) c.in_ok-node.node)
    (ap (λ y. first_bound (around_over o) model y (Some f)) (sym same) ∙ c.in_ok-node.ensures)
