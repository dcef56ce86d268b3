use Rattle.std.proofs.Common.{Some, Ok, option_map, sym, ap, ◌∙◌}
use Rattle.xf_def_forest.specs.declared.node.NodeId.{NodeId}
use Rattle.xf_def_xpath.specs.Meaning.{meaning}
use Rattle.xf_def_ui.specs.Around.{alone, first_stand, selected_by}
use Rattle.xf_def_machine.specs.Flow.{◌>>=◌}
use Rattle.xf_def_machine.specs.Surround.{around}
use Rattle.xf_actions.specs.Seen.{focus_of, told_of}
use Rattle.xf_actions.proofs.Flow.{reads-stopped, refuses-then, same-refuses}
use Rattle.xf_def_form.specs.Formed.{profile}
use Rattle.xf_engine_world.specs.State.{state_of}
use Rattle.xf_engine_world.proofs.ReadLaws.{moved-by, read-fault, read-some}
use Rattle.xf_engine_world.proofs.reading.moved_by.Goals as goal

pub returns-in_err-node : goal.returns-in_err-node
returns-in_err-node c =
    let s = state_of c.args.world.now in
    let event = Some (told_of c.args.fired.now.properties) in
    let model = c.args.acting.now.model in
    let f = focus_of c.args.acting.now.focus in
    let m = meaning c.args.expr.now in
    let b = around profile s event in
    reads-stopped _ _ s _ _ _ c.from_residual.ensures.1
    (same-refuses _ _ _ _ (moved-by s model (option_map (first_stand b) (selected_by b model f m)))
    (refuses-then _ _ _ _
    (read-fault c.over_event-over.result s event c.over_event-over.ensures
    (λ a. option_map (first_stand a) (selected_by a model f m)) c.in_err-node.field-0.0 c.in_err-node.ensures)))

pub returns-in-Some : goal.returns-in-Some
returns-in-Some c =
    let s = state_of c.args.world.now in
    let event = Some (told_of c.args.fired.now.properties) in
    let model = c.args.acting.now.model in
    let f = focus_of c.args.acting.now.focus in
    let m = meaning c.args.expr.now in
    let b = around profile s event in
    moved-by s model (option_map (first_stand b) (selected_by b model f m))
    ∙ ap (λ r. r >>= λ n. Ok (option_map alone n))
    (read-some c.over_event-over.result s event c.over_event-over.ensures
    (λ a. option_map (first_stand a) (selected_by a model f m)) (option_map (λ (n : NodeId). n.number) c.in_ok-node.node) c.in_ok-node.ensures)
    ∙ ap (λ o. Ok (option_map alone (option_map (λ (n : NodeId). n.number) o))) c.in-Some.is ∙ ap (λ y. Ok (Some y)) (sym c.alone.ensures)

pub returns-in-None : goal.returns-in-None
returns-in-None c =
    let s = state_of c.args.world.now in
    let event = Some (told_of c.args.fired.now.properties) in
    let model = c.args.acting.now.model in
    let f = focus_of c.args.acting.now.focus in
    let m = meaning c.args.expr.now in
    let b = around profile s event in
    moved-by s model (option_map (first_stand b) (selected_by b model f m))
    ∙ ap (λ r. r >>= λ n. Ok (option_map alone n))
    (read-some c.over_event-over.result s event c.over_event-over.ensures
    (λ a. option_map (first_stand a) (selected_by a model f m)) (option_map (λ (n : NodeId). n.number) c.in_ok-node.node) c.in_ok-node.ensures)
    ∙ ap (λ o. Ok (option_map alone (option_map (λ (n : NodeId). n.number) o))) c.in-None.is
