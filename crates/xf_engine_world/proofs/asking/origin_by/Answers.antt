use Rattle.std.proofs.Common.{Some, Ok, sym, ap, ◌∙◌}
use Rattle.xf_def_xpath.specs.Conversions.{nodes_of}
use Rattle.xf_def_xpath.specs.Meaning.{meaning}
use Rattle.xf_def_ui.specs.Around.{setting}
use Rattle.xf_def_machine.specs.Flow.{◌>>=◌}
use Rattle.xf_actions.specs.Seen.{focus_of, told_of}
use Rattle.xf_actions.proofs.Flow.{reads-stopped, refuses-then}
use Rattle.xf_engine_world.specs.State.{state_of}
use Rattle.xf_engine_world.proofs.ReadLaws.{read-fault, read-some}
use Rattle.xf_engine_world.proofs.asking.origin_by.Goals as goal

pub returns-in_err-value : goal.returns-in_err-value
returns-in_err-value c =
    let s = state_of c.args.world.now in
    let f = focus_of c.args.focus.now in
    reads-stopped _ _ s _ _ _ c.from_residual.ensures.1
    (refuses-then _ _ _ _
    (read-fault c.over_event.result s (Some (told_of c.args.fired.now.properties)) c.over_event.ensures
    (λ a. meaning c.args.expr.now (setting a c.args.acting.now.model f.node) f) c.in_err-value.field-0.0 c.in_err-value.ensures.value))

pub returns : goal.returns
returns c =
    let s = state_of c.args.world.now in
    let f = focus_of c.args.focus.now in
    ap (λ r. r >>= λ v. Ok (nodes_of v))
    (read-some c.over_event.result s (Some (told_of c.args.fired.now.properties)) c.over_event.ensures
    (λ a. meaning c.args.expr.now (setting a c.args.acting.now.model f.node) f) c.in_ok-value.value c.in_ok-value.ensures.value)
    ∙ ap (λ ns. Ok ns) (sym c.nodes_in.ensures)
