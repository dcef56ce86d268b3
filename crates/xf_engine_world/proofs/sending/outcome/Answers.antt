use Rattle.std.proofs.Common.{Ok, sym, ap, ◌∙◌}
use Rattle.xf_submit.specs.Responding.{responded_by}
use Rattle.xf_engine_world.specs.State.{state_of}
use Rattle.xf_engine_world.proofs.OutcomeLaws.{last-found, outcome-plantable}
use Rattle.xf_engine_world.proofs.sending.outcome.Goals as goal

pub returns-clause-value : goal.returns-clause-value
returns-clause-value c =
    let s = state_of c.args.world.now in
    let sub = c.args.submission.now in
    ap (λ given. Ok (responded_by s.form.bindings sub given)) (last-found s.calls c.in-Some.call.now (sym c.in-Some.ensures))
    ∙ ap (λ b. Ok (responded_by b sub c.in-Some.call.now.answer)) (sym c.loaded.ensures.prefixes)
    ∙ ap (λ r. Ok r) (sym c.in_ok-came.ensures)

pub returns-clause-tree : goal.returns-clause-tree
returns-clause-tree c =
    let s = state_of c.args.world.now in
    let sub = c.args.submission.now in
    outcome-plantable s.form.bindings sub c.in-Some.call.now.answer c.in_ok-came.came
    (c.in_ok-came.ensures ∙ ap (λ b. responded_by b sub c.in-Some.call.now.answer) c.loaded.ensures.prefixes)
