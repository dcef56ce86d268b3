use Rattle.std.proofs.Common.{sym, ap, ◌∙◌}
use Rattle.xf_def_machine.specs.Primitives.{set_text}
use Rattle.xf_actions.proofs.Rounds.{same-makes}
use Rattle.xf_def_form.specs.Formed.{profile}
use Rattle.xf_engine_world.specs.State.{state_of}
use Rattle.xf_engine_world.proofs.SubmitLaws.{text-behaved}
use Rattle.xf_engine_world.proofs.replacing.put_text.Goals as goal

pub returns-clause-done : goal.returns-clause-done
returns-clause-done c =
    let s = state_of c.args.world.now in
    let n = c.args.node.number in
    same-makes _ _ (state_of c.behave_in.new.world) c.behave_in.result _ _
    (text-behaved c.args.text.now n s (state_of c.set_text.new.world) c.model_of-model.result
    (ap (λ text. set_text profile n text s) (sym c.as_str.ensures) ∙ c.in_ok-set_text.ensures.done) c.model_of-model.ensures)
    c.behave_in.ensures.done
