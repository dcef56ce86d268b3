use Rattle.std.proofs.Common.{◌≡◌, ◌∙◌, ap, subst}
use Rattle.std.specs.Prelude.{IfOk}
use Rattle.xf_def_machine.specs.Replies.{answers_in}
use Rattle.xf_engine.specs.Running.{AtWork, calls_in}
use Rattle.xf_engine.proofs.RunningLaws.{are-within, calls-so, some-seen}
use Rattle.xf_engine.proofs.running.RunningProcessor.answers.Goals as goal

pub returns-clause-is : goal.returns-clause-is
returns-clause-is g c =
    let some = some-seen g.W.World.kept c.args.self.now c.self.inside.is_pending c.self.inside.world c.self.view_is c.requires in
    let same = c.store_calls.ensures.is ∙ calls-so c.self.inside.is_pending (g.W.World.state c.self.inside.world) (g.W.World.kept c.self.inside.world) some in
    rw (← c.self.view_is) (subst (λ calls. IfOk c.answers_to.result (λ answers. answers ≡ answers_in calls)) same c.answers_to.ensures)

pub returns-clause-within : goal.returns-clause-within
returns-clause-within g c =
    are-within c.answers_to.result _ (subst (λ calls. IfOk c.answers_to.result (λ answers. answers ≡ answers_in calls)) c.store_calls.ensures.is c.answers_to.ensures)
    c.store_calls.ensures.few c.store_calls.ensures.short
