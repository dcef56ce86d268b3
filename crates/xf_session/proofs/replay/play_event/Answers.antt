use Rattle.std.proofs.Common.{◌≡◌, refl, subst, rules}
use Rattle.xf_store.specs.Replay.{Covers}
use Rattle.xf_session.proofs.Played.{covered, play-kept, play-refused}
use Rattle.xf_session.proofs.replay.play_event.Goals as goal

pub returns-in-Ok-clause-done : goal.returns-in-Ok-clause-done
returns-in-Ok-clause-done g c =
    let done = c.in-Ok.ensures.done in
    let same : c.new-store.result.to_come ≡ c.args.answers.now = search rules in
    let covers = subst (λ a. Covers a done.made) same (covered c.new-store.result.to_come _ done.made done.called) in
    let posted = done.is c.args.answers.now covers in
    play-kept c.keep_exact.result c.args.answers.now _ _ _ done.made _ posted.0 posted.1 (done.pending refl) c.keep_exact.ensures.exact c.keep_exact.ensures.kept

pub returns-in-Err-Refused-clause-done : goal.returns-in-Err-Refused-clause-done
returns-in-Err-Refused-clause-done g c =
    let done = c.in-Err-Refused.ensures.done in
    let same : c.new-store.result.to_come ≡ c.args.answers.now = search rules in
    let covers = subst (λ a. Covers a done.made) same (covered c.new-store.result.to_come _ done.made done.called) in
    play-refused c.in-Err-Refused.field-0 c.in-Err-Refused.field-0-0 c.args.answers.now _ _ done.made _ _ _ c.in-Err-Refused.field-0-is (done.is c.args.answers.now covers)
