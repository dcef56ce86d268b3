use Rattle.std.proofs.Common.{◌≡◌, Err, ap, sym, subst, rules}
use Rattle.xf_store.specs.Replay.{Covers}
use Rattle.xf_def_machine.specs.Run.{if_exact}
use Rattle.xf_def_machine.specs.Start.{start}
use Rattle.xf_def_form.specs.Formed.{profile}
use Rattle.xf_session.specs.Opening.{opening_from}
use Rattle.xf_session.specs.Replaying.{Reopens}
use Rattle.xf_session.proofs.Played.{covered, start-kept, start-refused}
use Rattle.xf_session.proofs.reopening.reopened.Goals as goal

pub returns-in-Ok-start-clause-done : goal.returns-in-Ok-start-clause-done
returns-in-Ok-start-clause-done g c = λ program log built is fits.
    let done = c.in-Ok-start.ensures.done in
    let same : c.new-store.result.to_come ≡ c.args.found.now.answers = search rules in
    let covers = subst (λ a. Covers a done.made) same (covered c.new-store.result.to_come _ done.made done.called) in
    subst (λ o. Reopens g.P.Processor.state (opening_from profile log o) c.replayed.result)
    (start-kept g.P.Processor.state program _ c.args.found.now.answers c.in-Ok-start.processor done.made _ _ _ built done.pending.1 (done.is c.args.found.now.answers covers))
    (c.replayed.ensures.done log is fits)

pub returns-in-Err-Refused-clause-done : goal.returns-in-Err-Refused-clause-done
returns-in-Err-Refused-clause-done g c = λ program log built is fits.
    let done = c.in-Err-Refused.ensures.done in
    let same : c.new-store.result.to_come ≡ c.args.found.now.answers = search rules in
    let covers = subst (λ a. Covers a done.made) same (covered c.new-store.result.to_come _ done.made done.called) in
    let none = start-refused g.P.Processor.state program _ c.args.found.now.answers c.in-Err-Refused.field-0 c.in-Err-Refused.field-0-0 done.made _ _ built c.in-Err-Refused.field-0-is (done.is c.args.found.now.answers covers) in
    subst (λ f. Reopens g.P.Processor.state (opening_from profile log (if_exact c.args.found.now.answers (start profile program c.args.found.now.answers))) (Err f)) (sym (c.base_damage.ensures.is log is)) (ap (opening_from profile log) none)
