use Rattle.std.proofs.Common.{Ok, refl, subst}
use Rattle.xf_journal.specs.Held.{held}
use Rattle.xf_session.specs.Replaying.{Looks}
use Rattle.xf_session.proofs.BeginLaws.{resumed, rest-opened, reopens-not, not-resumed-as, none-resumed, looks-fault, reopen-cause, looking-of}
use Rattle.xf_session.proofs.beginning.resume.Goals as goal

pub returns-in-Ok-clause-done : goal.returns-in-Ok-clause-done
returns-in-Ok-clause-done g c = λ program built.
    let d = g.D.Disk in
    resumed g.P.Processor.state d.tells d.seen d.may_leave d.moment d.left_since g.met.D.Disk.seen_may_stand c.args.form.now program _ c.args.disk.now c.look.new.disk c.new.result c.in-Ok.processor c.in-Ok-Some.read
    built c.in-Ok-Some.ensures.looks (λ told. subst (λ x. Looks c.args.form.now (held (d.seen c.args.disk.now)) (Ok x)) c.in-Ok-Some.field-0-is (c.in-Ok-Some.ensures.found told))
    c.in-Ok-Some.ensures.settled (λ log is fits. c.in-Ok.ensures.done program log built.built is fits) c.new.ensures.processor c.new.ensures.journal c.new.ensures.whole

pub returns-in-Ok-clause-rest : goal.returns-in-Ok-clause-rest
returns-in-Ok-clause-rest g c = λ told.
    let d = g.D.Disk in
    rest-opened d.tells d.seen d.may_leave d.moment d.left_since c.args.form.now c.args.disk.now c.look.new.disk c.new.result c.in-Ok-Some.read c.in-Ok-Some.ensures.looks
    (subst (λ x. Looks c.args.form.now (held (d.seen c.args.disk.now)) (Ok x)) c.in-Ok-Some.field-0-is (c.in-Ok-Some.ensures.found told))
    (c.in-Ok-Some.ensures.settled told) c.new.ensures.journal c.in-Ok.ensures.whole

pub returns-in-Ok-Some-clause-done : goal.returns-in-Ok-Some-clause-done
returns-in-Ok-Some-clause-done g c = λ program built.
    let d = g.D.Disk in
    not-resumed-as g.P.Processor.state d.tells d.seen d.may_leave d.moment d.left_since g.met.D.Disk.seen_may_stand c.args.form.now program _ c.args.disk.now c.look.new.disk c.in-Err-reopened.fault
    refl (looking-of c.in-Err-reopened.fault c.in-Err-reopened.ensures.only) c.in-Ok-Some.ensures.looks
    (λ told. reopens-not g.P.Processor.state d.tells d.seen d.may_leave d.moment d.left_since g.met.D.Disk.seen_may_stand c.args.form.now program c.args.disk.now c.in-Ok-Some.read c.in-Err-reopened.fault
    (subst (λ x. Looks c.args.form.now (held (d.seen c.args.disk.now)) (Ok x)) c.in-Ok-Some.field-0-is (c.in-Ok-Some.ensures.found told))
    (λ log is fits. c.in-Err-reopened.ensures.done program log built.built is fits))

pub returns-in-Ok-Some-clause-cause : goal.returns-in-Ok-Some-clause-cause
returns-in-Ok-Some-clause-cause g c = reopen-cause _ _ _ c.in-Err-reopened.fault c.in-Ok-Some.ensures.cause c.in-Err-reopened.ensures.only

pub returns-in-Ok-None-clause-done : goal.returns-in-Ok-None-clause-done
returns-in-Ok-None-clause-done g c = λ program built.
    let d = g.D.Disk in
    none-resumed g.P.Processor.state d.tells d.seen d.may_leave d.moment d.left_since g.met.D.Disk.seen_may_stand c.args.form.now program c.args.disk.now c.look.new.disk
    c.in-Ok-None.ensures.looks (λ told. subst (λ x. Looks c.args.form.now (held (d.seen c.args.disk.now)) (Ok x)) c.in-Ok-None.field-0-is (c.in-Ok-None.ensures.found told))

pub returns-clause-done : goal.returns-clause-done
returns-clause-done g c = λ program built.
    let d = g.D.Disk in
    not-resumed-as g.P.Processor.state d.tells d.seen d.may_leave d.moment d.left_since g.met.D.Disk.seen_may_stand c.args.form.now program _ c.args.disk.now c.look.new.disk c.in-Err.fault
    refl c.in-Err.ensures.only c.in-Err.ensures.looks
    (λ told. looks-fault g.P.Processor.state d.tells d.seen d.may_leave d.moment d.left_since g.met.D.Disk.seen_may_stand c.args.form.now program c.args.disk.now c.in-Err.fault (c.in-Err.ensures.found told))
