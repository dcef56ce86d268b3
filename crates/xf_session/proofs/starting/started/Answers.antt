use Rattle.std.proofs.Common.{Err, ap, refl}
use Rattle.xf_session.specs.declared.session.Session.{Session}
use Rattle.xf_session.proofs.StartLaws.{not-started, has-started, first-at-disk, event-cause, event-spares}
use Rattle.xf_session.proofs.starting.started.Goals as goal

pub returns-in-Ok-clause-done : goal.returns-in-Ok-clause-done
returns-in-Ok-clause-done g c = λ program built.
    let p = g.P.Processor in
    let d = g.D.Disk in
    has-started p.state p.kept p.calls d.tells d.seen d.may_leave d.moment d.left_since g.met.D.Disk.only_now c.args.form.now program _ built c.kept.result c.in-Ok.processor _ _ _ _ c.args.disk.now c.kept.new.disk
    c.in-Ok.ensures.done c.kept.ensures.state c.kept.ensures.only c.kept.ensures.whole c.kept.ensures.each_moment c.kept.ensures.done

pub returns-in-Err-clause-done : goal.returns-in-Err-clause-done
returns-in-Err-clause-done g c = λ program built.
    let p = g.P.Processor in
    let d = g.D.Disk in
    not-started p.state p.kept p.calls d.tells d.seen d.may_leave d.moment d.left_since g.met.D.Disk.only_now c.args.form.now program _ built _ c.in-Err.fault _ _ _ _ c.args.disk.now (ap Err c.from.ensures) c.in-Err.ensures.done

pub returns-in-Err-clause-cause : goal.returns-in-Err-clause-cause
returns-in-Err-clause-cause g c = event-cause _ c.in-Err.fault c.from.result c.from.ensures

pub returns-in-Err-clause-spares : goal.returns-in-Err-clause-spares
returns-in-Err-clause-spares g c = event-spares (Session g.row.P.Denot) c.in-Err.fault c.from.result _ c.from.ensures refl

pub returns-in-Ok-clause-rest : goal.returns-in-Ok-clause-rest
returns-in-Ok-clause-rest g c = λ told none settled.
    first-at-disk g.D.Disk.seen g.D.Disk.may_leave c.args.form.now _ c.kept.result c.args.disk.now c.kept.new.disk (c.kept.ensures.done told) none settled
