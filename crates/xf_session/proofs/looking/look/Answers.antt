use Rattle.std.proofs.Common.{Ok, ap, sym, ◌∙◌, subst}
use Rattle.xf_journal.specs.Held.{held}
use Rattle.xf_session.specs.Replaying.{Looks}
use Rattle.xf_session.proofs.PostLaws.{err-is}
use Rattle.xf_session.proofs.BeginLaws.{fault-looks, none-looks, found-looks, not-found-looks}
use Rattle.xf_session.proofs.looking.look.Goals as goal

pub returns-in_err-scan-clause-found : goal.returns-in_err-scan-clause-found
returns-in_err-scan-clause-found g c = λ told.
    let r = held (g.D.Disk.seen c.args.disk.now) in
    subst (λ x. Looks c.args.form.now r x) (sym (err-is c.from_residual.result _ c.from_residual.ensures.0 c.from_residual.ensures.1)) (fault-looks c.args.form.now r _ (c.in_err-scan.ensures.held told))

pub returns-in-None-clause-found : goal.returns-in-None-clause-found
returns-in-None-clause-found g c = λ told. none-looks c.args.form.now (held (g.D.Disk.seen c.args.disk.now)) (c.in_ok-scan.ensures.held told ∙ ap Ok c.in-None.is)

pub returns-in-Ok-clause-found : goal.returns-in-Ok-clause-found
returns-in-Ok-clause-found g c = λ told.
    found-looks c.args.form.now (held (g.D.Disk.seen c.args.disk.now)) c.in-Some.scanned c.in-Ok.found (c.in_ok-scan.ensures.held told ∙ ap Ok c.in-Some.is) c.in-Ok.ensures.found

pub returns-in-Err-clause-found : goal.returns-in-Err-clause-found
returns-in-Err-clause-found g c = λ told.
    not-found-looks c.args.form.now (held (g.D.Disk.seen c.args.disk.now)) c.in-Some.scanned c.in-Err.fault (c.in_ok-scan.ensures.held told ∙ ap Ok c.in-Some.is) c.in-Err.ensures.found
