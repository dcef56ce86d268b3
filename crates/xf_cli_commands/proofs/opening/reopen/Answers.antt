use Rattle.xf_cli_commands.proofs.OpenLaws.{reopens_damaged, reopens_never, reopens_none, reopens_other, shows_so}
use Rattle.xf_cli_commands.proofs.opening.reopen.Goals as goal

pub returns-in-Ok-clause-opens : goal.returns-in-Ok-clause-opens
returns-in-Ok-clause-opens g c = λ program built.
    let d = g.D.Disk in
    let resumed = c.in-Ok.ensures in (
      resumed.idle,
      shows_so g.P.Processor.state g.P.Processor.kept d.tells d.seen d.may_leave d.moment d.left_since d.faults c.args.disk.now c.resume.new.disk c.args.form.now program c.in-Ok.session (resumed.done program built),
      resumed.looks,
    )

pub returns-in-Err-OtherForm-clause-opens : goal.returns-in-Err-OtherForm-clause-opens
returns-in-Err-OtherForm-clause-opens g c = λ program built.
    let d = g.D.Disk in
    reopens_other g.P.Processor.state g.P.Processor.kept d.tells d.seen d.may_leave d.moment d.left_since d.faults c.args.disk.now c.resume.new.disk c.args.form.now program c.in-Err-OtherForm.at c.in-Err-OtherForm.field-0 c.not_opened.result
    c.in-Err-OtherForm.field-0-is (c.in-Err-OtherForm.ensures.done program built) c.in-Err-OtherForm.ensures.looks c.not_opened.ensures

pub returns-in-Err-Damaged-clause-opens : goal.returns-in-Err-Damaged-clause-opens
returns-in-Err-Damaged-clause-opens g c = λ program built.
    let d = g.D.Disk in
    reopens_damaged g.P.Processor.state g.P.Processor.kept d.tells d.seen d.may_leave d.moment d.left_since d.faults c.args.disk.now c.resume.new.disk c.args.form.now program c.in-Err-Damaged.slot c.in-Err-Damaged.at c.in-Err-Damaged.field-0
    c.not_opened-in-Err-Damaged.result c.in-Err-Damaged.field-0-is (c.in-Err-Damaged.ensures.done program built) c.in-Err-Damaged.ensures.looks c.not_opened-in-Err-Damaged.ensures

pub returns-in-Err-NoSession-clause-opens : goal.returns-in-Err-NoSession-clause-opens
returns-in-Err-NoSession-clause-opens g c = λ program built.
    let d = g.D.Disk in
    reopens_none g.P.Processor.state g.P.Processor.kept d.tells d.seen d.may_leave d.moment d.left_since d.faults c.args.disk.now c.resume.new.disk c.args.form.now program c.in-Err-NoSession.field-0 c.not_opened-in-Err-NoSession.result
    c.in-Err-NoSession.field-0-is (c.in-Err-NoSession.ensures.done program built) c.in-Err-NoSession.ensures.looks c.not_opened-in-Err-NoSession.ensures

pub returns-in-Err-DiskFault-clause-opens : goal.returns-in-Err-DiskFault-clause-opens
returns-in-Err-DiskFault-clause-opens g c = λ program built. c.in-Err-DiskFault.ensures.looks

pub returns-clause-opens : goal.returns-clause-opens
returns-clause-opens g c = λ program built. c.in-Err-Memory.ensures.looks

pub returns-in-Err-Refused-clause-opens : goal.returns-in-Err-Refused-clause-opens
returns-in-Err-Refused-clause-opens g c = λ program built.
    let d = g.D.Disk in
    reopens_never g.P.Processor.state g.P.Processor.kept d.tells d.seen d.may_leave d.moment d.left_since d.faults c.args.disk.now c.resume.new.disk c.args.form.now program c.in-Err-Refused.field-0-0 c.in-Err-Refused.field-0
    c.in-Err-Refused.field-0-is (c.in-Err-Refused.ensures.done program built)
