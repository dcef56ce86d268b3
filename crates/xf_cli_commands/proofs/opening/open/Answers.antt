use Rattle.std.proofs.Common.{sym, ◌∙◌}
use Rattle.xf_cli_commands.proofs.OpenLaws.{is_failed, is_open, opens_damaged, opens_memory, opens_no_room, opens_none, opens_other, opens_refused}
use Rattle.xf_cli_commands.proofs.opening.open.Goals as goal

pub returns-in-Ok-clause-stands : goal.returns-in-Ok-clause-stands
returns-in-Ok-clause-stands g c =
    let begun = c.in-Ok.ensures in
    record { idle = begun.idle; whole = begun.whole; rest = λ told. begun.rest (sym c.begin.ensures.tells ∙ told) }

pub returns-in-Ok-clause-opens : goal.returns-in-Ok-clause-opens
returns-in-Ok-clause-opens g c = λ program built told.
    let d = g.D.Disk in
    is_open g.P.Processor.state g.P.Processor.kept d.tells d.seen d.may_leave d.moment d.left_since d.faults c.args.disk.now c.begin.new.disk c.args.form.now program c.in-Ok.session _ _ _ _ (c.in-Ok.ensures.done program built)
    c.new-notes.ensures.bytes c.begin.ensures.tells c.in-Ok.ensures.kept told

pub returns-in-Ok-refused_line-clause-opens : goal.returns-in-Ok-refused_line-clause-opens
returns-in-Ok-refused_line-clause-opens g c = λ program built.
    let d = g.D.Disk in
    opens_refused g.P.Processor.state g.P.Processor.kept d.tells d.seen d.may_leave d.moment d.left_since d.faults c.args.disk.now c.begin.new.disk c.args.form.now program c.in-Err-Refused.refusal c.in-Err-Refused.field-0 _ _ _ _ _
    c.in-Err-Refused.field-0-is (c.in-Err-Refused.ensures.done program built) c.in-Err-Refused.ensures.looks c.in-Ok-refused_line.ensures

pub returns-in-Err-Refused-clause-opens : goal.returns-in-Err-Refused-clause-opens
returns-in-Err-Refused-clause-opens g c = λ program built.
    let d = g.D.Disk in
    opens_no_room g.P.Processor.state g.P.Processor.kept d.tells d.seen d.may_leave d.moment d.left_since d.faults c.args.disk.now c.begin.new.disk c.args.form.now program c.in-Err-Refused.refusal c.in-Err-Refused.field-0 _ _ _ _
    c.in-Err-Refused.field-0-is (c.in-Err-Refused.ensures.done program built) c.in-Err-Refused.ensures.looks

pub returns-in-Err-OtherForm-clause-opens : goal.returns-in-Err-OtherForm-clause-opens
returns-in-Err-OtherForm-clause-opens g c = λ program built.
    let d = g.D.Disk in
    opens_other g.P.Processor.state g.P.Processor.kept d.tells d.seen d.may_leave d.moment d.left_since d.faults c.args.disk.now c.begin.new.disk c.args.form.now program c.in-Err-OtherForm.at c.in-Err-OtherForm.field-0 _ _ _ _ c.not_opened.result
    c.in-Err-OtherForm.field-0-is (c.in-Err-OtherForm.ensures.done program built) c.in-Err-OtherForm.ensures.looks c.not_opened.ensures

pub returns-in-Err-Damaged-clause-opens : goal.returns-in-Err-Damaged-clause-opens
returns-in-Err-Damaged-clause-opens g c = λ program built.
    let d = g.D.Disk in
    opens_damaged g.P.Processor.state g.P.Processor.kept d.tells d.seen d.may_leave d.moment d.left_since d.faults c.args.disk.now c.begin.new.disk c.args.form.now program c.in-Err-Damaged.slot c.in-Err-Damaged.at c.in-Err-Damaged.field-0 _ _ _ _
    c.not_opened-in-Err-Damaged.result c.in-Err-Damaged.field-0-is (c.in-Err-Damaged.ensures.done program built) c.in-Err-Damaged.ensures.looks c.not_opened-in-Err-Damaged.ensures

pub returns-in-Err-DiskFault-clause-opens : goal.returns-in-Err-DiskFault-clause-opens
returns-in-Err-DiskFault-clause-opens g c = λ program built.
    let d = g.D.Disk in
    is_failed g.P.Processor.state g.P.Processor.kept d.tells d.seen d.may_leave d.moment d.left_since d.faults c.args.disk.now c.begin.new.disk c.args.form.now program _ _ _ _ _ (c.in-Err-DiskFault.ensures.done program built)

pub returns-clause-opens : goal.returns-clause-opens
returns-clause-opens g c = λ program built.
    let d = g.D.Disk in
    opens_memory g.P.Processor.state g.P.Processor.kept d.tells d.seen d.may_leave d.moment d.left_since d.faults c.args.disk.now c.begin.new.disk c.args.form.now program c.in-Err-Memory.field-0 _ _ _ _ c.in-Err-Memory.field-0-is
    (c.in-Err-Memory.ensures.done program built) c.in-Err-Memory.ensures.looks

pub returns-in-Err-NoSession-clause-opens : goal.returns-in-Err-NoSession-clause-opens
returns-in-Err-NoSession-clause-opens g c = λ program built.
    let d = g.D.Disk in
    opens_none g.P.Processor.state g.P.Processor.kept d.tells d.seen d.may_leave d.moment d.left_since d.faults c.args.disk.now c.begin.new.disk c.args.form.now program c.in-Err-NoSession.field-0 _ _ _ _
    c.in-Err-NoSession.field-0-is (c.in-Err-NoSession.ensures.done program built)
