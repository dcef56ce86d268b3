use Rattle.std.proofs.Common.{Ok, refl, ap, ◌∙◌}
use Rattle.xf_cli_commands.specs.Kept.{views_of}
use Rattle.xf_cli_commands.proofs.LineLaws.{lacking_by, said_by, show_by}
use Rattle.xf_cli_commands.proofs.line_session.LineSessionAnswering.answer.Goals as goal

pub returns-in-Ok-clause-reply : goal.returns-in-Ok-clause-reply
returns-in-Ok-clause-reply g c = λ h.
    let d = g.D.Disk in
    show_by (views_of g.P.Processor.state d.tells d.seen d.may_leave d.moment d.left_since) g.met.D.Disk.only_now _ _ c.args.line.now _ refl
    (c.in-Asked-Show.ensures.0 ∙ ap Ok c.in-Asked-Show.field-0-is, c.in-Asked-Show.ensures.1, c.in-Asked-Show.ensures.2) c.in-Ok.ensures

pub returns-in-Err-clause-err : goal.returns-in-Err-clause-err
returns-in-Err-clause-err g c = λ h.
    let d = g.D.Disk in
    lacking_by (views_of g.P.Processor.state d.tells d.seen d.may_leave d.moment d.left_since) g.met.D.Disk.only_now _ _ c.args.line.now refl

pub returns-in-Said-clause-reply : goal.returns-in-Said-clause-reply
returns-in-Said-clause-reply g c = λ h.
    let d = g.D.Disk in
    said_by (views_of g.P.Processor.state d.tells d.seen d.may_leave d.moment d.left_since) g.met.D.Disk.only_now _ _ c.args.line.now _ refl c.in-Said.ensures

pub returns-in-NoRoom-clause-err : goal.returns-in-NoRoom-clause-err
returns-in-NoRoom-clause-err g c = λ h.
    let d = g.D.Disk in
    lacking_by (views_of g.P.Processor.state d.tells d.seen d.may_leave d.moment d.left_since) g.met.D.Disk.only_now _ _ c.args.line.now refl
