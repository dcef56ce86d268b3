use Rattle.std.proofs.Common.{refl, ◌∙◌, sym}
use Rattle.xf_cli_commands.specs.Kept.{views_of}
use Rattle.xf_cli_commands.proofs.LineLaws.{accepted_by, asks_for, failed_by, full_by, full_lacking_by, memory_by, not_broken, refused_by, refused_lacking_by, whole_after, whole_full, whole_refused}
use Rattle.xf_cli_commands.proofs.line_session.LineSession.post.Goals as goal

pub returns-in-Ok-clause-stands : goal.returns-in-Ok-clause-stands
returns-in-Ok-clause-stands g c =
    let d = g.D.Disk in
    let post = c.in-Ok.ensures in record {
      idle = post.idle;
      whole = whole_after (views_of g.P.Processor.state d.tells d.seen d.may_leave d.moment d.left_since) g.met.D.Disk.only_now _ _ c.args.line.now c.args.event.now _ _ post.done;
      rest = λ told. post.rest (sym post.tells ∙ told);
    }

pub returns-in-Ok-refused_text-clause-stands : goal.returns-in-Ok-refused_text-clause-stands
returns-in-Ok-refused_text-clause-stands g c =
    let d = g.D.Disk in
    let post = c.in-Err-Refused.ensures in record {
      idle = post.idle;
      whole = whole_refused (views_of g.P.Processor.state d.tells d.seen d.may_leave d.moment d.left_since) g.met.D.Disk.only_now _ _ c.args.line.now c.args.event.now c.in-Err-Refused.refusal c.in-Err-Refused.field-0 _ _
          c.in-Err-Refused.field-0-is c.requires.stands.whole post.done;
      rest = λ told. post.rest (sym post.tells ∙ told);
    }

pub returns-in-Ok-from_str-clause-stands : goal.returns-in-Ok-from_str-clause-stands
returns-in-Ok-from_str-clause-stands g c =
    let d = g.D.Disk in
    let post = c.in-Err-NotBuilt.ensures in record {
      idle = post.idle;
      whole = whole_full (views_of g.P.Processor.state d.tells d.seen d.may_leave d.moment d.left_since) g.met.D.Disk.only_now _ _ c.args.line.now c.args.event.now c.in-Err-NotBuilt.field-0 _ _
          c.in-Err-NotBuilt.field-0-is c.requires.stands.whole post.done;
      rest = λ told. post.rest (sym post.tells ∙ told);
    }

pub returns-in-Err-Broken-clause-err : goal.returns-in-Err-Broken-clause-err
returns-in-Err-Broken-clause-err g c = λ asked blank.
    let d = g.D.Disk in
    not_broken (views_of g.P.Processor.state d.tells d.seen d.may_leave d.moment d.left_since) g.met.D.Disk.only_now _ _ c.args.line.now c.args.event.now c.in-Err-Broken.field-0 _ _ c.in-Err-Broken.field-0-is
    c.requires.stands.whole c.in-Err-Broken.ensures.done

pub returns-in-Err-Broken-clause-cause : goal.returns-in-Err-Broken-clause-cause
returns-in-Err-Broken-clause-cause g c =
    let d = g.D.Disk in
    not_broken (views_of g.P.Processor.state d.tells d.seen d.may_leave d.moment d.left_since) g.met.D.Disk.only_now _ _ c.args.line.now c.args.event.now c.in-Err-Broken.field-0 _ _ c.in-Err-Broken.field-0-is
    c.requires.stands.whole c.in-Err-Broken.ensures.done

pub returns-in-Ok-clause-reply : goal.returns-in-Ok-clause-reply
returns-in-Ok-clause-reply g c = λ asked blank.
    let d = g.D.Disk in
    accepted_by (views_of g.P.Processor.state d.tells d.seen d.may_leave d.moment d.left_since) g.met.D.Disk.only_now _ _ _ c.args.line.now c.args.event.now _ _
    refl (asks_for c.args.line.now c.args.event.now c.requires.short asked blank) c.in-Ok.ensures.tells c.new-text.ensures.bytes c.in-Ok.ensures.done

pub returns-in-Ok-refused_text-clause-reply : goal.returns-in-Ok-refused_text-clause-reply
returns-in-Ok-refused_text-clause-reply g c = λ asked blank.
    let d = g.D.Disk in
    refused_by (views_of g.P.Processor.state d.tells d.seen d.may_leave d.moment d.left_since) g.met.D.Disk.only_now _ _ _ c.args.line.now _ c.args.event.now c.in-Err-Refused.refusal c.in-Err-Refused.field-0 _ _
    refl (asks_for c.args.line.now c.args.event.now c.requires.short asked blank) c.in-Ok-refused_text.ensures c.in-Err-Refused.field-0-is c.in-Err-Refused.ensures.done

pub returns-in-Err-Refused-clause-err : goal.returns-in-Err-Refused-clause-err
returns-in-Err-Refused-clause-err g c = λ asked blank.
    let d = g.D.Disk in
    refused_lacking_by (views_of g.P.Processor.state d.tells d.seen d.may_leave d.moment d.left_since) g.met.D.Disk.only_now _ _ _ c.args.line.now c.args.event.now c.in-Err-Refused.refusal c.in-Err-Refused.field-0 _ _
    refl (asks_for c.args.line.now c.args.event.now c.requires.short asked blank) c.in-Err-Refused.field-0-is c.in-Err-Refused.ensures.done

pub returns-in-Ok-from_str-clause-reply : goal.returns-in-Ok-from_str-clause-reply
returns-in-Ok-from_str-clause-reply g c = λ asked blank.
    let d = g.D.Disk in
    full_by (views_of g.P.Processor.state d.tells d.seen d.may_leave d.moment d.left_since) g.met.D.Disk.only_now _ _ _ c.args.line.now _ c.args.event.now c.in-Err-NotBuilt.field-0 _ _
    refl (asks_for c.args.line.now c.args.event.now c.requires.short asked blank) c.in-Ok-from_str.ensures.ok c.in-Err-NotBuilt.field-0-is c.in-Err-NotBuilt.ensures.done

pub returns-in-Err-NotBuilt-clause-err : goal.returns-in-Err-NotBuilt-clause-err
returns-in-Err-NotBuilt-clause-err g c = λ asked blank.
    let d = g.D.Disk in
    full_lacking_by (views_of g.P.Processor.state d.tells d.seen d.may_leave d.moment d.left_since) g.met.D.Disk.only_now _ _ _ c.args.line.now c.args.event.now c.in-Err-NotBuilt.field-0 _ _
    refl (asks_for c.args.line.now c.args.event.now c.requires.short asked blank) c.in-Err-NotBuilt.field-0-is c.in-Err-NotBuilt.ensures.done

pub returns-in-Err-DiskFault-clause-err : goal.returns-in-Err-DiskFault-clause-err
returns-in-Err-DiskFault-clause-err g c = λ asked blank.
    let d = g.D.Disk in
    failed_by (views_of g.P.Processor.state d.tells d.seen d.may_leave d.moment d.left_since) g.met.D.Disk.only_now _ _ _ c.args.line.now c.args.event.now c.in-Err-DiskFault.field-0 _ _
    refl (asks_for c.args.line.now c.args.event.now c.requires.short asked blank) c.in-Err-DiskFault.field-0-is c.in-Err-DiskFault.ensures.done

pub returns-clause-err : goal.returns-clause-err
returns-clause-err g c = λ asked blank.
    let d = g.D.Disk in
    memory_by (views_of g.P.Processor.state d.tells d.seen d.may_leave d.moment d.left_since) g.met.D.Disk.only_now _ _ _ c.args.line.now c.args.event.now c.in-Err-Memory.field-0 _ _
    refl (asks_for c.args.line.now c.args.event.now c.requires.short asked blank) c.in-Err-Memory.field-0-is c.in-Err-Memory.ensures.done
