use Rattle.std.proofs.Common.{◌≤◌, length, Option, Some, ap, ◌∙◌, subst, arith}
use Rattle.xf_base.specs.Limits.{used_limit}
use Rattle.xf_disk.specs.Crash.{LeavesOnly}
use Rattle.xf_journal.specs.declared.entry.Accepted.{Accepted}
use Rattle.xf_journal.specs.Entry.{written_bytes}
use Rattle.xf_journal.specs.declared.journal.Journal.{Journal}
use Rattle.xf_journal.specs.Scanned.{IsAtRest, HoldsEither, with_accepted}
use Rattle.xf_session.specs.Keeping.{Rests, RestsAs, used_in}
use Rattle.xf_session.proofs.Offsets.{both-within, written-size, used_stands}
use Rattle.xf_session.proofs.session.Session.keep.Goals as goal

pub append-requires-clause-room : goal.append-requires-clause-room
append-requires-clause-room g c =
    let size = written-size c.args.line.now c.in_ok-answers.answers (both-within c.args.line.now c.in_ok-answers.answers c.requires.line c.in_ok-answers.ensures.within) in
    let same = ap (λ (x : Accepted). length (written_bytes x.line x.answers)) c.in_ok-entry.ensures in
    let room : c.in-Some.journal.used ≤ used_limit = subst (λ (j : Option Journal). used_in j ≤ used_limit) c.in-Some.is c.requires.room in
    omega (arith, room, size, same)

pub append-requires-clause-stands : goal.append-requires-clause-stands
append-requires-clause-stands g c = λ told.
    let rest : Rests g.D.Disk.seen g.D.Disk.may_leave (Some c.in-Some.journal) c.args.disk.now = subst (λ (j : Option Journal). Rests g.D.Disk.seen g.D.Disk.may_leave j c.args.disk.now) c.in-Some.is (c.requires.rest told) in
    used_stands g.D.Disk.seen g.D.Disk.may_leave c.in-Some.journal rest.0 c.args.disk.now rest.1

pub returns-clause-each_moment : goal.returns-clause-each_moment
returns-clause-each_moment g c = λ told log rest.
    let d = g.D.Disk in
    let same = c.in_ok-entry.ensures ∙ ap (λ given. record { line = c.args.line.now; answers = given }) c.in_ok-answers.ensures.is in
    subst (λ (x : Accepted). LeavesOnly d.moment d.left_since c.args.disk.now c.append.new.disk (HoldsEither log (with_accepted log x.line x.answers))) same (c.in-Err.ensures.each_moment told log (subst (λ (j : Option Journal). RestsAs d.seen d.may_leave j log c.args.disk.now) c.in-Some.is rest))

pub returns-in-Ok-clause-each_moment : goal.returns-in-Ok-clause-each_moment
returns-in-Ok-clause-each_moment g c = λ told log rest.
    let d = g.D.Disk in
    let same = c.in_ok-entry.ensures ∙ ap (λ given. record { line = c.args.line.now; answers = given }) c.in_ok-answers.ensures.is in
    subst (λ (x : Accepted). LeavesOnly d.moment d.left_since c.args.disk.now c.append.new.disk (HoldsEither log (with_accepted log x.line x.answers))) same (c.in-Ok.ensures.each_moment told log (subst (λ (j : Option Journal). RestsAs d.seen d.may_leave j log c.args.disk.now) c.in-Some.is rest))

pub returns-in-Ok-clause-done : goal.returns-in-Ok-clause-done
returns-in-Ok-clause-done g c = λ told log rest.
    let d = g.D.Disk in
    let same = c.in_ok-entry.ensures ∙ ap (λ given. record { line = c.args.line.now; answers = given }) c.in_ok-answers.ensures.is in
    subst (λ (x : Accepted). IsAtRest d.seen d.may_leave c.append.new.self (with_accepted log x.line x.answers) c.append.new.disk) same (c.in-Ok.ensures.done told log (subst (λ (j : Option Journal). RestsAs d.seen d.may_leave j log c.args.disk.now) c.in-Some.is rest))
