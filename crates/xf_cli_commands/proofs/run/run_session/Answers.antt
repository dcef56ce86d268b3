use Rattle.std.proofs.Common.{ap, arith, refl}
use Rattle.xf_cli_stream.specs.declared.lines.Ending.TheVariants.{ReadFault, SinkFault, DiskFault}
use Rattle.xf_cli_commands.specs.Outside.{object_of}
use Rattle.xf_cli_commands.proofs.Ends.{ending_or}
use Rattle.xf_cli_commands.proofs.SessionRuns.{runs_so}
use Rattle.xf_cli_commands.proofs.run.run_session.Goals as goal

pub answer_all-ending-requires : goal.answer_all-ending-requires
answer_all-ending-requires g c = c.in-Session.ensures.stands

pub returns-in-Session-clause-read : goal.returns-in-Session-clause-read
returns-in-Session-clause-read g c = λ e. c.answer_all-ending.ensures.read (ap (ending_or ReadFault) e)

pub returns-in-Session-clause-written : goal.returns-in-Session-clause-written
returns-in-Session-clause-written g c = λ e. c.answer_all-ending.ensures.written (ap (ending_or SinkFault) e)

pub returns-in-Session-clause-kept : goal.returns-in-Session-clause-kept
returns-in-Session-clause-kept g c = λ e.
    let rose = c.answer_all-ending.ensures.kept (ap (ending_or DiskFault) e) in
    omega (arith, rose, c.in-Session.ensures.later)

pub returns-in-Session-clause-runs : goal.returns-in-Session-clause-runs
returns-in-Session-clause-runs g c = λ program built.
    let d = g.D.Disk in
    let events = object_of (g.E.Source.left c.args.events.now) (g.E.Source.left c.answer_all-ending.new.events) (g.E.Source.faults c.args.events.now) (g.E.Source.faults c.answer_all-ending.new.events) in
    let out = object_of (g.O.Sink.taken c.args.out.now) (g.O.Sink.taken c.answer_all-ending.new.out) (g.O.Sink.faults c.args.out.now) (g.O.Sink.faults c.answer_all-ending.new.out) in
    runs_so g.P.Processor.state d.tells d.seen d.may_leave d.moment d.left_since d.faults g.met.D.Disk.counts_now g.met.D.Disk.only_now c.args.bytes.now program c.in-Session.session _ _ c.answer_all-ending.result _ _ _
    c.args.disk.now c.open.new.disk c.answer_all-ending.new.disk events out (c.in-Session.ensures.opens program built) c.as_bytes.ensures.value c.answer_all-ending.ensures.answered

pub returns-in-Refused-clause-runs : goal.returns-in-Refused-clause-runs
returns-in-Refused-clause-runs g c = λ program built.
    let opens = c.in-Refused.ensures.opens program built in
    (record { unread = record { bytes = refl; faults = refl }; unwritten = refl }, opens.0, opens.1, opens.2)

pub returns-in-NotOpened-clause-runs : goal.returns-in-NotOpened-clause-runs
returns-in-NotOpened-clause-runs g c = λ program built.
    let opens = c.in-NotOpened.ensures.opens program built in
    (record { unread = record { bytes = refl; faults = refl }; unwritten = refl }, opens.0, opens.1, opens.2)
