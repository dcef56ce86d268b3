use Rattle.std.proofs.Common.{ap, arith, refl}
use Rattle.xf_cli_stream.specs.declared.lines.Ending.{Ending}
use Rattle.xf_cli_stream.specs.declared.lines.Ending.TheVariants.{ReadFault, SinkFault}
use Rattle.xf_cli_commands.specs.declared.status.Status.{Status}
use Rattle.xf_cli_commands.specs.declared.status.Status.TheVariants.{Answered}
use Rattle.xf_cli_commands.specs.Kept.{views_of}
use Rattle.xf_cli_commands.specs.Outside.{object_of}
use Rattle.xf_cli_commands.proofs.Ends.{alone-stands, answered_so, behind, ending_or}
use Rattle.xf_cli_commands.proofs.run.try_form.Goals as goal

pub returns-in-Session-clause-read : goal.returns-in-Session-clause-read
returns-in-Session-clause-read g c = λ e. c.answer_all-ending.ensures.read (ap (ending_or ReadFault) e)

pub returns-in-Session-clause-written : goal.returns-in-Session-clause-written
returns-in-Session-clause-written g c = λ e. c.answer_all-ending.ensures.written (ap (ending_or SinkFault) e)

pub returns-in-Session-clause-runs : goal.returns-in-Session-clause-runs
returns-in-Session-clause-runs g c =
    let events = object_of (g.E.Source.left c.args.events.now) (g.E.Source.left c.answer_all-ending.new.events) (g.E.Source.faults c.args.events.now) (g.E.Source.faults c.answer_all-ending.new.events) in
    let out = object_of (g.O.Sink.taken c.args.out.now) (g.O.Sink.taken c.answer_all-ending.new.out) (g.O.Sink.faults c.args.out.now) (g.O.Sink.faults c.answer_all-ending.new.out) in (
      answered_so _ _ _ _ _ _ _ events out c.in-Session.ensures.tries c.as_bytes.ensures.value (behind (views_of g.P.Processor.state _ _ _ _ _) _ _ c.in-Session.session _ _ _ _ events out c.in-Session.ensures.stands.unkept c.answer_all-ending.ensures.answered),
      λ e. let rose = c.answer_all-ending.ensures.kept e in omega (arith, rose),
    )

pub answer_all-ending-requires : goal.answer_all-ending-requires
answer_all-ending-requires g c = let alone = c.in-Session.ensures.stands in alone-stands (views_of g.P.Processor.state _ _ _ _ _) g.P.Processor.kept c.in-Session.session.session _ alone

pub returns-in-NotOpened-clause-runs : goal.returns-in-NotOpened-clause-runs
returns-in-NotOpened-clause-runs g c = absurd c.in-NotOpened.ensures.tries

pub returns-in-DiskFailed-clause-runs : goal.returns-in-DiskFailed-clause-runs
returns-in-DiskFailed-clause-runs g c = absurd c.in-DiskFailed.ensures.tries
