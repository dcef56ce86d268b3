use Rattle.std.proofs.Common.{◌≡◌, ◌≤◌, ◌-◌, List, ℕ, true}
use Rattle.std.specs.Io.KnownBytes.{Appends, IsAtEnd, prepend_known}
use Rattle.xf_base.specs.Limits.{stream_limit}
use Rattle.xf_cli_stream.specs.Out.{IsOut}
use Rattle.xf_cli_stream.proofs.Progress.{ProgressKnown}
use Rattle.xf_cli_stream.proofs.lines.answer_lines.Given as goal

abbrev pub invariant-loop-reply : goal.invariant-loop-reply
invariant-loop-reply g l =
    let left = g.E.Source.left in
    let taken = g.O.Sink.taken in
    (done : List ℕ) × record {
      progress : ProgressKnown g.A.Answering.answers (l.fn.session, ((g.S.Store.calls l.fn.store, g.S.Store.to_come l.fn.store), l.fn.disk)) (l.session, ((g.S.Store.calls l.store, g.S.Store.to_come l.store), l.disk)) (left l.fn.events) (prepend_known l.lines.bytes (left l.events)) l.lines done;
      stands : g.A.Answering.stands l.session l.disk;
      is_out : IsOut (taken l.fn.out, g.O.Sink.flushed l.fn.out) (taken l.out, g.O.Sink.flushed l.out);
      appended : Appends (taken l.fn.out) (taken l.out) done;
      within : l.lines.given ≤ stream_limit;
      one_source : l.lines.ended ≡ true → IsAtEnd (left l.events);
      disk_later : g.A.Answering.disk_faults l.fn.disk ≤ g.A.Answering.disk_faults l.disk;
      read_later : g.E.Source.faults l.fn.events ≤ g.E.Source.faults l.events;
      written_steady : g.O.Sink.faults l.out ≡ g.O.Sink.faults l.fn.out;
    }

abbrev pub decreases-loop-reply : goal.decreases-loop-reply
decreases-loop-reply g l = stream_limit - l.lines.given
