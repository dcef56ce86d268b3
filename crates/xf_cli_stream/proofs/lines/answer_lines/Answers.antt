use Rattle.std.proofs.Common.{◌++◌, ◌∙◌, [], arith, inl, refl, sym, subst}
use Rattle.std.proofs.KnownBytes.{Appends-nil, Appends-trans}
use Rattle.xf_io.specs.Front.{AppendsFront}
use Rattle.xf_cli_stream.proofs.Progress.{begun, one_more, running_reply, ends_known, answers_cut, true_false}
use Rattle.xf_cli_stream.proofs.Flushing.{all_out, out_again, steady}
use Rattle.xf_cli_stream.proofs.lines.answer_lines.Goals as goal

pub loop-reply-init : goal.loop-reply-init
loop-reply-init g c = (
  [],
  record {
    progress = begun g.A.Answering.answers (c.args.session.now, ((g.S.Store.calls c.args.store.now, g.S.Store.to_come c.args.store.now), c.args.disk.now)) (g.E.Source.left c.args.events.now) c.new-lines.result c.new-lines.ensures.bytes c.new-lines.ensures.given;
    stands = c.requires;
    is_out = inl refl;
    appended = Appends-nil _;
    within = omega (arith, c.new-lines.ensures.given);
    one_source = λ e. true_false c.new-lines.result.ended e c.new-lines.ensures.ended;
    disk_later = omega arith;
    read_later = omega arith;
    written_steady = refl;
  },
)

pub loop-reply-preserved : goal.loop-reply-preserved
loop-reply-preserved g c =
    let so_far = c.loop-reply.invariant in
    let next = c.in-Reply.ensures in (
      so_far.0 ++ c.as_bytes.result.now,
      record {
        progress =
            one_more g.A.Answering.answers g.A.Answering.leaves _ _ _ _ _ _ c.loop-reply.lines c.next_reply.new.lines so_far.0 c.as_bytes.result.now c.in-Reply.reply so_far.1.progress next.next (sym c.as_bytes.ensures.value)
            (running_reply c.loop-reply.lines.ended c.in-Reply.reply next.done) next.counts;
        stands = next.stands;
        is_out = out_again _ _ _ so_far.1.is_out c.in-Ok.ensures.flushed;
        appended = Appends-trans _ _ _ so_far.0 c.as_bytes.result.now so_far.1.appended c.in-Ok.ensures.ok;
        within = next.counts.within;
        one_source = next.one_source;
        disk_later = omega (arith, so_far.1.disk_later, next.disk_later);
        read_later = omega (arith, so_far.1.read_later, next.later);
        written_steady = c.in-Ok.ensures.steady ∙ so_far.1.written_steady;
      },
    )

pub returns-in-Err-clause-answered : goal.returns-in-Err-clause-answered
returns-in-Err-clause-answered g c =
    let so_far = c.loop-reply.invariant in
    let taken = g.O.Sink.taken in
    let cut = subst (AppendsFront (taken c.loop-reply.out) (taken c.write_reply.new.out)) c.as_bytes.ensures.value c.in-Err.ensures.err in
    let next = c.in-Reply.ensures in
    answers_cut g.A.Answering.answers g.A.Answering.leaves _ _ _ _ _ _ c.loop-reply.lines c.next_reply.new.lines so_far.0 c.in-Reply.reply _ _ _ so_far.1.progress next.next
    (running_reply c.loop-reply.lines.ended c.in-Reply.reply next.done) next.counts so_far.1.appended cut

pub returns-in-Ends-clause-answered : goal.returns-in-Ends-clause-answered
returns-in-Ends-clause-answered g c =
    let so_far = c.loop-reply.invariant in
    (so_far.0, ends_known g.A.Answering.answers g.A.Answering.leaves c.in-Ends.ending _ _ _ _ _ _ c.loop-reply.lines c.next_reply.new.lines so_far.0 so_far.1.progress c.in-Ends.ensures.next c.in-Ends.ensures.done c.in-Ends.ensures.counts so_far.1.within c.in-Ends.ensures.ahead, so_far.1.appended)

pub returns-in-Ends-clause-flushed : goal.returns-in-Ends-clause-flushed
returns-in-Ends-clause-flushed g c = all_out c.in-Ends.ending _ _ c.loop-reply.invariant.1.is_out

pub returns-in-Ends-clause-steady : goal.returns-in-Ends-clause-steady
returns-in-Ends-clause-steady g c = steady c.in-Ends.ending _ _ c.loop-reply.invariant.1.written_steady
