use Rattle.std.proofs.Common.{inl, inr, refl}
use Rattle.xf_cli_commands.proofs.Flushing.{out_by, out_or_failed, steady_on}
use Rattle.xf_cli_commands.proofs.run.answer_behind.Goals as goal

pub returns-in-Ok-clause-answered : goal.returns-in-Ok-clause-answered
returns-in-Ok-clause-answered g c = inl (c.answer_lines.new.session, g.O.Sink.taken c.write_reply.new.out, c.in-Ok.ensures.ok, c.answer_lines.ensures.answered)

pub returns-in-Ok-clause-steady : goal.returns-in-Ok-clause-steady
returns-in-Ok-clause-steady g c = steady_on c.answer_lines.result _ _ _ c.in-Ok.ensures.steady c.answer_lines.ensures.steady

pub returns-in-Ok-clause-flushed : goal.returns-in-Ok-clause-flushed
returns-in-Ok-clause-flushed g c =
    out_or_failed _ _ _ _ _ _ c.write_reply.ensures.cause.later c.answer_lines.ensures.later (inl c.in-Ok.ensures.flushed)
    (out_by c.answer_lines.result _ _ _ _ c.answer_lines.ensures.flushed c.answer_lines.ensures.written)

pub returns-in-Err-clause-answered : goal.returns-in-Err-clause-answered
returns-in-Err-clause-answered g c = inr (refl, record { bytes = refl; faults = refl }, c.in-Err.ensures.err, refl)
