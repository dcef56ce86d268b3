use Rattle.std.proofs.Common.{◌≡◌, ◌≤◌, ◌<◌, ◌∙◌, true, List, length, ap, sym, subst, arith, rules, refl}
use Rattle.xf_journal.specs.Entry.{are_within}
use Rattle.xf_journal.specs.declared.entry.Accepted.{Accepted}
use Rattle.xf_def_machine.specs.Replies.{answers_in}
use Rattle.xf_def_sessions.specs.Opening.{damaged, at_cut}
use Rattle.xf_def_sessions.specs.Sessions.{fresh_session}
use Rattle.xf_session.specs.Replaying.{same_answers}
use Rattle.xf_session.proofs.Played.{left-within, left-damaged, all-replayed}
use Rattle.xf_session.proofs.reopening.replay.Goals as goal

pub gate_before-at-requires : goal.gate_before-at-requires
gate_before-at-requires g c =
    left-within _ _ c.as_slice-entries.result.now (subst (λ (l : List Accepted). are_within l ≡ true) (sym c.as_slice-entries.ensures) c.requires.within)

pub returns-then-count-entries-clause-done : goal.returns-then-count-entries-clause-done
returns-then-count-entries-clause-done g c = λ log is fits.
    let same : same_answers (answers_in (g.P.Processor.calls c.args.processor.now)) c.args.found.now.answers ≡ true = search rules in
    let some : c.in_ok-count.count < length c.as_slice-entries.result.now = search rules in
    left-damaged log c.args.found.now.scanned (answers_in (g.P.Processor.calls c.args.processor.now)) c.args.found.now.answers _ _ _ c.as_slice-entries.result.now c.in_ok-count.count c.saturating_sub-gate.result c.gate_before-at.result c.slot.result is fits same
    (c.in_ok-keep_exact.ensures.kept (search rules)) c.as_slice-entries.ensures c.in_ok-count.ensures.done.0 some
    (search rules) c.gate_before-at.ensures c.slot.ensures

pub returns-in-Some-clause-done : goal.returns-in-Some-clause-done
returns-in-Some-clause-done g c = λ log is fits.
    let same : same_answers (answers_in (g.P.Processor.calls c.args.processor.now)) c.args.found.now.answers ≡ true = search rules in
    let all : length c.as_slice-entries.result.now ≤ c.in_ok-count.count = omega (arith, c.if-count-entries.false) in
    let place : log.kept.slot ≡ c.slot-in-Some.result = search rules in
    all-replayed log c.args.found.now.scanned (answers_in (g.P.Processor.calls c.args.processor.now)) c.args.found.now.answers _ _ _ c.as_slice-entries.result.now c.in_ok-count.count is fits same
    (c.in_ok-keep_exact.ensures.kept (search rules)) c.as_slice-entries.ensures c.in_ok-count.ensures.done.0 all
    ∙ ap (λ o. at_cut log.kept.slot o (fresh_session log.kept.form log.kept.adoptions (g.P.Processor.state c.play.new.processor))) c.in-Some.is
    ∙ ap (λ slot. damaged slot c.in-Some.at) place

pub returns-in-None-clause-done : goal.returns-in-None-clause-done
returns-in-None-clause-done g c = λ log is fits.
    let same : same_answers (answers_in (g.P.Processor.calls c.args.processor.now)) c.args.found.now.answers ≡ true = search rules in
    let all : length c.as_slice-entries.result.now ≤ c.in_ok-count.count = omega (arith, c.if-count-entries.false) in
    let last = fresh_session log.kept.form log.kept.adoptions (g.P.Processor.state c.play.new.processor) in (
      last,
      all-replayed log c.args.found.now.scanned (answers_in (g.P.Processor.calls c.args.processor.now)) c.args.found.now.answers _ _ _ c.as_slice-entries.result.now c.in_ok-count.count is fits same
          (c.in_ok-keep_exact.ensures.kept (search rules)) c.as_slice-entries.ensures c.in_ok-count.ensures.done.0 all
          ∙ ap (λ o. at_cut log.kept.slot o last) c.in-None.is,
      refl,
    )
