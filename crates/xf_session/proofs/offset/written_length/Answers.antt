use Rattle.std.proofs.Common.{◌≡◌, ◌+◌, List, arith, length, take, ap, ◌∙◌, sym}
use Rattle.std.specs.List.{flat_map}
use Rattle.std.proofs.lemmas.List.{take_all}
use Rattle.xf_store.specs.declared.answers.Answer.{Answer}
use Rattle.xf_journal.specs.Entry.{answer_bytes}
use Rattle.xf_session.proofs.Offsets.{answers-size, taken-less, written_length}
use Rattle.xf_session.proofs.offset.written_length.Goals as goal

pub overflow_add-length-in-loop-answer : goal.overflow_add-length-in-loop-answer
overflow_add-length-in-loop-answer c =
    let sizes = answers-size c.args.entry.now.line c.args.entry.now.answers c.requires in
    let less = taken-less c.loop-answer.answer-index c.args.entry.now.answers in
    record { fits = omega (arith, sizes.0, sizes.2, less, c.loop-answer.invariant, c.answer_length-length.ensures.small) }

pub returns : goal.returns
returns c =
    let line = c.args.entry.now.line in
    let answers = c.args.entry.now.answers in
    let all : take c.loop-answer.answer-index answers ≡ answers = take_all c.loop-answer.answer-index answers (omega (arith, c.loop-answer-test.false, c.loop-answer.auto.answer-index-end, ap length c.as_slice-answer-items.ensures)) in
    c.loop-answer.invariant ∙ ap (λ (l : List Answer). length line + 10 + length (flat_map answer_bytes l)) all ∙ sym (written_length line answers)
