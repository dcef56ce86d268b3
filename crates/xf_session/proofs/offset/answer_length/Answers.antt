use Rattle.std.proofs.Common.{◌≡◌, ◌∷◌, ap, arith, length, length-append, rules}
use Rattle.xf_store.specs.declared.answers.Answer.TheVariants.{Found}
use Rattle.xf_journal.specs.Entry.{answer_bytes}
use Rattle.xf_journal.specs.Numbers.{four}
use Rattle.xf_session.proofs.Offsets.{length-four}
use Rattle.xf_session.proofs.offset.answer_length.Goals as goal

pub returns-in-Found-clause-value : goal.returns-in-Found-clause-value
returns-in-Found-clause-value c =
    let bytes = c.in-Found.bytes in
    let is : c.args.answer.now ≡ Found bytes = search rules in
    let size : c.len.result ≡ length bytes = search rules in
    let same = ap (λ a. length (answer_bytes a)) is in
    omega (arith, size, same, length-append (2 ∷ four (length bytes)) bytes, length-four (length bytes))
