use Rattle.std.proofs.Common.{◌++◌, ◌∙◌, ap}
use Rattle.std.specs.Prelude.{string_bytes}
use Rattle.xf_report.proofs.AnswerLaws.{answer-ok, then-ok}
use Rattle.xf_report.proofs.answer.push_ok.Goals as goal

pub returns : goal.returns
returns c =
    then-ok c.push_answer.result (λ e counts s posted is. e ∙ ap (λ l. string_bytes c.args.text.now ++ l) (answer-ok counts s posted c.args.notes.now c.args.accepted c.args.counted is)) c.push_answer.ensures
