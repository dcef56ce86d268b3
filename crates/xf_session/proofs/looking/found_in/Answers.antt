use Rattle.std.proofs.Common.{sym, ◌∙◌}
use Rattle.xf_session.proofs.Keeps.{base-short}
use Rattle.xf_session.proofs.looking.found_in.Goals as goal

pub returns-in-Some-2-clause-within : goal.returns-in-Some-2-clause-within
returns-in-Some-2-clause-within c = record {
  entries = c.requires;
  answers = base-short c.as_slice-3.result.now c.in-Some-2.answers (sym c.in_ok-answers.ensures ∙ c.in-Some-2.is);
}
