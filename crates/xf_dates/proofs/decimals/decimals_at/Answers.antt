use Rattle.std.proofs.Common.{◌∙◌, ap}
use Rattle.xf_num.specs.Written.{is_empty, after_digits}
use Rattle.xf_dates.proofs.DecimalLemmas.{after_digits-leading_digits}
use Rattle.xf_dates.proofs.decimals.decimals_at.Goals as goal

pub returns-then-begins_with-clause-digits : goal.returns-then-begins_with-clause-digits
returns-then-begins_with-clause-digits c =
    ap (λ text. is_empty (after_digits text)) c.leading_digits.ensures ∙ after_digits-leading_digits c.past_first.result.now
