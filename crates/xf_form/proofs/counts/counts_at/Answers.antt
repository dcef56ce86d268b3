use Rattle.std.proofs.Common.{◌∙◌}
use Rattle.xf_form.proofs.CountLemmas.{counts_found}
use Rattle.xf_form.proofs.counts.counts_at.Goals as goal

pub returns : goal.returns
returns c = λ all h.
    c.found_or.ensures ∙ counts_found all c.args.place c.deref.result.now c.args.numbers.now.whole (c.deref.ensures.value ∙ h.before_each) h.whole
