use Rattle.std.proofs.Common.{◌∙◌, ap, sym, ◌==◌}
use Rattle.xf_form.specs.Plan.{first_or}
use Rattle.xf_form.proofs.FirstLemmas.{first_more}
use Rattle.xf_form.proofs.submissions.firsts_of.Goals as goal

pub loop-number-preserved : goal.loop-number-preserved
loop-number-preserved c = λ one.
    let s = c.index-all-number.result in
    c.in_ok-add_first.ensures one ∙ ap (λ o. first_or o (s.model == one) c.in_ok-small.field-0) (c.loop-number.invariant one)
    ∙ sym (first_more one c.args.all.now c.loop-number.number c.in_ok-small.field-0 s c.loop-number-test.true c.index-all-number.is c.in_ok-small.ensures)
