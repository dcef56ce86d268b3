use Rattle.std.proofs.Common.{refl, sym, ap, ◌∙◌}
use Rattle.xf_controls.specs.Before.{first_or, in_row}
use Rattle.xf_controls.proofs.BeforeLaws.{first-more}
use Rattle.xf_controls.proofs.before.first_places.Goals as goal

pub loop-at-preserved : goal.loop-at-preserved
loop-at-preserved c = λ n.
    let copy = c.index-copies-at.result in
    c.in_ok-add.ensures n ∙ ap (λ o. first_or o (in_row n copy) c.loop-at.at) (c.loop-at.invariant n)
    ∙ sym (first-more n c.args.copies.now c.loop-at.at c.loop-at.at copy c.loop-at-test.true c.index-copies-at.is refl)
