use Rattle.std.proofs.Common.{◌∙◌, ap, sym}
use Rattle.xf_form_refusals.specs.Classes.{is_called}
use Rattle.xf_form_refusals.specs.Rows.{shown}
use Rattle.xf_form_refusals.specs.declared.classes.Class.TheVariants as class
use Rattle.xf_form.specs.Plan.{first_or}
use Rattle.xf_form.proofs.TargetLemmas.{place_more}
use Rattle.xf_form.proofs.targets.targets_of.Goals as goal

pub loop-place-preserved : goal.loop-place-preserved
loop-place-preserved c = λ id.
    let r = c.index-rows-place.result in
    c.in_ok-add_row.ensures id ∙ ap (λ o. first_or o (is_called class.Numbered id (shown r)) c.in_ok-small.field-0) (c.loop-place.invariant id)
    ∙ sym (place_more id c.args.rows.now c.loop-place.place c.in_ok-small.field-0 r c.loop-place-test.true c.index-rows-place.is c.in_ok-small.ensures)
