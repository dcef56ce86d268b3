use Rattle.std.proofs.Common.{◌∙◌, ap, sym}
use Rattle.xf_form_elements.specs.Names.{first_or, is_named}
use Rattle.xf_form_elements.proofs.NameLemmas.{named_more}
use Rattle.xf_form_elements.proofs.names.names_among.Goals as goal

pub loop-place-preserved : goal.loop-place-preserved
loop-place-preserved c = λ tables id.
    let e = c.index-elements-place.result in
    c.in_ok-add_element.ensures id ∙ ap (λ o. first_or o (is_named id e.id) c.in_ok-number_at.field-0) (c.loop-place.invariant tables id)
    ∙ sym (named_more tables id c.args.elements.now c.loop-place.place c.in_ok-number_at.field-0 e c.loop-place-test.true c.index-elements-place.is c.in_ok-number_at.ensures)
