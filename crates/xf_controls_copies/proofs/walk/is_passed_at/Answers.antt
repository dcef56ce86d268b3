use Rattle.std.proofs.Common.{sym, ap, ◌∙◌}
use Rattle.xf_def_ui.specs.Interface.{Element, interface_of}
use Rattle.xf_controls.specs.Below.{is_passed}
use Rattle.xf_form_elements.proofs.ElementLemmas.{no-element, this-element}
use Rattle.xf_controls_copies.proofs.walk.is_passed_at.Goals as goal

pub returns-in-Some : goal.returns-in-Some
returns-in-Some c =
    c.is_passed.ensures
    ∙ sym (ap (λ (e : Element). is_passed c.args.most (interface_of c.args.form.now) e) (this-element c.args.form.now c.args.element c.in-Some.here.now c.in-Some.ensures))

pub returns-in-None : goal.returns-in-None
returns-in-None c = sym (ap (λ (e : Element). is_passed c.args.most (interface_of c.args.form.now) e) (no-element c.args.form.now c.args.element c.in-None.ensures))
