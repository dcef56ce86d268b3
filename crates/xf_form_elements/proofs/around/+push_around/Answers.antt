use Rattle.std.proofs.Common.{◌≡◌, ◌++◌, ◌-◌, suc, ◌∙◌, ap, arith, filter, reverse}
use Rattle.xf_def_ui.specs.Elements.{above}
use Rattle.xf_def_ui.specs.Interface.{interface_of}
use Rattle.xf_form_elements.specs.Around.{is_container}
use Rattle.xf_form_elements.proofs.AroundLemmas.{pushes-last}
use Rattle.xf_form_elements.proofs.around.+push_around.Goals as goal

pub returns : goal.returns
returns t c =
    let f = interface_of c.args.form.now in
    let deep : c.args.most ≡ suc (c.args.most - 1) = omega (arith, c.if-most-eq0.false) in
    pushes-last (is_container c.args.sort f) f c.args.most (c.args.most - 1) c.in-Some.element c.args.parent c.args.all.now c.push_around.new.all c.push_container.new.all deep c.in-Some.is
    (c.in_ok-push_around.ensures ∙ ap (λ p. c.args.all.now ++ filter (is_container c.args.sort f) (reverse (above (c.args.most - 1) f p))) c.parent_of.ensures)
    c.in_ok-push_container.ensures
