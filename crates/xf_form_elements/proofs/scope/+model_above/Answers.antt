use Rattle.std.proofs.Common.{◌≡◌, ◌-◌, suc, ◌∙◌, ap, sym, arith, reverse}
use Rattle.xf_def_ui.specs.Context.{scope_of}
use Rattle.xf_def_ui.specs.Elements.{above, element_at}
use Rattle.xf_def_ui.specs.Interface.{interface_of}
use Rattle.xf_form_elements.specs.Scope.{model_along}
use Rattle.xf_form_elements.proofs.ScopeLemmas.{along-more}
use Rattle.xf_form_elements.proofs.scope.+model_above.Goals as goal

pub returns : goal.returns
returns t c =
    let f = interface_of c.args.form.now in
    let n = c.in-Some.element in
    let deep : c.args.most ≡ suc (c.args.most - 1) = omega (arith, c.if-most-eq0.false) in
    c.model_in.ensures
    ∙ ap (λ outer. scope_of f outer (element_at f n)) (c.model_above-outer.ensures ∙ ap (λ p. model_along f (reverse (above (c.args.most - 1) f p)) 0) c.parent_of.ensures)
    ∙ sym (ap (λ p. model_along f (reverse (above c.args.most f p)) 0) c.in-Some.is ∙ along-more f c.args.most (c.args.most - 1) n deep)
