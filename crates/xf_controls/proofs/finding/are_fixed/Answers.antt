use Rattle.xf_def_ui.specs.Elements.{element_at}
use Rattle.xf_def_ui.specs.Interface.{interface_of}
use Rattle.xf_law_bindings.specs.Fixed.{IsFixedElement}
use Rattle.xf_controls.proofs.FixedLaws.{all-get}
use Rattle.xf_controls.proofs.NotedLaws.{fixed-element}
use Rattle.xf_controls.proofs.finding.are_fixed.Goals as goal

pub loop-element-preserved : goal.loop-element-preserved
loop-element-preserved c =
    let f = interface_of c.args.form.now in
    all-get (λ n. IsFixedElement (element_at f n)) c.args.elements.now c.loop-element.element-index 0 c.loop-element-test.true (fixed-element f _ c.requires (c.is_fixed.ensures c.if-not-is_fixed.false)) c.loop-element.invariant
