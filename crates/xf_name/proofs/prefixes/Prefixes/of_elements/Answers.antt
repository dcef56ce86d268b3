use Rattle.std.proofs.Common.{◌∙◌, ap, sym, map}
use Rattle.xf_name.specs.Bindings.{no_bindings}
use Rattle.xf_name.specs.Declarations.{with_attributes, are_too_many}
use Rattle.xf_name.specs.Shown.{shown_by, with_shown}
use Rattle.xf_name.proofs.DeclarationLemmas.{elements_too_many, failed_whole}
use Rattle.xf_name.proofs.prefixes.Prefixes.of_elements.Goals as goal

pub returns-in-Err : goal.returns-in-Err
returns-in-Err c =
    let es = c.args.elements.now in
    let b = c.loop-element.prefixes in
    failed_whole c.in-Err.fault c.declare_all.new.self (with_attributes b c.as_slice.result.now) (with_shown no_bindings (map shown_by es))
    (λ many. elements_too_many no_bindings b es c.loop-element.element-index c.element-item.result c.loop-element-test.true c.element-item.is c.loop-element.invariant
    (ap (λ ps. are_too_many (with_attributes b ps)) (sym c.as_slice.ensures) ∙ many)) c.in-Err.ensures
