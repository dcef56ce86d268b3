use Rattle.std.proofs.Common.{◌+◌, drop, sym, ap, ◌∙◌}
use Rattle.std.specs.Prelude.{◌&&◌}
use Rattle.std.specs.List.{flat_map}
use Rattle.std.proofs.lemmas.List.{drop_all}
use Rattle.xf_def_syntax.specs.Ordered.{child_in}
use Rattle.xf_def_ui.specs.Interface.{interface_of}
use Rattle.xf_controls.specs.Plain.{are_children}
use Rattle.xf_controls.proofs.CodeLaws.{children-more}
use Rattle.xf_controls.proofs.element.are_children.Goals as goal

pub returns-then-not-is_child : goal.returns-then-not-is_child
returns-then-not-is_child c =
    let f = interface_of c.args.form.now in
    let ps = c.args.parts.now in
    sym (c.loop-part.invariant ∙ children-more f c.args.at ps c.loop-part.part-index c.part-item.result c.loop-part-test.true c.part-item.is
    ∙ ap (λ b. b && are_children f c.args.at (flat_map child_in (drop (c.loop-part.part-index + 1) ps))) (sym c.is_child.ensures ∙ c.if-not-is_child.true))

pub loop-part-preserved : goal.loop-part-preserved
loop-part-preserved c =
    let f = interface_of c.args.form.now in
    let ps = c.args.parts.now in
    c.loop-part.invariant ∙ children-more f c.args.at ps c.loop-part.part-index c.part-item.result c.loop-part-test.true c.part-item.is
    ∙ ap (λ b. b && are_children f c.args.at (flat_map child_in (drop (c.loop-part.part-index + 1) ps))) (sym c.is_child.ensures ∙ c.if-not-is_child.false)

pub returns : goal.returns
returns c =
    let f = interface_of c.args.form.now in
    sym (c.loop-part.invariant ∙ ap (λ qs. are_children f c.args.at (flat_map child_in qs)) (drop_all c.loop-part.part-index c.args.parts.now c.loop-part-test.false))
