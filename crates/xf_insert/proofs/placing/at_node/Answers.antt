use Rattle.std.proofs.Common.{◌≡◌, [], map, sym, ap, ◌∙◌, subst}
use Rattle.std.specs.Prelude.{IfOk}
use Rattle.xf_def_forest.specs.Forest.{is_attribute, is_element}
use Rattle.xf_def_forest.specs.Visit.{visits}
use Rattle.xf_def_forest.proofs.LiveLaws.{parent-live}
use Rattle.xf_def_model.specs.Places as model
use Rattle.xf_actions.specs.Seen.{place_of}
use Rattle.xf_insert.specs.Placing as placing
use Rattle.xf_insert.proofs.AtLaws.{at-attribute, at-document_element, at-element, at-nothing, at-other}
use Rattle.xf_insert.proofs.placing.at_node.Goals as goal

pub returns-then-not-is_live : goal.returns-then-not-is_live
returns-then-not-is_live c =
    ap (map place_of) c.new.ensures ∙ sym (at-nothing c.args.after c.args.origin.now c.args.node.number c.args.forest.now.forest.nodes (sym c.is_live.ensures ∙ c.if-not-is_live.true))

pub returns-then-is_root : goal.returns-then-is_root
returns-then-is_root c =
    let nodes = c.args.forest.now.forest.nodes in
    let n = c.args.node.number in
    let p = c.in-Some.parent.number in
    let elements = c.in_ok-elements.ensures ∙ ap (placing.among is_element (visits nodes)) c.as_slice.ensures in
    let is = at-document_element c.args.after c.args.origin.now n nodes c.are_trees.ensures.apart p (sym c.if-is_element.true ∙ c.is_element.ensures) c.in-Some.ensures (sym c.if-is_root.true ∙ c.is_root.ensures) in
    subst (λ l. IfOk c.instead.result (λ found. map place_of found ≡ l)) (ap (model.instead p n) elements ∙ sym is) c.instead.ensures

pub beside-requires : goal.beside-requires
beside-requires c = parent-live c.args.node.number c.in-Some.parent.number c.args.forest.now.forest.nodes (sym c.in-Some.ensures)

pub returns-then-is_element : goal.returns-then-is_element
returns-then-is_element c =
    let nodes = c.args.forest.now.forest.nodes in
    let n = c.args.node.number in
    let p = c.in-Some.parent.number in
    let elements = c.in_ok-elements.ensures ∙ ap (placing.among is_element (visits nodes)) c.as_slice.ensures in
    let is = at-element c.args.after c.args.origin.now n nodes c.are_trees.ensures.apart p (sym c.if-is_element.true ∙ c.is_element.ensures) c.in-Some.ensures (sym c.if-is_root.false ∙ c.is_root.ensures) in
    subst (λ l. IfOk c.beside.result (λ found. map place_of found ≡ l)) (ap (placing.beside (visits nodes) c.args.after p n) elements ∙ sym is) c.beside.ensures

pub returns-then-is_attribute : goal.returns-then-is_attribute
returns-then-is_attribute c =
    let nodes = c.args.forest.now.forest.nodes in
    let n = c.args.node.number in
    let p = c.in-Some.parent.number in
    let attributes = c.as_slice-then-is_attribute-2.ensures ∙ c.in_ok-attributes.ensures ∙ ap (placing.among is_attribute (visits nodes)) c.as_slice-then-is_attribute.ensures in
    let is = at-attribute c.args.after c.args.origin.now n nodes c.are_trees.ensures.apart p (sym c.if-is_attribute.true ∙ c.is_attribute.ensures) c.in-Some.ensures in
    subst (λ l. IfOk c.within.result (λ found. map place_of found ≡ l)) (ap (model.within (visits nodes) p 0 []) attributes ∙ sym is) c.within.ensures

pub returns : goal.returns
returns c =
    ap (map place_of) c.new-2.ensures
    ∙ sym (at-other c.args.after c.args.origin.now c.args.node.number c.args.forest.now.forest.nodes c.are_trees.ensures.apart (sym c.if-is_element.false ∙ c.is_element.ensures) (sym c.if-is_attribute.false ∙ c.is_attribute.ensures))
