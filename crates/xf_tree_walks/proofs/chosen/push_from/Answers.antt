use Rattle.std.proofs.Common.{◌+◌, ◌<◌, ◌++◌, length, get_or, append-nil, sym, ap, ◌∙◌, subst, arith}
use Rattle.std.proofs.lemmas.Result.{on_ok_weaker}
use Rattle.xf_tree_rows.specs.Rows.{AllDeep, no_row}
use Rattle.xf_tree_walks.specs.Walks.{between}
use Rattle.xf_tree_walks.proofs.AxisLemmas.{tree-deep}
use Rattle.xf_tree_walks.proofs.SoughtLemmas.{child-met, attribute-met, self-met, parent-met, no_parent-met, axis-met}
use Rattle.xf_tree_walks.proofs.chosen.push_from.Goals as goal

pub narrowed-first-requires-clause-deep : goal.narrowed-first-requires-clause-deep
narrowed-first-requires-clause-deep c =
    let rows = c.args.rows.now.items in
    let at = c.args.at in
    subst (λ d. AllDeep d (between (at + 1) c.end_of-end.result rows)) (sym c.child_depth-depth.ensures)
    (subst (λ end. AllDeep ((get_or rows at no_row).depth + 1) (between (at + 1) end rows)) (sym c.end_of-end.ensures.answer) (tree-deep rows at c.requires.within))

pub returns-in-Child : goal.returns-in-Child
returns-in-Child c =
    on_ok_weaker c.push_trees.result
    (λ h. h ∙ ap (λ l. c.args.found.now ++ l) (c.narrowed-first.ensures.same ∙ child-met c.args.slots.now c.args.rows.now.items c.args.sought c.requires.nodes c.args.axis c.args.at _ _ c.requires.within c.in-Child.is c.end_of-end.ensures.answer c.child_depth-depth.ensures))
    c.push_trees.ensures

pub returns-in-Attribute : goal.returns-in-Attribute
returns-in-Attribute c =
    on_ok_weaker c.push_attributes.result
    (λ h. h ∙ ap (λ l. c.args.found.now ++ l) (attribute-met c.args.slots.now c.args.rows.now.items c.args.sought c.requires.nodes c.args.axis c.args.at _ c.requires.within c.in-Attribute.is c.child_depth.ensures))
    c.push_attributes.ensures

pub returns-in-Self_ : goal.returns-in-Self_
returns-in-Self_ c =
    on_ok_weaker c.push_sought.result
    (λ h. h ∙ ap (λ l. c.args.found.now ++ l) (self-met c.args.slots.now c.args.rows.now.items c.args.sought c.requires.nodes c.args.axis c.args.at c.requires.within c.in-Self_.is))
    c.push_sought.ensures

pub returns-in-Some : goal.returns-in-Some
returns-in-Some c =
    let inside : c.in-Some.above < length c.args.rows.now.items = omega (arith, c.in-Some.ensures.within, c.requires.within) in
    on_ok_weaker c.push_sought-in-Some.result
    (λ h. h ∙ ap (λ l. c.args.found.now ++ l) (parent-met c.args.slots.now c.args.rows.now.items c.args.sought c.requires.nodes c.args.axis c.args.at c.in-Some.above c.requires.within inside c.in-Parent.is c.in-Some.ensures.answer))
    c.push_sought-in-Some.ensures

pub returns-in-None : goal.returns-in-None
returns-in-None c =
    sym (append-nil c.args.found.now)
    ∙ ap (λ l. c.args.found.now ++ l) (no_parent-met c.args.slots.now c.args.rows.now.items c.args.sought c.requires.nodes c.args.axis c.args.at c.requires.within c.in-Parent.is c.in-None.ensures.answer)

pub returns-in_default : goal.returns-in_default
returns-in_default c =
    on_ok_weaker c.push_found.result
    (λ h. h ∙ ap (λ l. c.args.found.now ++ l) (axis-met c.args.slots.now c.args.rows.now.items c.args.sought c.requires.nodes c.args.axis c.args.at c.start-first.result.0 c.start-first.result.1 c.start-first.ensures.answer))
    c.push_found.ensures
