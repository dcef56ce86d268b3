use Rattle.std.proofs.Common.{◌+◌, get_or, slice_get, sym, ap, ◌∙◌, subst}
use Rattle.xf_tree_rows.specs.Rows.{AllDeep, no_row}
use Rattle.xf_tree_walks.specs.Walks.{between}
use Rattle.xf_tree_walks.proofs.AxisLemmas.{tree-deep}
use Rattle.xf_tree_walks.proofs.SoughtLemmas.{child-met, axis-met}
use Rattle.xf_tree_walks.proofs.chosen_row.row_from.Goals as goal

pub narrowed-first-requires-clause-deep : goal.narrowed-first-requires-clause-deep
narrowed-first-requires-clause-deep c =
    let rows = c.args.rows.now.items in
    let at = c.args.at in
    subst (λ d. AllDeep d (between (at + 1) c.end_of-end.result rows)) (sym c.child_depth-depth.ensures)
    (subst (λ end. AllDeep ((get_or rows at no_row).depth + 1) (between (at + 1) end rows)) (sym c.end_of-end.ensures.answer) (tree-deep rows at c.requires.within))

pub returns-in-Child-clause-answer : goal.returns-in-Child-clause-answer
returns-in-Child-clause-answer c =
    c.row_in_trees.ensures.answer
    ∙ ap (λ l. slice_get l c.args.place) (c.narrowed-first.ensures.same ∙ child-met c.args.slots.now c.args.rows.now.items c.args.sought c.requires.nodes c.args.axis c.args.at _ _ c.requires.within c.in-Child.is c.end_of-end.ensures.answer c.child_depth-depth.ensures)

pub returns-in_default-clause-answer : goal.returns-in_default-clause-answer
returns-in_default-clause-answer c =
    c.row_found.ensures.answer
    ∙ ap (λ l. slice_get l c.args.place) (axis-met c.args.slots.now c.args.rows.now.items c.args.sought c.requires.nodes c.args.axis c.args.at c.start-first.result.0 c.start-first.result.1 c.start-first.ensures.answer)
