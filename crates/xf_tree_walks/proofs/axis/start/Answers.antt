use Rattle.std.proofs.Common.{◌∷◌, sym, ap, ◌∙◌, subst}
use Rattle.xf_tree_rows.proofs.CutLemmas.{tree-within}
use Rattle.xf_tree_walks.specs.Walks.{left_of, number_of_row, IsReady}
use Rattle.xf_tree_walks.proofs.AxisLemmas.{self-axis, child-axis, attribute-axis, parent-axis, ancestor-axis, ancestor-or_self-axis, descendant-axis, descendant-or_self-axis, tree-deep}
use Rattle.xf_tree_walks.proofs.axis.start.Goals as goal

pub returns-in-Self_-clause-answer : goal.returns-in-Self_-clause-answer
returns-in-Self_-clause-answer c = rw c.in-Self_.is (self-axis c.args.slots.now c.args.rows.now.items c.args.at c.requires.nodes c.requires.within)

pub returns-in-Child-clause-walk : goal.returns-in-Child-clause-walk
returns-in-Child-clause-walk c = record {
  sized = c.requires.nodes.sized;
  within = tt;
  ready = subst (IsReady c.args.rows.now.items) (sym c.right_below.ensures) (tree-within c.args.at c.args.rows.now.items c.requires.within, tree-deep c.args.rows.now.items c.args.at c.requires.within);
}

pub returns-in-Child-clause-answer : goal.returns-in-Child-clause-answer
returns-in-Child-clause-answer c =
    rw c.in-Child.is (ap (left_of c.args.slots.now c.args.rows.now.items) c.right_below.ensures ∙ child-axis c.args.slots.now c.args.rows.now.items c.args.at c.requires.nodes c.requires.within)

pub returns-in-Attribute-clause-walk : goal.returns-in-Attribute-clause-walk
returns-in-Attribute-clause-walk c = record {
  sized = c.requires.nodes.sized;
  within = tt;
  ready = subst (IsReady c.args.rows.now.items) (sym c.own_attributes.ensures) tt;
}

pub returns-in-Attribute-clause-answer : goal.returns-in-Attribute-clause-answer
returns-in-Attribute-clause-answer c =
    rw c.in-Attribute.is (ap (left_of c.args.slots.now c.args.rows.now.items) c.own_attributes.ensures ∙ attribute-axis c.args.slots.now c.args.rows.now.items c.args.at c.requires.nodes c.requires.within)

pub returns-in-Parent-clause-answer : goal.returns-in-Parent-clause-answer
returns-in-Parent-clause-answer c =
    rw c.in-Parent.is (parent-axis c.args.slots.now c.args.rows.now.items c.args.at c.parent_row.result c.requires.nodes c.requires.within c.parent_row.ensures.answer)

pub returns-in-Ancestor-clause-answer : goal.returns-in-Ancestor-clause-answer
returns-in-Ancestor-clause-answer c = rw c.in-Ancestor.is (ancestor-axis c.args.slots.now c.args.rows.now.items c.args.at c.requires.nodes c.requires.within)

pub returns-in-AncestorOrSelf-clause-answer : goal.returns-in-AncestorOrSelf-clause-answer
returns-in-AncestorOrSelf-clause-answer c = rw c.in-AncestorOrSelf.is (ancestor-or_self-axis c.args.slots.now c.args.rows.now.items c.args.at c.requires.nodes c.requires.within)

pub returns-in-Descendant-clause-walk : goal.returns-in-Descendant-clause-walk
returns-in-Descendant-clause-walk c = record {
  sized = c.requires.nodes.sized;
  within = tt;
  ready = subst (IsReady c.args.rows.now.items) (sym c.all_below.ensures) (tree-within c.args.at c.args.rows.now.items c.requires.within);
}

pub returns-in-Descendant-clause-answer : goal.returns-in-Descendant-clause-answer
returns-in-Descendant-clause-answer c =
    rw c.in-Descendant.is (ap (left_of c.args.slots.now c.args.rows.now.items) c.all_below.ensures ∙ descendant-axis c.args.slots.now c.args.rows.now.items c.args.at c.requires.nodes c.requires.within)

pub returns-in-DescendantOrSelf-clause-walk : goal.returns-in-DescendantOrSelf-clause-walk
returns-in-DescendantOrSelf-clause-walk c = record {
  sized = c.requires.nodes.sized;
  within = c.requires.within;
  ready = subst (IsReady c.args.rows.now.items) (sym c.all_below-in-DescendantOrSelf.ensures) (tree-within c.args.at c.args.rows.now.items c.requires.within);
}

pub returns-in-DescendantOrSelf-clause-answer : goal.returns-in-DescendantOrSelf-clause-answer
returns-in-DescendantOrSelf-clause-answer c =
    rw c.in-DescendantOrSelf.is (ap (λ l. number_of_row c.args.slots.now c.args.rows.now.items c.args.at ∷ left_of c.args.slots.now c.args.rows.now.items l) c.all_below-in-DescendantOrSelf.ensures
    ∙ descendant-or_self-axis c.args.slots.now c.args.rows.now.items c.args.at c.requires.nodes c.requires.within)
