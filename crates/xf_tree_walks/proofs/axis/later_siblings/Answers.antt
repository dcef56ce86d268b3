use Rattle.std.proofs.Common.{sym, ◌∙◌}
use Rattle.xf_tree_walks.proofs.SiblingLemmas.{family}
use Rattle.xf_tree_walks.proofs.AxisLemmas.{following-alone, following-attribute, following-axis, beside, no_attribute}
use Rattle.xf_tree_walks.proofs.axis.later_siblings.Goals as goal

pub returns-in_default-clause-answer : goal.returns-in_default-clause-answer
returns-in_default-clause-answer c = following-alone c.args.slots.now c.args.rows.now.items c.args.at c.requires.nodes c.requires.within c.in_default.ensures.answer

pub returns-then-is_attribute_at-clause-answer : goal.returns-then-is_attribute_at-clause-answer
returns-then-is_attribute_at-clause-answer c =
    following-attribute c.args.slots.now c.args.rows.now.items c.args.at c.requires.nodes c.requires.within (rw c.at.ensures at (sym c.is_attribute_at.ensures ∙ c.if-is_attribute_at.true))

pub returns-clause-ready : goal.returns-clause-ready
returns-clause-ready c =
    let f = family no_attribute c.args.slots.now c.args.rows.now.items c.in-Some.above c.args.at c.requires.nodes c.requires.within c.in-Some.ensures.answer in
    (c.end_of-2.ensures.within, rw c.at-2.ensures (beside _ _ _ _ _ _ _ f c.end_of.ensures.answer c.end_of-2.ensures.answer).deep)

pub returns-clause-answer : goal.returns-clause-answer
returns-clause-answer c =
    rw c.at-2.ensures (following-axis c.args.slots.now c.args.rows.now.items c.in-Some.above c.args.at c.end_of.result c.end_of-2.result c.requires.nodes c.requires.within c.in-Some.ensures.answer
    (rw c.at.ensures at (sym c.is_attribute_at.ensures ∙ c.if-is_attribute_at.false)) c.end_of.ensures.answer c.end_of-2.ensures.answer)
