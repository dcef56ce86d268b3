use Rattle.std.proofs.Common.{sym, ◌∙◌, arith}
use Rattle.xf_tree_walks.proofs.AboveLemmas.{above-is}
use Rattle.xf_tree_walks.proofs.AxisLemmas.{preceding-alone, preceding-attribute, preceding-axis}
use Rattle.xf_tree_walks.proofs.axis.earlier_siblings.Goals as goal

pub returns-in_default-clause-answer : goal.returns-in_default-clause-answer
returns-in_default-clause-answer c = preceding-alone c.args.slots.now c.args.rows.now.items c.args.at c.requires.nodes c.requires.within c.in_default.ensures.answer

pub returns-then-is_attribute_at-clause-answer : goal.returns-then-is_attribute_at-clause-answer
returns-then-is_attribute_at-clause-answer c =
    preceding-attribute c.args.slots.now c.args.rows.now.items c.args.at c.requires.nodes c.requires.within (rw c.at.ensures at (sym c.is_attribute_at.ensures ∙ c.if-is_attribute_at.true))

pub returns-clause-ready : goal.returns-clause-ready
returns-clause-ready c =
    let a = above-is c.args.rows.now.items c.in-Some.above c.args.at c.requires.within c.in-Some.ensures.answer in
    (a.order, omega (arith, c.requires.within), rw c.at-2.ensures a.less)

pub returns-clause-answer : goal.returns-clause-answer
returns-clause-answer c =
    rw c.at-2.ensures (preceding-axis c.args.slots.now c.args.rows.now.items c.in-Some.above c.args.at c.requires.nodes c.requires.within c.in-Some.ensures.answer (rw c.at.ensures at (sym c.is_attribute_at.ensures ∙ c.if-is_attribute_at.false)))
