use Rattle.std.proofs.Common.{reverse}
use Rattle.xf_tree_literals.specs.Print.{stacked}
use Rattle.xf_tree_literals.proofs.PrintedLemmas.{printed-lines}
use Rattle.xf_tree_literals.proofs.print.lit_of_rows.Goals as goal

pub returns-in-Tree : goal.returns-in-Tree
returns-in-Tree c =
    printed-lines c.args.slots.now c.args.prefixes.now c.args.rows.now c.in_ok-lines.lines.items c.deref.result.now c.index.result.now (reverse c.in_ok-declared.declared.items) (stacked c.in_ok-parts.parts.items) c.in_ok-lit.field-0 c.in-Tree.lit
    c.requires c.in_ok-lines.ensures c.deref.ensures.value c.index.ensures c.in_ok-declared.ensures c.in_ok-parts.ensures c.in_ok-lit.ensures.part c.in-Tree.is
