use Rattle.std.proofs.Common.{◌+◌, ap, ◌∙◌, arith}
use Rattle.xf_tree_rows.specs.declared.rows.Row.{Row}
use Rattle.xf_tree_rows.proofs.CutLemmas.{no_row, size-at, tree-within}
use Rattle.xf_tree_rows.proofs.rows.end_of.Goals as goal

pub overflow_add-result : goal.overflow_add-result
overflow_add-result c =
    let rows = c.args.rows.now.items in
    omega (arith, ap (λ (r : Row). r.size) c.at.ensures, size-at c.args.at rows no_row c.requires.within c.requires.sized, tree-within c.args.at rows c.requires.within, c.ranges.at.fits)

pub returns-clause-answer : goal.returns-clause-answer
returns-clause-answer c = ap (λ n. c.args.at + n) (ap (λ (r : Row). r.size) c.at.ensures ∙ size-at c.args.at c.args.rows.now.items no_row c.requires.within c.requires.sized)

pub returns-clause-within : goal.returns-clause-within
returns-clause-within c =
    let rows = c.args.rows.now.items in
    omega (arith, ap (λ (r : Row). r.size) c.at.ensures, size-at c.args.at rows no_row c.requires.within c.requires.sized, tree-within c.args.at rows c.requires.within)
