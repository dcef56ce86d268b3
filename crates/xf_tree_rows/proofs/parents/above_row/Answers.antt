use Rattle.std.proofs.Common.{ap, sym, ◌∙◌}
use Rattle.xf_tree_rows.specs.declared.rows.Row.{Row}
use Rattle.xf_tree_rows.proofs.ClimbLemmas.{top-alone}
use Rattle.xf_tree_rows.proofs.parents.above_row.Goals as goal

pub returns-then-row-eq0-clause-answer : goal.returns-then-row-eq0-clause-answer
returns-then-row-eq0-clause-answer c = top-alone c.args.rows.now.items c.args.at c.requires.within (ap (λ (r : Row). r.depth) (sym c.at-row.ensures) ∙ c.if-row-eq0.true)
