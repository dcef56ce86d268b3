use Rattle.std.proofs.Common.{ℕ, ◌+◌, ◌-◌, ◌<◌, length, get_or, sym, ◌∙◌, ap, subst, arith}
use Rattle.xf_tree_rows.specs.declared.rows.Row.{Row}
use Rattle.xf_tree_rows.specs.Rows.{AllDeep, no_row}
use Rattle.xf_tree_walks.specs.Walks.{between}
use Rattle.xf_tree_walks.proofs.AxisLemmas.{tree-deep}
use Rattle.xf_tree_walks.proofs.walk.alike_before.Goals as goal

pub returns-then-end_of-next-clause-deep : goal.returns-then-end_of-next-clause-deep
returns-then-end_of-next-clause-deep c =
    let rows = c.args.rows.now.items in
    let next = c.args.from + 1 in
    let place = next - c.at-size.result.size in
    let in_rows : place < length rows = omega (arith, c.if-next-len.false, c.len.ensures) in
    let depth = ap (λ (r : Row). r.depth) (sym c.at.ensures) ∙ c.if-at-depth.true in
    let end = sym c.end_of.ensures.answer ∙ c.if-end_of-next.true in
    subst (λ (d : ℕ). AllDeep (d + 1) (between (place + 1) next rows)) depth
    (subst (λ (n : ℕ). AllDeep ((get_or rows place no_row).depth + 1) (between (place + 1) n rows)) end (tree-deep rows place in_rows))
