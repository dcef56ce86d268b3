use Rattle.std.proofs.Common.{◌≡◌, ◌-◌, ◌<◌, ◌≤◌, length, get_or, ap, arith}
use Rattle.xf_tree_rows.specs.declared.rows.Row.{Row}
use Rattle.xf_tree_rows.specs.Rows.{no_row}
use Rattle.xf_tree_rows.proofs.ParentLemmas.{hint-parent}
use Rattle.xf_tree_rows.proofs.ClimbLemmas.{size-above}
use Rattle.xf_tree_rows.proofs.parents.parent_at.Goals as goal

pub returns-then-at-above-clause-parent : goal.returns-then-at-above-clause-parent
returns-then-at-above-clause-parent c =
    let rows = c.args.rows.now.items in
    let above = c.args.above in
    let at = c.args.at in
    let before : above < at = omega (arith, c.if-above-at.false) in
    let within : at ≤ length rows = omega (arith, c.requires.within) in
    let size = size-above rows above at before within c.requires.sized in
    let upper = ap (λ (r : Row). r.depth) c.at-upper.ensures in
    let sized = ap (λ (r : Row). r.size) c.at-upper.ensures in
    let less : (get_or rows above no_row).depth < (get_or rows at no_row).depth = omega (arith, c.requires.depth, upper, c.if-upper-depth.true) in
    let one : (get_or rows at no_row).depth - (get_or rows above no_row).depth ≡ 1 = omega (arith, c.requires.depth, upper, c.if-upper-depth.true) in
    hint-parent rows above at before c.requires.within less one (omega (arith, before, size, sized, c.if-at-above.true))
