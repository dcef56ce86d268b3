use Rattle.std.proofs.Common.{◌≤◌, length, drop, sym, ap, ◌∙◌, subst}
use Rattle.xf_tree_rows.proofs.SliceLemmas.{skipped}
use Rattle.xf_tree_rows.proofs.row_slice.RowSlice.skip.Goals as goal

pub returns : goal.returns
returns c =
    skipped c.self.inside.from c.self.inside.to c.args.count c.self.inside.rows.now.items c.self.invariant.0 (subst (λ s. c.args.count ≤ length s) (sym c.self.view_is) c.requires)
    ∙ ap (drop c.args.count) c.self.view_is
