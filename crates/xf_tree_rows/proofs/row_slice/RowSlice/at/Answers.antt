use Rattle.std.proofs.Common.{◌<◌, length, get_or, sym, ap, ◌∙◌, subst, arith}
use Rattle.xf_tree_rows.specs.Rows.{no_row}
use Rattle.xf_tree_rows.proofs.SliceLemmas.{within, taken}
use Rattle.xf_tree_rows.proofs.row_slice.RowSlice.at.Goals as goal

pub overflow_add-self-inside : goal.overflow_add-self-inside
overflow_add-self-inside c =
    let lt = subst (λ s. c.args.at < length s) (sym c.self.view_is) c.requires in
    omega (arith, within c.self.inside.from c.self.inside.to c.args.at c.self.inside.rows.now.items c.self.invariant.0 lt, c.self.invariant.1.1)

pub at-requires : goal.at-requires
at-requires c =
    let lt = subst (λ s. c.args.at < length s) (sym c.self.view_is) c.requires in
    omega (arith, within c.self.inside.from c.self.inside.to c.args.at c.self.inside.rows.now.items c.self.invariant.0 lt, c.self.invariant.1.0)

pub returns : goal.returns
returns c =
    let lt = subst (λ s. c.args.at < length s) (sym c.self.view_is) c.requires in
    c.at.ensures ∙ taken c.self.inside.from c.self.inside.to c.args.at c.self.inside.rows.now.items no_row lt ∙ ap (λ s. get_or s c.args.at no_row) c.self.view_is
