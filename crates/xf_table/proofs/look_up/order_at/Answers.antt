use Rattle.std.proofs.Common.{refl, ◌∙◌, ap}
use Rattle.std.specs.Ordering.{nat_cmp}
use Rattle.std.specs.Cmp.Lexicographic.{slice_cmp}
use Rattle.xf_table.proofs.RowLemmas.{name_at-entries_of}
use Rattle.xf_table.proofs.look_up.order_at.Goals as goal

pub returns : goal.returns
returns c = c.cmp.ensures ∙ ap (λ n. slice_cmp nat_cmp n c.args.name.now) (name_at-entries_of c.args.rows.now c.args.place _ refl)
