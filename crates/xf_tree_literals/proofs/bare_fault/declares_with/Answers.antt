use Rattle.std.proofs.Common.{length, sym, ◌∙◌}
use Rattle.xf_tree_literals.proofs.BareLemmas.{declares-with, not-zero}
use Rattle.xf_tree_literals.proofs.bare_fault.declares_with.Goals as goal

pub returns : goal.returns
returns c = c.declares-2.ensures ∙ declares-with c.args.prefix.now c.args.local.now (not-zero (length c.args.prefix.now) (sym c.is_empty.ensures ∙ c.if-is_empty.false))
