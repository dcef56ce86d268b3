use Rattle.std.proofs.Common.{nat_lt, sym, ap, ◌∙◌}
use Rattle.xf_tree_literals.proofs.StackLemmas.{last-deeper}
use Rattle.xf_tree_literals.proofs.gather.begins_deeper.Goals as goal

pub returns-then-count-gt0 : goal.returns-then-count-gt0
returns-then-count-gt0 g c =
    let p = c.index-parts-count.result in
    ap (λ q. nat_lt c.args.depth q.0) (sym c.index-parts-count.is) ∙ last-deeper c.args.parts.now p c.args.depth c.if-count-gt0.true c.index-parts-count.is
