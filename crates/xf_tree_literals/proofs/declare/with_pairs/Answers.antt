use Rattle.std.proofs.Common.{reverse, sym, ap, ◌∙◌}
use Rattle.xf_def_forest.specs.Printed.{with_pairs}
use Rattle.xf_tree_literals.proofs.PairLemmas.{pairs-snoc}
use Rattle.xf_tree_literals.proofs.declare.with_pairs.Goals as goal

pub loop-pair-preserved : goal.loop-pair-preserved
loop-pair-preserved c =
    let pairs = reverse c.loop-pair.pairs.items in
    ap (with_pairs c.pop.new.self.items) c.in_ok-insert_pair.ensures ∙ sym (pairs-snoc c.pop.new.self.items c.in-Some.pair pairs) ∙ ap (λ l. with_pairs l pairs) (sym c.in-Some.ensures.items) ∙ c.loop-pair.invariant
