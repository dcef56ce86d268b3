use Rattle.std.proofs.Common.{◌==◌, sym, subst}
use Rattle.std.proofs.lemmas.List.Sorted.{list_any-IsPermutation}
use Rattle.xf_tree_walks.specs.Reads.{AreUp}
use Rattle.xf_tree_walks.proofs.OrderLemmas.{up-sorted, up-adjacent}
use Rattle.xf_tree_walks.proofs.order.put_up.Goals as goal

pub returns-then-not-is_sorted-clause-up : goal.returns-then-not-is_sorted-clause-up
returns-then-not-is_sorted-clause-up c = up-sorted c.sort_unstable.new.self.items c.sort_unstable.ensures.sorted

pub returns-then-not-is_sorted-clause-same : goal.returns-then-not-is_sorted-clause-same
returns-then-not-is_sorted-clause-same c at = sym (list_any-IsPermutation (λ p. p == at) c.args.ranks.now.items c.sort_unstable.new.self.items c.sort_unstable.ensures.permutation)

pub returns-else-not-is_sorted-clause-up : goal.returns-else-not-is_sorted-clause-up
returns-else-not-is_sorted-clause-up c = subst (AreUp 0) c.deref.ensures.value (up-adjacent c.deref.result.now c.if-not-is_sorted.ensures.cases)
