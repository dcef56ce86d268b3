use Rattle.std.proofs.Common.{◌≡◌, ◌+◌, ◌<◌, ◌≤◌, length}
use Rattle.xf_tree_changes.specs.Below.{elements_over}
use Rattle.xf_tree_changes.proofs.attach.elements_over.Given as goal

abbrev pub invariant-loop-count : goal.invariant-loop-count
invariant-loop-count l = record {
  within : l.at < length l.rows.items;
  few : l.count + l.at ≤ l.above;
  so_far : l.count + elements_over l.slots l.rows.items l.at ≡ elements_over l.slots l.rows.items l.above;
}

abbrev pub decreases-loop-count : goal.decreases-loop-count
decreases-loop-count l = l.at
