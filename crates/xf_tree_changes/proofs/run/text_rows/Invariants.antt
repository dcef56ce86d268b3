use Rattle.std.proofs.Common.{◌≡◌, ◌≤◌, length, take}
use Rattle.xf_tree_changes.specs.Texts.{children}
use Rattle.xf_tree_changes.proofs.run.text_rows.Given as goal

abbrev pub invariant-loop-at : goal.invariant-loop-at
invariant-loop-at l = record {
  count : l.count ≡ length (children l.slots (take l.at l.rows));
  few : l.count ≤ l.at;
}
