use Rattle.std.proofs.Common.{◌≡◌, true, ◌≤◌, length, take}
use Rattle.xf_def_forest.specs.Undo.{is_known}
use Rattle.xf_def_forest.specs.WellFormed.{are_apart}
use Rattle.xf_undo.specs.Entries.{entries_of}
use Rattle.xf_undo.proofs.entry.is_known.Given as goal

-- what comes after the place says nothing of the node
abbrev pub invariant-loop-at : goal.invariant-loop-at
invariant-loop-at l = record {
  within : l.at ≤ length l.entries;
  apart : are_apart l.forest.forest.nodes ≡ true;
  rest : is_known l.node.number l.forest (entries_of l.entries) ≡ is_known l.node.number l.forest (entries_of (take l.at l.entries));
}

abbrev pub decreases-loop-at : goal.decreases-loop-at
decreases-loop-at l = l.at
