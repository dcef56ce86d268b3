use Rattle.std.proofs.Common.{◌≡◌, length}
use Rattle.xf_def_forest.specs.Undo.{undone_all}
use Rattle.xf_law_forests.specs.Rollback.Back.{CanUndoAll}
use Rattle.xf_undo.specs.Entries.{entries_of}
use Rattle.xf_undo.proofs.entry.undo_all.Given as goal

abbrev pub invariant-loop-entry : goal.invariant-loop-entry
invariant-loop-entry l = record {
  may : CanUndoAll (entries_of l.entries.items) l.forest;
  back : undone_all (entries_of l.entries.items) l.forest ≡ undone_all (entries_of l.fn.entries.items) l.fn.forest;
}

abbrev pub decreases-loop-entry : goal.decreases-loop-entry
decreases-loop-entry l = length l.entries.items
