use Rattle.std.proofs.Common.{◌≡◌, length}
use Rattle.xf_binds.specs.Held.{entries_in, held_by, holds}
use Rattle.xf_binds.proofs.Tellings.{told_to}
use Rattle.xf_binds.proofs.applied.give.Given as goal

abbrev pub invariant-loop-at : goal.invariant-loop-at
invariant-loop-at l = record {
  long : length l.items.items ≡ l.count;
  so_far : told_to l.items.items l.truths l.at ≡ held_by (entries_in (holds l.fn.items.items)) l.truths;
}
