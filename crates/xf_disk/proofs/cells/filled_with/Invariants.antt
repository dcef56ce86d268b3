use Rattle.std.proofs.Common.{◌≡◌, ◌++◌, drop, length}
use Rattle.xf_disk.specs.Marks.{filled}
use Rattle.xf_disk.proofs.cells.filled_with.Given as goal

abbrev pub invariant-loop-i : goal.invariant-loop-i
invariant-loop-i l = record {
  so_far : l.left.items ++ filled l.fill (drop l.i l.written) (drop l.i l.bytes) ≡ filled l.fill l.written l.bytes;
  size : length l.left.items ≡ l.i;
}
