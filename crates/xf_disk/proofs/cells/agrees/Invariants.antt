use Rattle.std.proofs.Common.{drop}
use Rattle.std.specs.Prelude.{◌↔◌}
use Rattle.xf_disk.specs.Marks.{Agrees}
use Rattle.xf_disk.proofs.cells.agrees.Given as goal

abbrev pub invariant-loop-i : goal.invariant-loop-i
invariant-loop-i l = Agrees (drop l.i l.written) (drop l.i l.bytes) (drop l.i l.image) ↔ Agrees l.written l.bytes l.image
