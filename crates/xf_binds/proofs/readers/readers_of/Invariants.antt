use Rattle.std.proofs.Common.{take}
use Rattle.xf_binds.specs.Held.{entries_in}
use Rattle.xf_binds.specs.Readers.{TellsReaders}
use Rattle.xf_binds.proofs.readers.readers_of.Given as goal

abbrev pub invariant-loop-place : goal.invariant-loop-place
invariant-loop-place l = TellsReaders (take l.place (entries_in l.fn.applied)) l.fn.web l.readers
