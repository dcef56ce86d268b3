use Rattle.std.proofs.Common.{map, take}
use Rattle.xf_binds.specs.Held.{entries_in}
use Rattle.xf_binds_rebuild.specs.Links.{source_on}
use Rattle.xf_binds_rebuild.specs.Readers.{TellsReaders}
use Rattle.xf_binds_rebuild.proofs.readers.readers_of.Given as goal

abbrev pub invariant-loop-place : goal.invariant-loop-place
invariant-loop-place l = TellsReaders (take l.place (map (source_on (entries_in l.fn.applied) l.fn.web) l.fn.nodes)) l.readers
