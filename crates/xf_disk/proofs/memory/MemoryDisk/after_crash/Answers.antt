use Rattle.std.proofs.Common.{rules}
use Rattle.std.specs.Prelude.{IfOk}
use Rattle.xf_disk.specs.Memory.{DiskRests, after_crash_image}
use Rattle.xf_disk.proofs.MemoryLemmas.{disk_left_ok}
use Rattle.xf_disk.proofs.memory.MemoryDisk.after_crash.Goals as goal

pub returns-clause-left : goal.returns-clause-left
returns-clause-left c =
    let rests : IfOk c.over.result (DiskRests (after_crash_image c.args.fill c.args.grown c.args.self.now.slots)) = search rules in
    disk_left_ok c.args.fill c.args.grown c.args.self.now c.over.result rests
