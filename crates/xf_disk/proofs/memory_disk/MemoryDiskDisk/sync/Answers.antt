use Rattle.std.proofs.Common.{rules}
use Rattle.xf_disk.proofs.MemoryLemmas.{sync_durable, sync_crash, sync_time}
use Rattle.xf_disk.proofs.memory_disk.MemoryDiskDisk.sync.Goals as goal

pub returns-clause-durable : goal.returns-clause-durable
returns-clause-durable c = sync_durable c.args.slot c.args.self.now.slots c.sync.new.self c.sync.ensures

pub returns-clause-crash : goal.returns-clause-crash
returns-clause-crash c = sync_crash c.args.slot c.args.self.now.slots c.sync.new.self c.sync.ensures

pub returns-clause-time : goal.returns-clause-time
returns-clause-time c = sync_time c.args.slot c.args.self.now.slots c.sync.new.self c.args.self.now.past.items c.push.new.self.items c.of.result c.sync.ensures (search rules) (search rules)
