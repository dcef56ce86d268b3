use Rattle.std.proofs.Common.{◌≤◌, ◌+◌, length}
use Rattle.xf_disk.specs.Memory.{cells_in}
use Rattle.xf_disk.proofs.MemoryLemmas.{start_within, write_seen, write_torn, write_crash, write_time}
use Rattle.xf_disk.proofs.memory_disk.MemoryDiskDisk.write.Goals.{After-self-2-1}
use Rattle.xf_disk.proofs.memory_disk.MemoryDiskDisk.write.Goals as goal

start_of : (c : After-self-2-1) → c.args.at ≤ (cells_in c.args.slot c.args.self.now.slots).len
start_of c = start_within c.args.slot c.args.self.now.slots c.args.at (c.requires)

room_of : (c : After-self-2-1) → c.args.at + length c.args.bytes.now ≤ length (cells_in c.args.slot c.args.self.now.slots).bytes.items
room_of c = c.has_room.ensures.0 c.if-not-has_room.false

pub returns-clause-written : goal.returns-clause-written
returns-clause-written c = write_seen c.args.slot c.args.at c.args.bytes.now c.args.self.now.slots c.write.new.self c.write.ensures (start_of c) (room_of c)

pub returns-clause-torn : goal.returns-clause-torn
returns-clause-torn c = write_torn c.args.slot c.args.at c.args.bytes.now c.args.self.now.slots c.write.new.self c.write.ensures (start_of c) (room_of c)

pub returns-clause-crash : goal.returns-clause-crash
returns-clause-crash c = write_crash c.args.slot c.args.at c.args.bytes.now c.args.self.now.slots c.write.new.self c.write.ensures (start_of c) (room_of c)

pub returns-clause-time : goal.returns-clause-time
returns-clause-time c = write_time c.args.slot c.args.at c.args.bytes.now c.args.self.now.slots c.write.new.self c.args.self.now.past.items c.write.ensures (start_of c) (room_of c)
