use Rattle.std.proofs.Common.{length}
use Rattle.xf_disk.specs.Crash.{Torn}
use Rattle.xf_journal.specs.Moments.{MightStep}
use Rattle.xf_journal.proofs.RunLemmas.{started, goes_on, torn_none}
use Rattle.xf_journal.proofs.step.write_synced.Goals as goal

pub returns-clause-each_moment : goal.returns-clause-each_moment
returns-clause-each_moment g c =
    let disk = g.D.Disk in
    let P = MightStep c.args.slot (Torn c.args.at (length c.args.bytes.now)) (disk.may_leave c.args.disk.now) in
    let begun = started disk.moment disk.left_since c.args.disk.now P (λ image left. (image, g.met.D.Disk.only_now c.args.disk.now image left, torn_none c.args.at (length c.args.bytes.now) c.args.slot image)) in
    let written = goes_on disk.moment disk.left_since c.args.disk.now c.args.disk.now c.write.new.self P _ begun c.write.ensures.time (λ image left. c.write.ensures.crash image left) in
    goes_on disk.moment disk.left_since c.args.disk.now c.write.new.self c.sync.new.self P _ written c.sync.ensures.time (λ image left. c.write.ensures.crash image (c.sync.ensures.crash image left))
