use Rattle.std.proofs.Common.{◌≡◌, ◌+◌, ◌-◌, ◌^◌, min, rules}
use Rattle.xf_disk.specs.Image.{beside}
use Rattle.xf_journal.proofs.RenewLemmas.{ready, either, at_rest}
use Rattle.xf_journal.proofs.journal.Journal.renew.Goals as goal

pub returns-clause-each_moment : goal.returns-clause-each_moment
returns-clause-each_moment g c = λ told log may.
    let d = g.D.Disk in
    let slot : c.beside.result ≡ beside c.args.self.now.slot = c.beside.ensures in
    let epoch : c.saturating_add-epoch.result ≡ min (c.args.self.now.epoch + 1) (2 ^ 64 - 1) = search rules in
    let r = ready d.seen d.may_leave d.moment d.left_since c.args.self.now log c.args.image.now c.args.disk.now may c.beside.result c.saturating_add-epoch.result slot epoch in
    either d.seen d.may_leave d.moment d.left_since c.args.self.now log c.args.image.now c.args.disk.now may c.beside.result c.saturating_add-epoch.result slot epoch c.create.new.disk (c.create.ensures.each_moment told r)

pub returns-clause-done : goal.returns-clause-done
returns-clause-done g c = λ told log may.
    let d = g.D.Disk in
    let slot : c.beside.result ≡ beside c.args.self.now.slot = c.beside.ensures in
    let epoch : c.saturating_add-epoch.result ≡ min (c.args.self.now.epoch + 1) (2 ^ 64 - 1) = search rules in
    let r = ready d.seen d.may_leave d.moment d.left_since c.args.self.now log c.args.image.now c.args.disk.now may c.beside.result c.saturating_add-epoch.result slot epoch in
    at_rest d.seen d.may_leave d.moment d.left_since c.args.self.now log c.args.image.now c.args.disk.now may c.beside.result c.saturating_add-epoch.result slot epoch c.create.new.disk c.create.result (c.create.ensures.done told r)
