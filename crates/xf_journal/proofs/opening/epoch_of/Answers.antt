use Rattle.std.proofs.Common.{◌∙◌, ap}
use Rattle.xf_disk.specs.Image.{in_slot}
use Rattle.xf_journal.specs.Layout.{open_epoch}
use Rattle.xf_journal.proofs.HeaderLemmas.{open_epoch-take, read_front}
use Rattle.xf_journal.proofs.opening.epoch_of.Goals as goal

pub returns-clause-epoch : goal.returns-clause-epoch
returns-clause-epoch g c = λ told.
    let bytes = in_slot c.args.slot (g.D.Disk.seen c.args.disk.now) in
    let read = c.in_ok-count.ensures.bytes told in
    c.open_epoch.ensures ∙ ap open_epoch (read_front c.in_ok-count.count bytes _ c.read.new.into read.0 read.1) ∙ open_epoch-take bytes
