use Rattle.std.proofs.Common.{refl}
use Rattle.xf_cli_commands.specs.Device.{device_of}
use Rattle.xf_cli_commands.specs.Outside.{object_of}
use Rattle.xf_cli_commands.proofs.Ends.{shows_by}
use Rattle.xf_cli_commands.proofs.run.show_session.Goals as goal

pub show-status-requires : goal.show-status-requires
show-status-requires g c = c.in-Session.ensures.idle

pub returns-in-Session-clause-runs : goal.returns-in-Session-clause-runs
returns-in-Session-clause-runs g c = λ program built.
    let shows = c.in-Session.ensures.opens program built in
    let d = g.D.Disk in
    let disk = device_of d.tells d.seen d.may_leave d.moment d.left_since d.faults c.args.disk.now c.reopen.new.disk in
    let out = object_of (g.O.Sink.taken c.args.out.now) (g.O.Sink.taken c.show-status.new.out) (g.O.Sink.faults c.args.out.now) (g.O.Sink.faults c.show-status.new.out) in
    shows_by c.args.bytes.now program disk out _ c.show-status.result c.show-status.ensures.shows (λ told. shows.1 told _ refl) shows.2
