use Rattle.std.proofs.Common.{refl}
use Rattle.xf_def_form.specs.Formed.{program_in}
use Rattle.xf_cli_commands.specs.Device.{device_of}
use Rattle.xf_cli_commands.specs.Finish.{Objects}
use Rattle.xf_cli_commands.specs.Outside.{object_of, stored_of}
use Rattle.xf_cli_commands.proofs.Ends.{built_of, not_answered, not_shown, ran_by, shown_by, tried_by}
use Rattle.xf_cli_commands.proofs.FormBytes.{small}
use Rattle.xf_cli_commands.proofs.run.run_constructed.Goals as goal

pub run_session-requires : goal.run_session-requires
run_session-requires g c = record { small = small c.args.bytes.now c.requires.0 c.requires.1 }

pub returns-in-Run-clause-runs : goal.returns-in-Run-clause-runs
returns-in-Run-clause-runs g c = λ l e built.
    ran_by c.args.command l c.args.bytes.now (g.C.Starting.first c.args.constructed) c.run_session.result _ c.in-Run.is built
    (c.run_session.ensures.runs (program_in l) (built_of c.args.bytes.now l (g.C.Starting.first c.args.constructed) e built))

pub returns-in-Try-clause-runs : goal.returns-in-Try-clause-runs
returns-in-Try-clause-runs g c = λ l e built.
    tried_by c.args.command l c.args.bytes.now (g.C.Starting.first c.args.constructed) c.try_form.result _ c.in-Try.is refl built c.try_form.ensures.runs

pub returns-in-Show-clause-runs : goal.returns-in-Show-clause-runs
returns-in-Show-clause-runs g c = λ l e built.
    shown_by c.args.command l c.args.bytes.now (g.C.Starting.first c.args.constructed) c.show_session.result _ c.in-Show.is built
    (record { bytes = refl; faults = refl }) refl (c.show_session.ensures.runs (program_in l) (built_of c.args.bytes.now l (g.C.Starting.first c.args.constructed) e built))

pub returns-in-Check-clause-runs : goal.returns-in-Check-clause-runs
returns-in-Check-clause-runs g c = λ l e built.
    (record { unread = record { bytes = refl; faults = refl }; unwritten = refl }, c.in-Check.is, ((g.C.Starting.first c.args.constructed), built), refl, refl)

pub returns-in-Run-clause-unshown : goal.returns-in-Run-clause-unshown
returns-in-Run-clause-unshown g c = λ e.
    let l = c.requires.0 in
    let built = built_of c.args.bytes.now l (g.C.Starting.first c.args.constructed) c.requires.1 c.requires.2 in
    let d = g.D.Disk in
    let o : Objects = record {
      events = object_of (g.E.Source.left c.args.events.now) (g.E.Source.left c.run_session.new.events) (g.E.Source.faults c.args.events.now) (g.E.Source.faults c.run_session.new.events);
      out = object_of (g.O.Sink.taken c.args.out.now) (g.O.Sink.taken c.run_session.new.out) (g.O.Sink.faults c.args.out.now) (g.O.Sink.faults c.run_session.new.out);
      store = stored_of (g.S.Store.calls c.args.store.now, g.S.Store.to_come c.args.store.now) (g.S.Store.calls c.run_session.new.store, g.S.Store.to_come c.run_session.new.store);
      disk = device_of d.tells d.seen d.may_leave d.moment d.left_since d.faults c.args.disk.now c.run_session.new.disk;
    } in
    not_shown c.args.bytes.now (program_in l) o c.run_session.result (c.run_session.ensures.runs (program_in l) built) e

pub returns-in-Show-clause-read : goal.returns-in-Show-clause-read
returns-in-Show-clause-read g c = λ e.
    let l = c.requires.0 in
    let built = built_of c.args.bytes.now l (g.C.Starting.first c.args.constructed) c.requires.1 c.requires.2 in
    let d = g.D.Disk in
    let disk = device_of d.tells d.seen d.may_leave d.moment d.left_since d.faults c.args.disk.now c.show_session.new.disk in
    let out = object_of (g.O.Sink.taken c.args.out.now) (g.O.Sink.taken c.show_session.new.out) (g.O.Sink.faults c.args.out.now) (g.O.Sink.faults c.show_session.new.out) in
    not_answered c.args.bytes.now (program_in l) disk out c.show_session.result _ (c.show_session.ensures.runs (program_in l) built) e

pub returns-in-Show-clause-written : goal.returns-in-Show-clause-written
returns-in-Show-clause-written g c = λ e.
    let l = c.requires.0 in
    let built = built_of c.args.bytes.now l (g.C.Starting.first c.args.constructed) c.requires.1 c.requires.2 in
    let d = g.D.Disk in
    let disk = device_of d.tells d.seen d.may_leave d.moment d.left_since d.faults c.args.disk.now c.show_session.new.disk in
    let out = object_of (g.O.Sink.taken c.args.out.now) (g.O.Sink.taken c.show_session.new.out) (g.O.Sink.faults c.args.out.now) (g.O.Sink.faults c.show_session.new.out) in
    not_answered c.args.bytes.now (program_in l) disk out c.show_session.result _ (c.show_session.ensures.runs (program_in l) built) e

pub returns-in-Show-clause-kept : goal.returns-in-Show-clause-kept
returns-in-Show-clause-kept g c = λ e.
    let l = c.requires.0 in
    let built = built_of c.args.bytes.now l (g.C.Starting.first c.args.constructed) c.requires.1 c.requires.2 in
    let d = g.D.Disk in
    let disk = device_of d.tells d.seen d.may_leave d.moment d.left_since d.faults c.args.disk.now c.show_session.new.disk in
    let out = object_of (g.O.Sink.taken c.args.out.now) (g.O.Sink.taken c.show_session.new.out) (g.O.Sink.faults c.args.out.now) (g.O.Sink.faults c.show_session.new.out) in
    not_answered c.args.bytes.now (program_in l) disk out c.show_session.result _ (c.show_session.ensures.runs (program_in l) built) e
