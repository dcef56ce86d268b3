use Rattle.std.proofs.Common.{map, refl, string_bytes, subst, sym}
use Rattle.xf_store.specs.Called.{Told}
use Rattle.xf_cli_commands.specs.Device.{device_of}
use Rattle.xf_cli_commands.specs.Outside.{Outside, object_of, stored_of}
use Rattle.xf_cli_commands.proofs.Ends.{runs_bytes, runs_out}
use Rattle.xf_cli_commands.proofs.Moments.{looks_still}
use Rattle.xf_cli_commands.specs.Finish.{GivesReading}
use Rattle.xf_cli_commands.specs.declared.form.Reading.TheVariants as reading
use Rattle.xf_cli_commands.proofs.run.run.Goals as goal

pub returns-in-All-clause-runs : goal.returns-in-All-clause-runs
returns-in-All-clause-runs g c =
    let runs = c.run_bytes.ensures in
    let read = subst (λ b. GivesReading (g.F.Source.left c.args.form.now) (g.F.Source.left c.read_form.new.form) (reading.All b)) (sym c.as_slice.ensures) c.in-All.ensures.bytes in
    runs_bytes c.run_bytes.result c.in-Some.command _ _ c.in-Some.ensures c.in-All.ensures.left read runs.runs runs.read runs.written runs.unshown runs.kept runs.steady

pub returns-in-Memory-clause-runs : goal.returns-in-Memory-clause-runs
returns-in-Memory-clause-runs g c =
    let d = g.D.Disk in
    let told : Told = (g.S.Store.calls c.args.store.now, g.S.Store.to_come c.args.store.now) in
    let outside : Outside = record {
      words = map string_bytes c.args.words.now;
      form = object_of (g.F.Source.left c.args.form.now) (g.F.Source.left c.read_form.new.form) (g.F.Source.faults c.args.form.now) (g.F.Source.faults c.read_form.new.form);
      events = object_of (g.E.Source.left c.args.events.now) (g.E.Source.left c.args.events.now) (g.E.Source.faults c.args.events.now) (g.E.Source.faults c.args.events.now);
      out = object_of (g.O.Sink.taken c.args.out.now) (g.O.Sink.taken c.args.out.now) (g.O.Sink.faults c.args.out.now) (g.O.Sink.faults c.args.out.now);
      store = stored_of told told;
      disk = device_of d.tells d.seen d.may_leave d.moment d.left_since d.faults c.args.disk.now c.args.disk.now;
    } in
    runs_out c.in-Some.command outside c.in-Some.ensures c.read_form.ensures.left (record { bytes = refl; faults = refl }) (record { bytes = refl; faults = refl }) refl refl
    (looks_still d.moment d.left_since d.tells d.seen d.may_leave g.met.D.Disk.only_now c.args.disk.now)
