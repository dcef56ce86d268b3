use Rattle.std.proofs.Common.{refl}
use Rattle.xf_cli_commands.proofs.Ends.{runs_built, runs_not_made}
use Rattle.xf_cli_commands.proofs.Moments.{looks_still}
use Rattle.xf_cli_commands.proofs.run.run_bytes.Goals as goal

pub run_constructed-requires : goal.run_constructed-requires
run_constructed-requires g c = c.in-Ok.ensures

pub returns-in-Ok-clause-runs : goal.returns-in-Ok-clause-runs
returns-in-Ok-clause-runs g c = runs_built c.run_constructed.result c.args.command c.args.bytes.now _ g.C.Starting.first c.in-Ok.constructed c.in-Ok.ensures c.run_constructed.ensures.runs

pub returns-in-Ok-fault_line-clause-runs : goal.returns-in-Ok-fault_line-clause-runs
returns-in-Ok-fault_line-clause-runs g c =
    let d = g.D.Disk in
    runs_not_made c.in-Ok-fault_line.line c.args.command c.args.bytes.now _ c.in-Err.fault g.C.Starting.first c.in-Err.ensures c.in-Ok-fault_line.ensures
    (record {
      unread = record { bytes = refl; faults = refl };
      unwritten = record { bytes = refl; faults = refl };
      uncalled = refl;
      unused = refl;
      looks = looks_still d.moment d.left_since d.tells d.seen d.may_leave g.met.D.Disk.only_now c.args.disk.now;
    })
