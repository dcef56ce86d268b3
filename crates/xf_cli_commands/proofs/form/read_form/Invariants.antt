use Rattle.std.proofs.Common.{◌≤◌, ◌-◌, ◌+◌, ◌^◌, length}
use Rattle.std.specs.Io.KnownBytes.{Consumes}
use Rattle.xf_cli_commands.proofs.form.read_form.Given as goal

abbrev pub invariant-loop-buffer : goal.invariant-loop-buffer
invariant-loop-buffer g l = record {
  taken : Consumes (g.F.Source.left l.fn.form) (g.F.Source.left l.form) l.bytes;
  within : length l.bytes ≤ 2 ^ 20 + 1;
  later : g.F.Source.faults l.fn.form ≤ g.F.Source.faults l.form;
}

abbrev pub decreases-loop-buffer : goal.decreases-loop-buffer
decreases-loop-buffer g l = 2 ^ 20 + 1 - length l.bytes
