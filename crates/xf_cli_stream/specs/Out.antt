-- What goes out to a sink, and whether it is flushed.
use Rattle.std.specs.Prelude.{◌≡◌, ◌⊎◌, List, ℕ}
use Rattle.std.specs.declared.option.Option.{Option as Known}
use Rattle.xf_base.specs.Faults.{Rose}
use Rattle.xf_io.specs.Flushed.{IsFlushed}
use Rattle.xf_cli_stream.specs.declared.lines.Ending.{Ending}
use Rattle.xf_cli_stream.specs.declared.lines.Ending.TheVariants.{SinkFault}

-- what a sink has taken, and how much of that is flushed
abbrev pub Taken : Type 0
Taken = Known (List ℕ) × Known ℕ

-- what was written between is flushed: nothing was, or all that the sink has taken is
abbrev pub IsOut : Taken → Taken → Type 0
IsOut before after = (after ≡ before) ⊎ IsFlushed after.0 after.1

-- the same, unless the sink has counted a fault
abbrev pub IsOutOrFailed : Taken → Taken → ℕ × ℕ → Type 0
IsOutOrFailed before after faults = IsOut before after ⊎ Rose faults.0 faults.1

-- ---- by how the answers end: where a reply could not be written or flushed they end as a fault of the sink

abbrev pub IsAllOut : Ending → Taken → Taken → Type 0
IsAllOut SinkFault before after = Unit {0}
IsAllOut ending before after = IsOut before after

-- no call of the sink failed
abbrev pub IsSteady : Ending → ℕ → ℕ → Type 0
IsSteady SinkFault before after = Unit {0}
IsSteady ending before after = after ≡ before
