-- The rows that an event from outside names become the indexed ones.
use Rattle.std.specs.Prelude.{ℕ}
use Rattle.xf_def_machine.specs.Choose.{set_index}
use Rattle.xf_def_machine.specs.Flow.{Run}
use Rattle.xf_def_machine.specs.Profile.{Profile}
use Rattle.xf_def_machine.specs.Surround.{interface}
use Rattle.xf_def_machine.specs.Targets.{model_around}

-- a repeat takes its number, as by setindex
abbrev pub row_taken : Profile → ℕ × ℕ → Run
row_taken p q s = set_index p (model_around (interface s) q.0) q.0 q.1 s
