-- What is tried before the text of a control is set, a trigger activated and an index set.
use Rattle.std.specs.Prelude.{ℕ, not, List, codes, Option, Result, Ok}
use Rattle.xf_def_ui.specs.Index.{rows_now}
use Rattle.xf_def_machine.specs.Events.{Fired, plainly}
use Rattle.xf_def_machine.specs.Profile.{Profile}
use Rattle.xf_def_machine.specs.State.{State}
use Rattle.xf_def_machine.specs.Refusal.{Refused, bad_index, disabled, or_long}
use Rattle.xf_def_machine.specs.Flow.{Run, ◌>>=◌}
use Rattle.xf_def_machine.specs.Surround.{interface, quiet}
use Rattle.xf_def_machine.specs.Targets.{copy_named, unless}
use Rattle.xf_def_machine.specs.Step.{is_row, try_set}

-- the node that the copy binds, where the text may be set
abbrev pub node_tried : Profile → ℕ → List ℕ → List ℕ → State → Result (Option ℕ) Refused
node_tried p n rows text s = copy_named p s n rows >>= λ c. try_set n c text s >>= λ t. Ok c.node

-- the event that tells the copy, where it is enabled
abbrev pub activation_tried : Profile → ℕ → List ℕ → State → Result Fired Refused
activation_tried p n rows s = copy_named p s n rows >>= λ c. unless (not c.enabled) disabled s >>= λ t. Ok (plainly (codes "DOMActivate") n c.rows)

-- the number is one of the rows
abbrev pub index_tried : Profile → ℕ → ℕ → Run
index_tried p r k s = or_long s (rows_now (interface s) (quiet p s) s.indexes r) >>= λ rows. unless (not (is_row rows k)) bad_index s
