-- A disk that stops after so many calls.
use Rattle.std.specs.Prelude.{◌≡◌, ◌<◌, ℕ, ◌-◌, Result, IsErr}
use Rattle.xf_base.specs.Faults.{HasCause}

-- a call where so many are left: where none is, it fails and the disk below is not called; else it fails only where that
-- disk does
pub record PassesOn {D T E : Type 0} (faults : D → ℕ) (left rest : ℕ) (old new : D) (result : Result T E) : Type 0 where
  pub blown : left ≡ 0 → IsErr result × (new ≡ old)
  pub passed : 0 < left → HasCause (faults old) (faults new) result
  pub counted : rest ≡ left - 1
