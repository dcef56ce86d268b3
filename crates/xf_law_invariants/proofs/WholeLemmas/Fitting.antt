-- What is so of each state to which a change may come, where the change is told why it is made.
use Rattle.std.proofs.Common.{◌≡◌, Bool, true, false, Option, Some, None, Result, refl, if◌then◌else◌}
use Rattle.xf_def_machine.specs.State.{State}
use Rattle.xf_def_machine.specs.Refusal.{Refused}
use Rattle.xf_def_machine.specs.Flow.{Run, where_some}
use Rattle.xf_law_machine.proofs.RestLemmas.Holds.{Held}

-- of what there is
pub held-some-is : {X : Type 0} (P : State → Type 0) (o : Option X) (run : X → Run) (s : State) → P s → ((x : X) → o ≡ Some x → Held P (run x s)) → Held P (where_some o run s)
held-some-is P None run s h k = h
held-some-is P (Some x) run s h k = k x refl

-- where a test says so
pub held-if-is : {X : Type 0} (P : X → Type 0) (b : Bool) (r q : Result X Refused) → (b ≡ true → Held P r) → Held P q → Held P (if b then r else q)
held-if-is P true r q h k = h refl
held-if-is P false r q h k = k
