-- How the calls on what an engine works on stand to the functions of the form machine: what they answer, and what each refusal means. Only want
-- of memory is free.
use Rattle.std.specs.Prelude.{ℕ, suc, ◌≡◌, [], max, Result, Ok, Err}
use Rattle.xf_def_machine.specs.State.{State}
use Rattle.xf_def_machine.specs.Refusal.{Refused}
use Rattle.xf_def_machine.specs.Step.{at_end}
use Rattle.xf_def_machine.specs.declared.refusal.Refusal.{Refusal}
use Rattle.xf_def_machine.specs.Told.{Tells}
use Rattle.xf_def_form.specs.Formed.{profile}
use Rattle.xf_engine_state.specs.declared.fault.WorkFault.{WorkFault}
use Rattle.xf_engine_state.specs.declared.fault.WorkFault.TheVariants as fault
use Rattle.xf_engine_state.specs.Standing.{Standing, state_of}

-- it is refused for this reason, and no call of the store was made
abbrev pub IsRefused : {X : Type 0} → Refusal → Result X Refused → Type 0
IsRefused refusal (Ok x) = ⊥
IsRefused refusal (Err r) = Tells refusal r.why × (r.calls ≡ [])

-- a call that only changes the state, which is this one afterwards
abbrev pub Does : {X : Type 0} → Result X WorkFault → Standing → Result State Refused → Type 0
Does (Ok x) after given = given ≡ Ok (state_of after)
Does (Err (fault.Refused refusal)) after given = IsRefused refusal given
Does (Err fault.Memory) after given = Unit {0}

-- a call that changes the state and gives a value, seen by view
abbrev pub Makes : {X Y : Type 0} → (X → Y) → Result X WorkFault → Standing → Result (Y × State) Refused → Type 0
Makes view (Ok x) after given = given ≡ Ok (view x, state_of after)
Makes view (Err (fault.Refused refusal)) after given = IsRefused refusal given
Makes view (Err fault.Memory) after given = Unit {0}

-- a call that only gives a value, seen by view
abbrev pub Finds : {X Y : Type 0} → (X → Y) → Result X WorkFault → Result Y Refused → Type 0
Finds view (Ok x) given = given ≡ Ok (view x)
Finds view (Err (fault.Refused refusal)) given = IsRefused refusal given
Finds view (Err fault.Memory) given = Unit {0}

-- a state, and how many models were built in it
pub record Stage : Type 0 where
  pub standing : Standing
  pub built : ℕ

-- what stood at the end of the last event, what stands, and how many models are built: what their binds apply is what the table has of them
pub record Twin : Type 0 where
  pub kept : Stage
  pub now : Standing
  pub built : ℕ

-- the end of an event is kept
pub record IsKept (before after : Twin) : Type 0 where
  pub now : state_of after.now ≡ at_end profile (state_of before.now)
  pub kept : after.kept ≡ record { standing = after.now; built = after.built }
  pub built : after.built ≡ before.built

-- how many models are built after the rebuild of one
abbrev pub built_after : {X : Type 0} → Result X WorkFault → ℕ → ℕ → ℕ
built_after (Ok x) model built = max built (suc model)
built_after (Err fault) model built = built
