-- A form at work of which an event may be pending, and what a session has of it.
use Rattle.std.specs.Prelude.{◌≡◌, Bool, true, false, List, [], Option, Some, None, refl}
use Rattle.std.specs.Coded.{Coded, code_by, coded×, coded_bool}
use Rattle.xf_store.specs.declared.call.StoreCall.{StoreCall}
use Rattle.xf_def_machine.specs.State.{State}
use Rattle.xf_def_machine.specs.Step.{at_end}
use Rattle.xf_def_form.specs.Formed.{profile}

-- a world, and whether an event of it is pending
pub record AtWork (W : Type 0) : Type 0 where
  pub world : W
  pub is_pending : Bool

-- it is stored as the pair of its fields
abbrev pub at_work_code : {W : Type 0} → Coded W → Coded (AtWork W)
at_work_code {W} code = code_by (W × Bool) (coded× code coded_bool) (λ r. (r.world, r.is_pending)) (λ p. record { world = p.0; is_pending = p.1 }) (λ _. refl)

-- no event is handled, no tree is detached, and what stands is kept
pub record IsAtRest (now kept : State) : Type 0 where
  pub whole : at_end profile now ≡ now
  pub stands : kept ≡ now

-- by whether an event is pending, what stands once that is kept
abbrev pub shown_in : Bool → State → State
shown_in true now = at_end profile now
shown_in false now = now

-- what stands again where it is taken back
abbrev pub kept_in : Bool → State → Option State
kept_in true kept = Some (at_end profile kept)
kept_in false kept = None

-- its calls of the store
abbrev pub calls_in : Bool → State → List StoreCall
calls_in true now = now.calls
calls_in false now = []
