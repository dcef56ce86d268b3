-- How a call of a world stands to the function of the machine that it means. After a refusal the state is for the caller to put back, but for
-- the calls of the store that were made.
use Rattle.std.specs.Prelude.{◌≡◌, ◌⊎◌, List, [], ◌∷◌, Option, Some, None, Result, Ok, Err}
use Rattle.xf_store.specs.declared.answers.Answer.{Answer}
use Rattle.xf_store.specs.declared.call.StoreCall.{StoreCall}
use Rattle.xf_store.specs.Replay.{Covers}
use Rattle.xf_def_machine.specs.declared.limit.LimitWord.{LimitWord}
use Rattle.xf_def_machine.specs.Refusal.{Refusal, Refused, limit}
use Rattle.xf_def_machine.specs.State.{State}

-- ---- refusals

abbrev pub Among : LimitWord → List LimitWord → Type 0
Among w [] = ⊥
Among w (x ∷ xs) = (w ≡ x) ⊎ Among w xs

-- of limits that are passed at one time any one may be told
abbrev pub IsTold : Refusal → Refusal → Type 0
IsTold told (limit words) = (w : LimitWord) × Among w words × (told ≡ limit (w ∷ []))
IsTold told why = told ≡ why

abbrev pub RefusedAs : {X : Type 0} → Refusal → List StoreCall → Result X Refused → Type 0
RefusedAs told calls (Ok x) = ⊥
RefusedAs told calls (Err r) = IsTold told r.why × (r.calls ≡ calls)

-- a fault that means no refusal is want of memory
unfoldable pub Refuses : {X : Type 0} → Option Refusal → List StoreCall → Result X Refused → Type 0
Refuses None calls given = Unit {0}
Refuses (Some told) calls given = RefusedAs told calls given

-- ---- calls, by the state that stands after them

-- one that only changes the state
abbrev pub Runs : {F T : Type 0} → (F → Option Refusal) → State → Result T F → Result State Refused → Type 0
Runs means new (Ok x) given = given ≡ Ok new
Runs means new (Err fault) given = Refuses (means fault) new.calls given

-- one that changes the state and gives a value, seen by view
abbrev pub Makes : {F T X : Type 0} → (F → Option Refusal) → (T → X) → State → Result T F → Result (X × State) Refused → Type 0
Makes means view new (Ok x) given = given ≡ Ok (view x, new)
Makes means view new (Err fault) given = Refuses (means fault) new.calls given

-- one that changes the state and gives a value, both seen by view
abbrev pub Leaves : {F T X : Type 0} → (F → Option Refusal) → (T → X) → State → Result T F → Result X Refused → Type 0
Leaves means view new (Ok x) given = given ≡ Ok (view x)
Leaves means view new (Err fault) given = Refuses (means fault) new.calls given

-- one that only gives a value
abbrev pub Reads : {F T X : Type 0} → (F → Option Refusal) → (T → X) → State → Result T F → Result X Refused → Type 0
Reads means view now (Ok x) given = given ≡ Ok (view x)
Reads means view now (Err fault) given = Refuses (means fault) now.calls given

-- ---- calls that come to the store: what they mean is told for all answers that cover the calls of the store made in the event so far

-- one that only changes the state
abbrev pub RunsOver : {F T : Type 0} → (F → Option Refusal) → State → Result T F → (List Answer → Result State Refused) → Type 0
RunsOver means new r given = (answers : List Answer) → Covers answers new.calls → Runs means new r (given answers)

-- one that changes the state and gives a value, both seen by view
abbrev pub LeavesOver : {F T X : Type 0} → (F → Option Refusal) → (T → X) → State → Result T F → (List Answer → Result X Refused) → Type 0
LeavesOver means view new r given = (answers : List Answer) → Covers answers new.calls → Leaves means view new r (given answers)
