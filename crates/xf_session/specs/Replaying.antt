-- Entries that are played again.
use Rattle.std.specs.Prelude.{◌≡◌, ◌≤◌, ℕ, Bool, IsTrue, true, false, ◌&&◌, if◌then◌else◌, List, [], ◌∷◌, length, sum_by, Option, Some, None, Result, Ok, Err}
use Rattle.std.specs.List.{list_all}
use Rattle.xf_base.specs.Faults.{Rose}
use Rattle.xf_store.specs.Replies.{is_short}
use Rattle.xf_store.specs.declared.answers.Answer.{Answer}
use Rattle.xf_journal.specs.declared.entry.Accepted.{Accepted}
use Rattle.xf_journal.specs.declared.image.Image as written
use Rattle.xf_journal.specs.Entry.{answers_bytes, written_bytes, are_within}
use Rattle.xf_journal.specs.declared.fault.JournalFault.{JournalFault}
use Rattle.xf_journal.specs.declared.fault.JournalFault.TheVariants as journal
use Rattle.xf_journal.specs.Held.{Log}
use Rattle.xf_journal.specs.Scanned.{scanned_of}
use Rattle.xf_def_machine.specs.Profile.{Profile}
use Rattle.xf_def_machine.specs.State.{State}
use Rattle.xf_def_machine.specs.Run.{same_answer}
use Rattle.xf_def_sessions.specs.Images.{answers_at_base, item_of}
use Rattle.xf_def_sessions.specs.Sessions as history
use Rattle.xf_def_sessions.specs.Opening.{Opened, opened, other_form, damaged, difference_from, base_offset, state_after}
use Rattle.xf_session.specs.declared.fault.OpenFault.{OpenFault}
use Rattle.xf_session.specs.declared.fault.OpenFault.TheVariants.{Refused, OtherForm, Damaged, NoSession, DiskFault, Memory}
use Rattle.xf_session.specs.declared.looking.Found.{Found}
use Rattle.xf_session.specs.Opening.{adoptions_offset, counts_wrongly}

-- ---- answers

-- they are the same, one by one
abbrev pub same_answers : List Answer → List Answer → Bool
same_answers [] [] = true
same_answers (answer ∷ answers) (other ∷ others) = same_answer answer other && same_answers answers others
same_answers answers others = false

-- the state, where they are
abbrev pub where_same : List Answer → List Answer → State → Option State
where_same given kept s = if same_answers given kept then Some s else None

-- ---- entries

abbrev pub then_played : State → List Accepted → (State → State × List Accepted) → Option State → State × List Accepted
then_played s entries rest None = (s, entries)
then_played s entries rest (Some t) = rest t

-- the state after those that are taken, and the entries from the first on that is not
abbrev pub played : Profile → State → List Accepted → State × List Accepted
played p s [] = (s, [])
played p s (entry ∷ entries) = then_played s (entry ∷ entries) (λ t. played p t entries) (state_after p s (item_of entry))

-- the bytes that entries take
abbrev pub taken_bytes : List Accepted → ℕ
taken_bytes entries = sum_by (λ (entry : Accepted). length (written_bytes entry.line entry.answers)) entries

-- ---- the slots

-- a session that has only started, as it is written
abbrev pub start_image : List ℕ → List Answer → written.Image
start_image form answers = record { adoptions = 0; form = form; base = 0 ∷ answers_bytes answers }

-- the count of adoptions is damage
abbrev pub IsCountedWrongly : Log → Result Found OpenFault → Type 0
IsCountedWrongly log (Ok found) = ⊥
IsCountedWrongly log (Err (Refused refusal)) = ⊥
IsCountedWrongly log (Err (OtherForm at)) = ⊥
IsCountedWrongly log (Err (Damaged slot at)) = (slot ≡ log.kept.slot) × (at ≡ adoptions_offset)
IsCountedWrongly log (Err NoSession) = ⊥
IsCountedWrongly log (Err DiskFault) = ⊥
IsCountedWrongly log (Err Memory) = Unit {0}

-- where the form is the one that is opened, and the base is a start: what was read of the slots, with the answers of the start
abbrev pub IsRead : List ℕ → Log → Result Found OpenFault → Type 0
IsRead bytes log (Ok found) = (found.scanned ≡ scanned_of log) × (difference_from 0 log.kept.form bytes ≡ None) × (answers_at_base log.kept.base ≡ Some found.answers)
IsRead bytes log (Err (Refused refusal)) = ⊥
IsRead bytes log (Err (OtherForm at)) = difference_from 0 log.kept.form bytes ≡ Some at
IsRead bytes log (Err (Damaged slot at)) = (difference_from 0 log.kept.form bytes ≡ None) × (answers_at_base log.kept.base ≡ None) × (slot ≡ log.kept.slot) × (at ≡ base_offset log)
IsRead bytes log (Err NoSession) = ⊥
IsRead bytes log (Err DiskFault) = ⊥
IsRead bytes log (Err Memory) = Unit {0}

abbrev pub IsFoundCounted : Bool → List ℕ → Log → Result Found OpenFault → Type 0
IsFoundCounted true bytes log result = IsCountedWrongly log result
IsFoundCounted false bytes log result = IsRead bytes log result

-- what is found in a journal
abbrev pub IsFound : List ℕ → Log → Result Found OpenFault → Type 0
IsFound bytes log result = IsFoundCounted (counts_wrongly log) bytes log result

-- what was read is within the limits of a journal
pub record IsFoundWithin (found : Found) : Type 0 where
  pub entries : IsTrue (are_within found.scanned.entries)
  pub answers : IsTrue (list_all is_short found.answers)

-- no fault of the disk
abbrev pub IsOfReading : OpenFault → Type 0
IsOfReading (Refused refusal) = ⊥
IsOfReading (OtherForm at) = Unit {0}
IsOfReading (Damaged slot at) = Unit {0}
IsOfReading NoSession = ⊥
IsOfReading DiskFault = ⊥
IsOfReading Memory = Unit {0}

-- faults that a session has that the slots hold: not of a start that is refused, and not that they hold none
abbrev pub IsOfLooking : OpenFault → Type 0
IsOfLooking (Refused refusal) = ⊥
IsOfLooking (OtherForm at) = Unit {0}
IsOfLooking (Damaged slot at) = Unit {0}
IsOfLooking NoSession = ⊥
IsOfLooking DiskFault = Unit {0}
IsOfLooking Memory = Unit {0}

-- by a fault of the slots
abbrev pub IsDamagedAs : JournalFault → Result (Option Found) OpenFault → Type 0
IsDamagedAs fault (Ok found) = ⊥
IsDamagedAs fault (Err (Refused refusal)) = ⊥
IsDamagedAs fault (Err (OtherForm at)) = ⊥
IsDamagedAs fault (Err (Damaged slot at)) = fault ≡ journal.Damaged slot at
IsDamagedAs fault (Err NoSession) = ⊥
IsDamagedAs fault (Err DiskFault) = Unit {0}
IsDamagedAs fault (Err Memory) = Unit {0}

-- closed slots
abbrev pub IsNoneFound : Result (Option Found) OpenFault → Type 0
IsNoneFound (Ok None) = Unit {0}
IsNoneFound (Ok (Some found)) = ⊥
IsNoneFound (Err (Refused refusal)) = ⊥
IsNoneFound (Err (OtherForm at)) = ⊥
IsNoneFound (Err (Damaged slot at)) = ⊥
IsNoneFound (Err NoSession) = ⊥
IsNoneFound (Err DiskFault) = Unit {0}
IsNoneFound (Err Memory) = Unit {0}

abbrev pub IsSomeFound : List ℕ → Log → Result (Option Found) OpenFault → Type 0
IsSomeFound bytes log (Ok None) = ⊥
IsSomeFound bytes log (Ok (Some found)) = IsFound bytes log (Ok found)
IsSomeFound bytes log (Err DiskFault) = Unit {0}
IsSomeFound bytes log (Err Memory) = Unit {0}
IsSomeFound bytes log (Err fault) = IsFound bytes log (Err fault)

-- what is found in slots that hold this
abbrev pub Looks : List ℕ → Result (Option Log) JournalFault → Result (Option Found) OpenFault → Type 0
Looks bytes (Err fault) result = IsDamagedAs fault result
Looks bytes (Ok None) result = IsNoneFound result
Looks bytes (Ok (Some log)) result = IsSomeFound bytes log result

-- the disk was at fault where the answer says so
pub record HasOpenCause {T : Type 0} (before now : ℕ) (result : Result T OpenFault) : Type 0 where
  pub later : before ≤ now
  pub failed : result ≡ Err DiskFault → Rose before now

-- by what opening gives, of something in a state
abbrev pub Reopens : {T : Type 0} → (T → State) → Opened → Result T OpenFault → Type 0
Reopens state found (Ok value) = (s : history.Session) × (found ≡ opened s) × (state value ≡ s.state)
Reopens state found (Err (Refused refusal)) = ⊥
Reopens state found (Err (OtherForm at)) = found ≡ other_form at
Reopens state found (Err (Damaged slot at)) = found ≡ damaged slot at
Reopens state found (Err NoSession) = ⊥
Reopens state found (Err DiskFault) = ⊥
Reopens state found (Err Memory) = Unit {0}
