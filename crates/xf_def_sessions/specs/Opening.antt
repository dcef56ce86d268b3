-- What opening two slots gives: the session that they hold, or why there is none. The state that a snapshot gives is one at rest with its data, of which
-- the numbers of nodes are left free: so this is a relation.
use Rattle.std.specs.Prelude.{ℕ, suc, ◌≡◌, ◌⊎◌, ◌<◌, ◌+◌, ◌-◌, ◌^◌, List, [], ◌∷◌, length, sum_by, Option, Some, None, Result, Ok, Err, ◌==◌, if◌then◌else◌}
use Rattle.xf_disk.specs.declared.slot.Slot.{Slot}
use Rattle.xf_disk.specs.Image.{Image}
use Rattle.xf_store.specs.declared.answers.Answer.{Answer}
use Rattle.xf_journal.specs.declared.entry.Accepted.{Accepted}
use Rattle.xf_journal.specs.declared.fault.JournalFault.{JournalFault}
use Rattle.xf_journal.specs.declared.fault.JournalFault.TheVariants.{DiskFault, Damaged, Memory}
use Rattle.xf_journal.specs.Entry.{written_bytes}
use Rattle.xf_journal.specs.Held.{Log, held}
use Rattle.xf_snap.specs.declared.snap.Snap.{Snap}
use Rattle.xf_def_machine.specs.Profile.{Profile}
use Rattle.xf_def_machine.specs.Program.{Program}
use Rattle.xf_def_machine.specs.State.{State}
use Rattle.xf_def_machine.specs.Refusal.{Refused}
use Rattle.xf_def_machine.specs.Construct.{construct}
use Rattle.xf_def_machine.specs.Start.{start}
use Rattle.xf_def_machine.specs.Step.{step}
use Rattle.xf_def_machine.specs.Run.{if_exact}
use Rattle.xf_def_sessions.specs.Sessions.{Machine, IsSessionState, Session, snap_of, fresh_session}
use Rattle.xf_def_sessions.specs.Runs.{Item, line}
use Rattle.xf_def_sessions.specs.Images.{item_of, answers_at_base, snap_at_base}

-- how an opening ends
pub data Opened : Type 0 where
  opened : Session → Opened
  no_session : Opened
  -- the first place at which the bytes of the two forms differ
  other_form : ℕ → Opened
  damaged : Slot → ℕ → Opened

-- ---- the form

-- the first place at which the bytes differ: the end of the shorter where one is a front of the other
abbrev pub difference_from : ℕ → List ℕ → List ℕ → Option ℕ
difference_from at [] [] = None
difference_from at [] (c ∷ cs) = Some at
difference_from at (b ∷ bs) [] = Some at
difference_from at (b ∷ bs) (c ∷ cs) = if b == c then difference_from (suc at) bs cs else Some at

-- ---- offsets in the slot

-- the gate of the first entry
abbrev pub first_gate : Log → ℕ
first_gate log = log.gate - sum_by (λ (entry : Accepted). length (written_bytes entry.line entry.answers)) log.kept.entries

-- where the base begins
abbrev pub base_offset : Log → ℕ
base_offset log = first_gate log - length log.kept.base

-- ---- the base

-- accepted events that a base may have
abbrev pub base_limit : ℕ
base_limit = 2 ^ 62

-- a snapshot: of few enough accepted events, and this state is one at rest with its data
pub record IsRestored (p : Profile) (program : Program) (kept : Snap) (s : State) : Type 0 where
  pub few : kept.accepted < base_limit
  pub stands : IsSessionState p s
  pub form : s.form ≡ program
  pub snap : snap_of s ≡ kept

-- the base gives this state: by a start with exactly the answers in it, or by a snapshot
abbrev pub Gives : Profile → Program → List ℕ → State → Type 0
Gives p form base s =
    ((answers : List Answer) × (answers_at_base base ≡ Some answers) × (if_exact answers (start p form answers) ≡ Some s))
    ⊎ ((snap : Snap) × (snap_at_base base ≡ Some snap) × IsRestored p form snap s)

-- ---- the entries

-- an entry that is accepted with exactly its answers
abbrev pub state_after : Profile → State → Option Item → Option State
state_after p s (Some (line event answers)) = if_exact answers (step p s event answers)
state_after p s item = None

-- behind the last entry
abbrev pub at_cut : Slot → Option ℕ → Session → Opened
at_cut slot None s = opened s
at_cut slot (Some at) s = damaged slot at

-- what comes of the entries behind one that left this state, or the damage at its gate
abbrev pub then_entries : Log → ℕ → (State → Opened) → Option State → Opened
then_entries log at rest None = damaged log.kept.slot at
then_entries log at rest (Some s) = rest s

-- from an entry on, whose gate stands at this offset: the damage is at the gate of the first that is no event or is not accepted so
abbrev pub replayed : Profile → Log → List Accepted → ℕ → State → Opened
replayed p log [] at s = at_cut log.kept.slot log.cut (fresh_session log.kept.form log.kept.adoptions s)
replayed p log (entry ∷ entries) at s =
    then_entries log at (replayed p log entries (at + length (written_bytes entry.line entry.answers))) (state_after p s (item_of entry))

-- ---- the whole

-- of the form that the journal has
abbrev pub OpensBase : Profile → Program → Log → Opened → Type 0
OpensBase p form log result =
    ((s : State) × Gives p form log.kept.base s × (result ≡ replayed p log log.kept.entries (first_gate log) s))
    ⊎ (((s : State) → Gives p form log.kept.base s → ⊥) × (result ≡ damaged log.kept.slot (base_offset log)))

abbrev pub OpensForm : Profile → Program → Log → Option ℕ → Opened → Type 0
OpensForm p form log (Some at) result = result ≡ other_form at
OpensForm p form log None result = OpensBase p form log result

abbrev pub OpensHeld : Profile → List ℕ → Program → Result (Option Log) JournalFault → Opened → Type 0
OpensHeld p bytes form (Err (Damaged slot at)) result = result ≡ damaged slot at
OpensHeld p bytes form (Err DiskFault) result = ⊥
OpensHeld p bytes form (Err Memory) result = ⊥
OpensHeld p bytes form (Ok None) result = result ≡ no_session
OpensHeld p bytes form (Ok (Some log)) result = OpensForm p form log (difference_from 0 log.kept.form bytes) result

-- for a form with these bytes
abbrev pub Opens : Profile → List ℕ → Program → Image → Opened → Type 0
Opens p bytes form image result = OpensHeld p bytes form (held image) result

-- ---- under the form that the slots hold

-- where the form begins
abbrev pub form_offset : Log → ℕ
form_offset log = base_offset log - length log.kept.form

-- of a form that is constructed: else the damage is where it begins
abbrev pub OpensBuilt : Profile → Program → Log → Result State Refused → Opened → Type 0
OpensBuilt p form log (Err refusal) result = result ≡ damaged log.kept.slot (form_offset log)
OpensBuilt p form log (Ok first) result = OpensBase p form log result

-- of one that can be read
abbrev pub OpensRead : Profile → Log → Option Program → Opened → Type 0
OpensRead p log None result = result ≡ damaged log.kept.slot (form_offset log)
OpensRead p log (Some form) result = OpensBuilt p form log (construct p form) result

abbrev pub OpensOwnHeld : Machine → Result (Option Log) JournalFault → Opened → Type 0
OpensOwnHeld m (Err (Damaged slot at)) result = result ≡ damaged slot at
OpensOwnHeld m (Err DiskFault) result = ⊥
OpensOwnHeld m (Err Memory) result = ⊥
OpensOwnHeld m (Ok None) result = result ≡ no_session
OpensOwnHeld m (Ok (Some log)) result = OpensRead m.profile log (m.form_in log.kept.form) result

-- whatever form that is: so an adoption opens them
abbrev pub OpensOwn : Machine → Image → Opened → Type 0
OpensOwn m image result = OpensOwnHeld m (held image) result
