-- What opening two slots gives to a session that is played again from its start: then the very numbers of its nodes come back, and so this is a
-- function. A base that is no start is damage.
use Rattle.std.specs.Prelude.{ℕ, zero, suc, Bool, true, false, List, [], ◌∷◌, ◌&&◌, nat_lt, Option, Some, None, Result, Ok, Err}
use Rattle.xf_disk.specs.Image.{Image}
use Rattle.xf_store.specs.declared.answers.Answer.{Answer}
use Rattle.xf_journal.specs.declared.fault.JournalFault.{JournalFault}
use Rattle.xf_journal.specs.declared.fault.JournalFault.TheVariants.{DiskFault, Damaged, Memory}
use Rattle.xf_journal.specs.Held.{Log, held}
use Rattle.xf_def_machine.specs.Profile.{Profile}
use Rattle.xf_def_machine.specs.Program.{Program}
use Rattle.xf_def_machine.specs.State.{State}
use Rattle.xf_def_machine.specs.Run.{if_exact}
use Rattle.xf_def_machine.specs.Start.{start}
use Rattle.xf_def_sessions.specs.Images.{answers_at_base}
use Rattle.xf_def_sessions.specs.Opening.{Opened, no_session, other_form, damaged, difference_from, base_offset, first_gate, replayed}

-- the state after the start with exactly the answers of a base
abbrev pub start_with : Profile → Program → Option (List Answer) → Option State
start_with p form None = None
start_with p form (Some answers) = if_exact answers (start p form answers)

-- the entries are played again from there
abbrev pub opening_from : Profile → Log → Option State → Opened
opening_from p log None = damaged log.kept.slot (base_offset log)
opening_from p log (Some s) = replayed p log log.kept.entries (first_gate log) s

-- where the forms do not differ
abbrev pub opening_form : Profile → Program → Log → Option ℕ → Opened
opening_form p form log (Some at) = other_form at
opening_form p form log None = opening_from p log (start_with p form (answers_at_base log.kept.base))

-- ---- adoptions

-- a base that is a start
abbrev pub begins_start : List ℕ → Bool
begins_start (zero ∷ bytes) = true
begins_start base = false

-- no adoption stands before a start: a count of them that is not 0 is damage where it stands
abbrev pub adoptions_offset : ℕ
adoptions_offset = 21

abbrev pub counts_wrongly : Log → Bool
counts_wrongly log = nat_lt 0 log.kept.adoptions && begins_start log.kept.base

abbrev pub opening_counted : Profile → List ℕ → Program → Log → Bool → Opened
opening_counted p bytes form log true = damaged log.kept.slot adoptions_offset
opening_counted p bytes form log false = opening_form p form log (difference_from 0 log.kept.form bytes)

-- ---- the whole

-- slots are damaged, or are not: what they hold has no other fault
abbrev pub damaged_by : JournalFault → Opened
damaged_by (Damaged slot at) = damaged slot at
damaged_by DiskFault = no_session
damaged_by Memory = no_session

abbrev pub opening_held : Profile → List ℕ → Program → Result (Option Log) JournalFault → Opened
opening_held p bytes form (Err fault) = damaged_by fault
opening_held p bytes form (Ok None) = no_session
opening_held p bytes form (Ok (Some log)) = opening_counted p bytes form log (counts_wrongly log)

-- for a form with these bytes
abbrev pub opening : Profile → List ℕ → Program → Image → Opened
opening p bytes form image = opening_held p bytes form (held image)
