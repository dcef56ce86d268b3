-- The words of the command line, and the number and the line of each status.
use Rattle.std.specs.Prelude.{ℕ, ◌≡◌, ◌⊎◌, ◌<◌, List, [], ◌∷◌, ◌++◌, length, codes, decimal, string_bytes, ◌==◌, if◌then◌else◌}
use Rattle.std.specs.Io.KnownBytes.{Appends}
use Rattle.xf_base.specs.Faults.{Rose}
use Rattle.xf_cli_stream.specs.declared.lines.Ending.{Ending}
use Rattle.xf_cli_stream.specs.declared.lines.Ending.TheVariants.{Done, ReadFault, SinkFault, DiskFault, TooMuch, Memory}
use Rattle.xf_disk.specs.declared.slot.Slot.{Slot}
use Rattle.xf_disk.specs.declared.slot.Slot.TheVariants.{A, B}
use Rattle.xf_def_machine.specs.Written.{IsFront}
use Rattle.xf_cli_commands.specs.declared.status.Command.{Command}
use Rattle.xf_cli_commands.specs.declared.status.Command.TheVariants.{Run, Try, Show, Check}
use Rattle.xf_cli_commands.specs.declared.status.Status.{Status}
use Rattle.xf_cli_commands.specs.declared.status.Status.TheVariants.{Usage, Refused, Checked, Unread, DiskFailed, NotOpened, Shown, NotShown, NoRoom, Answered}
use Rattle.xf_cli_commands.specs.declared.status.SessionFault.{SessionFault}
use Rattle.xf_cli_commands.specs.declared.status.SessionFault.TheVariants as session
use Rattle.xf_cli_commands.specs.Outside.{Object}

-- ---- words

abbrev pub word_of : Command → List ℕ
word_of Run = codes "run"
word_of Try = codes "try"
word_of Show = codes "show"
word_of Check = codes "check"

abbrev pub Spells : List (List ℕ) → Command → Type 0
Spells words command = words ≡ word_of command ∷ []

-- ---- a form that is not loaded

abbrev pub refusal_name : ℕ → List ℕ
refusal_name number =
    if number == 1 then codes "NotJson"
    else if number == 2 then codes "TooLarge"
    else if number == 3 then codes "NotElement"
    else if number == 4 then codes "BadName"
    else if number == 5 then codes "Prefix"
    else if number == 6 then codes "NoModel"
    else if number == 7 then codes "Expression"
    else if number == 8 then codes "NotStatic"
    else if number == 9 then codes "UnknownElement"
    else if number == 10 then codes "BadAttribute"
    else if number == 11 then codes "DoubleId"
    else if number == 12 then codes "NoSuchId"
    else if number == 13 then codes "UnknownType"
    else if number == 20 then codes "BadSchema"
    else codes "Limit"

abbrev pub place_part : List ℕ → List ℕ
place_part [] = []
place_part (b ∷ bs) = codes " " ++ b ∷ bs

abbrev pub refusal_line : ℕ → List ℕ → List ℕ
refusal_line number place = codes "form F" ++ decimal number ++ codes " " ++ refusal_name number ++ place_part place ++ codes "\n"

-- ---- slots that hold no session of the form

abbrev pub slot_name : Slot → List ℕ
slot_name A = codes "A"
slot_name B = codes "B"

-- with the place at which the forms differ first, or the place of the damage
abbrev pub session_line : SessionFault → List ℕ
session_line (session.OtherForm at) = codes "session OtherForm " ++ decimal at ++ codes "\n"
session_line (session.Damaged slot at) = codes "session Damaged " ++ slot_name slot ++ codes " " ++ decimal at ++ codes "\n"
session_line session.NoSession = codes "session NoSession\n"

-- ---- the line for a status

abbrev pub ending_line : Ending → List ℕ
ending_line Done = []
ending_line ReadFault = codes "fault read\n"
ending_line SinkFault = []
ending_line DiskFault = codes "fault disk\n"
ending_line TooMuch = codes "fault too much\n"
ending_line Memory = codes "fault memory\n"

abbrev pub status_line : Status → List ℕ
status_line Usage = codes "usage: xforms run | try | show | check\n"
status_line (Refused line) = string_bytes line
status_line Checked = codes "form ok\n"
status_line Unread = codes "fault read\n"
status_line DiskFailed = codes "fault disk\n"
status_line (NotOpened line) = string_bytes line
status_line Shown = []
status_line NotShown = []
status_line NoRoom = codes "fault memory\n"
status_line (Answered ending) = ending_line ending

abbrev pub ending_code : Ending → ℕ
ending_code Done = 0
ending_code ReadFault = 4
ending_code SinkFault = 5
ending_code DiskFault = 6
ending_code TooMuch = 8
ending_code Memory = 9

-- the number that the program ends with
abbrev pub status_code : Status → ℕ
status_code Usage = 2
status_code (Refused line) = 3
status_code Checked = 0
status_code Unread = 4
status_code DiskFailed = 6
status_code (NotOpened line) = 7
status_code Shown = 0
status_code NotShown = 5
status_code NoRoom = 9
status_code (Answered ending) = ending_code ending

-- a front of the line was written, where the sink failed then
pub record CutsLine (out : Object) (faults : ℕ) (written line : List ℕ) : Type 0 where
  pub some : 0 < length line
  pub failed : Rose faults out.faults
  pub front : List ℕ
  pub is_front : IsFront front line
  pub appended : Appends out.before out.after (written ++ front)

-- after some bytes the line was written and flushed, or a front of it where the sink failed; so often had it failed before the line
abbrev pub AppendsLine : Object → ℕ → List ℕ → List ℕ → Type 0
AppendsLine out faults written line = (Appends out.before out.after (written ++ line) × (out.faults ≡ faults)) ⊎ CutsLine out faults written line
