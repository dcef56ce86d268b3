-- How the answers to the lines go on.
use Rattle.std.specs.declared.alloc.Global.{Global}
use Rattle.std.specs.Prelude.{ℕ, ◌≡◌, ◌⊎◌, ◌<◌, List, [], String, string_bytes, length, Option, Some, None, Result, Ok, Err}
use Rattle.std.specs.Io.KnownBytes.{Appends}
use Rattle.xf_base.specs.Limits.{stream_limit}
use Rattle.xf_io.specs.Ahead.{Ahead}
use Rattle.xf_io.specs.Lines.{CutsLine, LosesPart}
use Rattle.xf_cli_stream.specs.declared.answering.AnswerFault.{AnswerFault}
use Rattle.xf_cli_stream.specs.declared.answering.AnswerFault.TheVariants as fault
use Rattle.xf_cli_stream.specs.declared.lines.Ending.{Ending}
use Rattle.xf_cli_stream.specs.declared.lines.Ending.TheVariants.{Done, ReadFault, SinkFault, TooMuch, DiskFault, Memory}
use Rattle.xf_cli_stream.specs.declared.lines.Next.{Next}
use Rattle.xf_cli_stream.specs.declared.lines.Next.TheVariants.{Reply, Ends}
use Rattle.xf_cli_stream.specs.Answers.{Replies, Leaves, Takes, IsLeft, AnswersKnown}

-- the first line of the bytes is answered, and cut off them
pub record IsAnswered {A : Type 0} (replies : Replies A) (state after : A) (old new : List ℕ) (ahead : Ahead) (reply : List ℕ) : Type 0 where
  pub line : List ℕ
  pub cut : CutsLine old new ahead.ended line
  pub answered : Takes replies state line reply after

-- how the lines end in this state, and what stands then
abbrev pub EndsOf : {A : Type 0} → Leaves A → A → A → List ℕ → List ℕ → Ahead → Ending → Type 0
EndsOf leaves state after old new ahead Done = (old ≡ []) × (new ≡ []) × (after ≡ state)
EndsOf leaves state after old new ahead ReadFault = (part : List ℕ) × LosesPart old new part × (ahead.bytes ≡ []) × (after ≡ state)
EndsOf leaves state after old new ahead SinkFault = ⊥
EndsOf leaves state after old new ahead TooMuch = (part : List ℕ) × LosesPart old new part × (0 < length new) × (ahead.given ≡ stream_limit) × (after ≡ state)
EndsOf leaves state after old new ahead DiskFault = (line : List ℕ) × CutsLine old new ahead.ended line × leaves fault.Disk state line after
EndsOf leaves state after old new ahead Memory =
    ((part : List ℕ) × LosesPart old new part × (after ≡ state)) ⊎ ((line : List ℕ) × CutsLine old new ahead.ended line × IsLeft leaves state line after)

abbrev pub NextOf : {A : Type 0} → Replies A → Leaves A → A → A → List ℕ → List ℕ → Ahead → Next → Type 0
NextOf replies leaves state after old new ahead (Reply text) = IsAnswered replies state after old new ahead (string_bytes text)
NextOf replies leaves state after old new ahead (Ends ending) = EndsOf leaves state after old new ahead ending

-- the reply to the next line and the state after it, or how the lines end
abbrev pub NextKnown : {A : Type 0} → Replies A → Leaves A → A → A → Option (List ℕ) → Option (List ℕ) → Ahead → Next → Type 0
NextKnown replies leaves state after None new ahead result = Unit {0}
NextKnown replies leaves state after (Some old) None ahead result = ⊥
NextKnown replies leaves state after (Some old) (Some new) ahead result = NextOf replies leaves state after old new ahead result

-- a line takes a byte at least
abbrev pub Moves : Next → ℕ → ℕ → Type 0
Moves (Reply text) old new = old < new
Moves (Ends ending) old new = Unit {0}

abbrev pub IfReply : Next → Type 0 → Type 0
IfReply (Reply text) fact = fact
IfReply (Ends ending) fact = Unit {0}

abbrev pub IsReplyOrEnd : Result (String Global) AnswerFault → Next → Type 0
IsReplyOrEnd (Ok text) next = next ≡ Reply text
IsReplyOrEnd (Err fault.Disk) next = next ≡ Ends DiskFault
IsReplyOrEnd (Err fault.Memory) next = next ≡ Ends Memory

-- the answers were written, and the lines end so
abbrev pub Answered : {A : Type 0} → Replies A → Leaves A → Ending → A → A → Option (List ℕ) → Option (List ℕ) → Option (List ℕ) → Option (List ℕ) → Type 0
Answered replies leaves ending first last events left before after =
    (written : List ℕ) × AnswersKnown replies leaves ending first events left written last × Appends before after written
