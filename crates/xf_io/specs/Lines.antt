-- The lines of a stream of bytes, and what the reader of lines takes and gives.
-- The bytes meant are those read ahead and those that the source has left, where it tells them.
use Rattle.std.specs.Prelude.{◌≡◌, ◌≢◌, ◌<◌, ◌≤◌, ◌⊎◌, ℕ, ◌+◌, List, [], ◌∷◌, ◌++◌, ◌==◌, length, Bool, true, if◌then◌else◌, Some, None}
use Rattle.std.specs.declared.option.Option.{Option}
use Rattle.std.specs.Io.KnownBytes.{Consumes}
use Rattle.xf_base.specs.Limits.{line_limit, stream_limit}
use Rattle.xf_io.specs.Ahead.{Ahead}
use Rattle.xf_io.specs.declared.lines.Line.{Line}
use Rattle.xf_io.specs.declared.lines.Line.TheVariants.{Text, TooLong, End, ReadFault, TooMuch, Memory}

-- a byte before lines goes to the front of the first
abbrev pub onto_first : ℕ → List (List ℕ) → List (List ℕ)
onto_first b [] = (b ∷ []) ∷ []
onto_first b (line ∷ lines) = (b ∷ line) ∷ lines

-- a line ends with a line feed; the last may end with the input
abbrev pub lines_of : List ℕ → List (List ℕ)
lines_of [] = []
lines_of (b ∷ bs) = if b == 10 then [] ∷ lines_of bs else onto_first b (lines_of bs)

-- a byte before lines that a line feed ends: without one it ends none
abbrev pub onto_ended : ℕ → List (List ℕ) → List (List ℕ)
onto_ended b [] = []
onto_ended b (line ∷ lines) = (b ∷ line) ∷ lines

-- the lines that a line feed ends
abbrev pub ended_lines : List ℕ → List (List ℕ)
ended_lines [] = []
ended_lines (b ∷ bs) = if b == 10 then [] ∷ ended_lines bs else onto_ended b (ended_lines bs)

-- no line feed
abbrev pub IsOpen : List ℕ → Type 0
IsOpen [] = Unit {0}
IsOpen (b ∷ bs) = (b ≢ 10) × IsOpen bs

-- the line is all that is left, and the source told its end
pub record IsLast (old new line : List ℕ) (ended : Bool) : Type 0 where
  pub all : old ≡ line
  pub none_left : new ≡ []
  pub some : 0 < length line
  pub at_end : ended ≡ true

-- the first line is cut off the bytes: a line feed ends it, or their end
pub record CutsLine (old new : List ℕ) (ended : Bool) (line : List ℕ) : Type 0 where
  pub without_line_feed : IsOpen line
  pub ends : (old ≡ line ++ 10 ∷ new) ⊎ IsLast old new line ended

-- a part of a line was taken, and the line is lost
pub record LosesPart (old new part : List ℕ) : Type 0 where
  pub without_line_feed : IsOpen part
  pub taken : old ≡ part ++ new

abbrev pub GivesLineOf : List ℕ → List ℕ → Ahead → Line → Type 0
GivesLineOf old new ahead (Text line) = CutsLine old new ahead.ended line × (length line ≤ line_limit)
GivesLineOf old new ahead TooLong = (line : List ℕ) × CutsLine old new ahead.ended line × (line_limit < length line)
GivesLineOf old new ahead End = (old ≡ []) × (new ≡ []) × (ahead.ended ≡ true)
GivesLineOf old new ahead ReadFault = (part : List ℕ) × LosesPart old new part × (ahead.bytes ≡ [])
GivesLineOf old new ahead TooMuch = (part : List ℕ) × LosesPart old new part × (0 < length new) × (ahead.given ≡ stream_limit)
GivesLineOf old new ahead Memory = (part : List ℕ) × LosesPart old new part

-- the line that is given is the first of the bytes, or why none is given
abbrev pub GivesLine : Option (List ℕ) → Option (List ℕ) → Ahead → Line → Type 0
GivesLine None new ahead result = Unit {0}
GivesLine (Some old) None ahead result = ⊥
GivesLine (Some old) (Some new) ahead result = GivesLineOf old new ahead result

-- as many bytes were taken as the count rose, and never more than a stream may have
pub record CountsBytes (old new : Option (List ℕ)) (before after : ℕ) : Type 0 where
  pub bytes : List ℕ
  pub taken : Consumes old new bytes
  pub counted : after ≡ before + length bytes
  pub within : after ≤ stream_limit

-- a line takes a byte at least
abbrev pub Moves : Line → ℕ → ℕ → Type 0
Moves (Text line) old new = old < new
Moves TooLong old new = old < new
Moves End old new = Unit {0}
Moves ReadFault old new = Unit {0}
Moves TooMuch old new = Unit {0}
Moves Memory old new = Unit {0}
