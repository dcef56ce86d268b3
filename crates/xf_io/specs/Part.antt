-- What is kept of a part of a line, and how one step adds to it.
use Rattle.std.specs.Prelude.{◌≡◌, ◌<◌, ◌≤◌, ℕ, ◌+◌, take, List, [], ◌∷◌, ◌++◌, length, Bool, true, false}
use Rattle.std.specs.declared.option.Option.{Option}
use Rattle.std.specs.Io.KnownBytes.{Consumes, Keeps, IsAtEnd}
use Rattle.xf_base.specs.Limits.{line_limit, stream_limit}
use Rattle.xf_io.specs.Ahead.{Ahead}
use Rattle.xf_io.specs.Lines.{IsOpen}
use Rattle.xf_io.specs.declared.lines.Line.{Line}
use Rattle.xf_io.specs.declared.lines.Line.TheVariants as line
use Rattle.xf_io.specs.declared.part.Part.{Part}
use Rattle.xf_io.specs.declared.lines.Step.{Step}
use Rattle.xf_io.specs.declared.lines.Step.TheVariants as step

-- all of it is kept, unless it is too long
abbrev pub IsKept : Bool → List ℕ → List ℕ → Type 0
IsKept true bytes kept = line_limit < length bytes
IsKept false bytes kept = (kept ≡ bytes)

-- these bytes are the part so far
pub record IsPart (bytes : List ℕ) (part : Part) : Type 0 where
  pub without_line_feed : IsOpen bytes
  pub kept : IsKept part.long bytes part.kept

-- the part has these bytes more
abbrev pub Grows : Part → Part → List ℕ → Type 0
Grows old new more = (bytes : List ℕ) → IsPart bytes old → IsPart (bytes ++ more) new

-- what a line with these bytes is given as
abbrev pub IsLine : List ℕ → Line → Type 0
IsLine bytes (line.Text kept) = (kept ≡ bytes) × (length bytes ≤ line_limit)
IsLine bytes line.TooLong = line_limit < length bytes
IsLine bytes line.End = ⊥
IsLine bytes line.ReadFault = ⊥
IsLine bytes line.TooMuch = ⊥
IsLine bytes line.Memory = ⊥

-- what the bytes before the end of the input are given as: no line where there are none
abbrev pub IsLastLine : List ℕ → Line → Type 0
IsLastLine bytes (line.Text kept) = (kept ≡ bytes) × (length bytes ≤ line_limit) × (0 < length bytes)
IsLastLine bytes line.TooLong = line_limit < length bytes
IsLastLine bytes line.End = bytes ≡ []
IsLastLine bytes line.ReadFault = ⊥
IsLastLine bytes line.TooMuch = ⊥
IsLastLine bytes line.Memory = ⊥

-- the first line feed stands at the place, or none does and the place is past the end
pub record IsFeedAt (bytes : List ℕ) (place : ℕ) : Type 0 where
  pub within : place ≤ length bytes
  pub before : IsOpen (take place bytes)
  pub there : place < length bytes → take (place + 1) bytes ≡ take place bytes ++ 10 ∷ []

-- the part took these bytes
pub record StepsOn (old new : Option (List ℕ)) (before : ℕ) (ahead : Ahead) (part more : Part) : Type 0 where
  pub bytes : List ℕ
  pub some : 0 < length bytes
  pub taken : Consumes old new bytes
  pub counted : ahead.given ≡ before + length bytes
  pub grows : Grows part more bytes

-- the part took these bytes, and then the line feed that ends it
pub record StepsToEnd (old new : Option (List ℕ)) (before : ℕ) (ahead : Ahead) (part more : Part) : Type 0 where
  pub bytes : List ℕ
  pub taken : Consumes old new (bytes ++ 10 ∷ [])
  pub counted : ahead.given ≡ before + (length bytes + 1)
  pub grows : Grows part more bytes

-- what one step takes, what the part is after it, and how many bytes were given
abbrev pub StepTakes : Option (List ℕ) → Option (List ℕ) → ℕ → Ahead → Part → Part → Step → Type 0
StepTakes old new before ahead part more step.More = StepsOn old new before ahead part more
StepTakes old new before ahead part more step.Ended = StepsToEnd old new before ahead part more
StepTakes old new before ahead part more step.End = Keeps old new × IsAtEnd new × (more ≡ part) × (ahead.ended ≡ true) × (ahead.given ≡ before)
StepTakes old new before ahead part more step.Fault = Keeps old new × (ahead.bytes ≡ []) × (ahead.given ≡ before)
StepTakes old new before ahead part more step.TooMuch = Keeps old new × (0 < length ahead.bytes) × (ahead.given ≡ stream_limit) × (ahead.given ≡ before)
StepTakes old new before ahead part more step.Memory = Keeps old new × (ahead.given ≡ before)
