-- What is written for the lines of a stream by whoever answers one line (who answers it may be free to choose among several replies): each
-- line is answered in the state that the one before left.
use Rattle.std.specs.Prelude.{ℕ, ◌≡◌, ◌⊎◌, ◌≤◌, ◌<◌, Bool, true, false, List, [], ◌∷◌, ◌++◌, length, take, drop, nat_lt, codes, Some, None, if◌then◌else◌}
use Rattle.std.specs.declared.option.Option.{Option as Known}
use Rattle.xf_base.specs.Limits.{line_limit, stream_limit}
use Rattle.xf_io.specs.Ahead.{most_ahead}
use Rattle.xf_io.specs.Lines.{lines_of, ended_lines}
use Rattle.xf_cli_stream.specs.declared.answering.AnswerFault.{AnswerFault}
use Rattle.xf_cli_stream.specs.declared.answering.AnswerFault.TheVariants as fault
use Rattle.xf_cli_stream.specs.declared.lines.Ending.{Ending}
use Rattle.xf_cli_stream.specs.declared.lines.Ending.TheVariants.{Done, ReadFault, SinkFault, TooMuch, DiskFault, Memory}

-- for a line in a state these bytes may be written, and that state stands after it
abbrev pub Replies : Type 0 → Type 1
Replies A = A → List ℕ → List ℕ → A → Type 0

-- where there is no reply to a line in a state, for this fault, that state may stand after it
abbrev pub Leaves : Type 0 → Type 1
Leaves A = AnswerFault → A → List ℕ → A → Type 0

abbrev pub too_long_reply : List ℕ
too_long_reply = codes "no E1 LineTooLong\n"

-- ---- a line: one that is too long is passed over

abbrev pub takes_by : Bool → Type 0 → Type 0 → Type 0
takes_by true long short = long
takes_by false long short = short

abbrev pub Takes : {A : Type 0} → Replies A → A → List ℕ → List ℕ → A → Type 0
Takes replies s line text after = takes_by (nat_lt line_limit (length line)) ((text ≡ too_long_reply) × (after ≡ s)) (replies s line text after)

-- ---- lines

-- all of them are answered, one after the other
abbrev pub TakesAll : {A : Type 0} → Replies A → A → List (List ℕ) → List ℕ → A → Type 0
TakesAll replies s [] written last = (written ≡ []) × (last ≡ s)
TakesAll replies s (line ∷ lines) written last =
    (text rest : List ℕ) × (after : _) × Takes replies s line text after × TakesAll replies after lines rest last × (written ≡ text ++ rest)

abbrev pub IsFront : List ℕ → List ℕ → Type 0
IsFront front whole = (rest : List ℕ) × (whole ≡ front ++ rest)

-- of the next line, if there is one, a front of a reply is written
abbrev pub IsBegun : {A : Type 0} → Replies A → A → List (List ℕ) → List ℕ → A → Type 0
IsBegun replies s [] part last = (part ≡ []) × (last ≡ s)
IsBegun replies s (line ∷ lines) part last = (text : List ℕ) × Takes replies s line text last × IsFront part text

-- the first lines are answered, and so much of the next one
abbrev pub AsFarAs : {A : Type 0} → Replies A → A → List (List ℕ) → List ℕ → List ℕ → A → Type 0
AsFarAs replies first lines part written last =
    (count : ℕ) × (done : List ℕ) × (now : _) × TakesAll replies first (take count lines) done now × IsBegun replies now (drop count lines) part last × (written ≡ done ++ part)

-- where memory was wanting for the reply to a line, it changed nothing, or this is left
abbrev pub IsLeft : {A : Type 0} → Leaves A → A → List ℕ → A → Type 0
IsLeft leaves now line last = (last ≡ now) ⊎ leaves fault.Memory now line last

-- the last line of these bytes, behind the lines before it: a line feed ends it, or it is the last one of all
abbrev pub IsLastLine : List ℕ → List ℕ → List (List ℕ) → List ℕ → Type 0
IsLastLine taken rest before line = (ended_lines taken ≡ before ++ line ∷ []) ⊎ ((ended_lines taken ≡ before) × (lines_of taken ≡ before ++ line ∷ []) × (rest ≡ []))

-- behind these lines a line was in work, and its answer ended with this fault; where memory was wanting, a part of it may have been read
abbrev pub InWork : {A : Type 0} → Leaves A → AnswerFault → List ℕ → List ℕ → List (List ℕ) → A → A → Type 0
InWork leaves fault.Memory taken rest before now last =
    ((ended_lines taken ≡ before) × (last ≡ now)) ⊎ ((line : List ℕ) × IsLastLine taken rest before line × IsLeft leaves now line last)
InWork leaves fault.Disk taken rest before now last = (line : List ℕ) × IsLastLine taken rest before line × leaves fault.Disk now line last

-- ---- how the answers end

-- the lines that are answered where nothing fails
abbrev pub answered_lines : List ℕ → List (List ℕ)
answered_lines events = if nat_lt stream_limit (length events) then ended_lines (take stream_limit events) else lines_of events

-- so much of the events was taken, as lines that are answered and as the line that was in work
abbrev pub StopsAt : {A : Type 0} → Replies A → Leaves A → AnswerFault → A → List ℕ → List ℕ → List ℕ → A → Type 0
StopsAt replies leaves fault first events left written last =
    (taken : List ℕ) × (ahead : List ℕ) × (events ≡ taken ++ (ahead ++ left)) × (length taken ≤ stream_limit) × (length ahead ≤ most_ahead)
    × (before : List (List ℕ)) × (now : _) × TakesAll replies first before written now × InWork leaves fault taken (ahead ++ left) before now last

-- what is written as the answers to the lines end so, and the state that is left: the events were these bytes, and those are left
abbrev pub Answers : {A : Type 0} → Replies A → Leaves A → Ending → A → List ℕ → List ℕ → List ℕ → A → Type 0
Answers replies leaves Done first events left written last = (left ≡ []) × (length events ≤ stream_limit) × TakesAll replies first (lines_of events) written last
Answers replies leaves ReadFault first events left written last =
    (given : List ℕ) × (events ≡ given ++ left) × (length given ≤ stream_limit) × TakesAll replies first (ended_lines given) written last
Answers replies leaves SinkFault first events left written last = (part : List ℕ) × AsFarAs replies first (answered_lines events) part written last
Answers replies leaves TooMuch first events left written last = (stream_limit < length events) × TakesAll replies first (ended_lines (take stream_limit events)) written last
Answers replies leaves DiskFault first events left written last = StopsAt replies leaves fault.Disk first events left written last
Answers replies leaves Memory first events left written last = StopsAt replies leaves fault.Memory first events left written last

-- the same where the source tells its bytes
abbrev pub AnswersKnown : {A : Type 0} → Replies A → Leaves A → Ending → A → Known (List ℕ) → Known (List ℕ) → List ℕ → A → Type 0
AnswersKnown replies leaves ending first None left written last = Unit {0}
AnswersKnown replies leaves ending first (Some events) None written last = ⊥
AnswersKnown replies leaves ending first (Some events) (Some left) written last = Answers replies leaves ending first events left written last
