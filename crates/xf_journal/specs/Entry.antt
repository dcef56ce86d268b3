-- Entries of a slot: the bytes of one, and what is read of such bytes.
use Rattle.std.specs.Prelude.{◌≡◌, IsTrue, ℕ, zero, suc, ◌+◌, List, [], ◌∷◌, ◌++◌, length, take, drop, Bool, ◌&&◌, ◌==◌, nat_le, if◌then◌else◌, Option, Some, None, option_and_then, option_map}
use Rattle.std.specs.Borrow.{Bor}
use Rattle.std.specs.Option.{unwrap_or}
use Rattle.std.specs.List.{flat_map, list_all}
use Rattle.xf_store.specs.Replies.{is_short}
use Rattle.xf_base.specs.Limits.{line_limit, found_limit, answer_limit}
use Rattle.xf_store.specs.declared.answers.Answer.{Answer}
use Rattle.xf_store.specs.declared.answers.Answer.TheVariants as answer
use Rattle.xf_journal.specs.declared.entry.Accepted.{Accepted}
use Rattle.xf_journal.specs.Numbers.{four, from_four}

-- a kind, and what was found with its length before it
abbrev pub answer_bytes : Answer → List ℕ
answer_bytes answer.PutDone = 0 ∷ []
answer_bytes answer.Failed = 1 ∷ []
answer_bytes (answer.Found bytes) = 2 ∷ four (length bytes) ++ bytes
answer_bytes answer.Absent = 3 ∷ []
answer_bytes answer.TooLong = 4 ∷ []

-- the number of the answers, and each in turn
abbrev pub answers_bytes : List Answer → List ℕ
answers_bytes answers = length answers ∷ flat_map answer_bytes answers

-- the line with its length before it, and the answers
abbrev pub body_bytes : List ℕ → List Answer → List ℕ
body_bytes line answers = four (length line) ++ line ++ answers_bytes answers

-- what stands behind an entry's gate
abbrev pub entry_bytes : List ℕ → List Answer → List ℕ
entry_bytes line answers = four (length (body_bytes line answers)) ++ body_bytes line answers

-- the entry with a closed gate after it
abbrev pub written_bytes : List ℕ → List Answer → List ℕ
written_bytes line answers = entry_bytes line answers ++ 0 ∷ []

-- the entry has as much as an entry may have
abbrev pub is_within : List ℕ → List Answer → Bool
is_within line answers = nat_le (length line) line_limit && nat_le (length answers) answer_limit && list_all is_short answers

-- so have all of these
abbrev pub are_within : List Accepted → Bool
are_within entries = list_all (λ (entry : Accepted). is_within entry.line entry.answers) entries

-- an answer, with the bytes behind it
abbrev pub front_of : Answer × Bor (List ℕ) → Answer × List ℕ
front_of found = (found.0, found.1.now)

-- what was found, at the front of these bytes, and the bytes behind it
abbrev pub found_in : List ℕ → Option (Answer × List ℕ)
found_in bytes =
    if nat_le 4 (length bytes) && nat_le (from_four bytes) found_limit && nat_le (4 + from_four bytes) (length bytes)
    then Some (answer.Found (take (from_four bytes) (drop 4 bytes)), drop (4 + from_four bytes) bytes)
    else None

-- the answer of a kind, with what is behind the kind
abbrev pub answer_of : ℕ → List ℕ → Option (Answer × List ℕ)
answer_of kind bytes =
    if kind == 0 then Some (answer.PutDone, bytes)
    else if kind == 1 then Some (answer.Failed, bytes)
    else if kind == 2 then found_in bytes
    else if kind == 3 then Some (answer.Absent, bytes)
    else if kind == 4 then Some (answer.TooLong, bytes)
    else None

-- the answer at the front of these bytes, and the bytes behind it
abbrev pub answer_in : List ℕ → Option (Answer × List ℕ)
answer_in [] = None
answer_in (kind ∷ bytes) = answer_of kind bytes

-- so many answers, and nothing behind them
abbrev pub these_answers : ℕ → List ℕ → Option (List Answer)
these_answers zero [] = Some []
these_answers zero (byte ∷ bytes) = None
these_answers (suc n) bytes =
    option_and_then (λ (first : Answer × List ℕ). option_map (λ (answers : List Answer). first.0 ∷ answers) (these_answers n first.1)) (answer_in bytes)

-- the answers that these bytes are, if they are answers
abbrev pub answers_in : List ℕ → Option (List Answer)
answers_in [] = None
answers_in (count ∷ bytes) = if nat_le count answer_limit then these_answers count bytes else None

-- the line and the answers that these bytes are, if they are an entry's
abbrev pub body_in : List ℕ → Option Accepted
body_in body =
    if nat_le 4 (length body) && nat_le (from_four body) line_limit && nat_le (4 + from_four body) (length body)
    then option_map (λ (answers : List Answer). record { line = take (from_four body) (drop 4 body); answers = answers }) (answers_in (drop (4 + from_four body) body))
    else None

-- how many bytes an entry has that begins here, its gate not counted
abbrev pub size_at : List ℕ → ℕ
size_at bytes = 4 + from_four bytes

-- the entry at the front of these bytes, which stand behind a gate
abbrev pub entry_in : List ℕ → Option Accepted
entry_in bytes =
    if nat_le 4 (length bytes) && nat_le (size_at bytes) (length bytes)
    then body_in (take (from_four bytes) (drop 4 bytes))
    else None

-- the entry that these bytes begin with, and one of nothing where they are none
abbrev pub spelled : List ℕ → Accepted
spelled bytes = unwrap_or (entry_in bytes) (record { line = []; answers = [] })

-- the bytes are those of an entry as it is written, which has no more than an entry may have
pub record IsEntry (bytes : List ℕ) : Type 0 where
  pub as_written : bytes ≡ written_bytes (spelled bytes).line (spelled bytes).answers
  pub within : IsTrue (is_within (spelled bytes).line (spelled bytes).answers)
