-- Kept answers, each given to the call at its place.
use Rattle.std.specs.Prelude.{◌≡◌, ℕ, zero, suc, List, [], ◌∷◌, drop, Bool, true, false, if◌then◌else◌, Option, Some, None, Result, Ok, Err}
use Rattle.xf_store.specs.declared.answers.Answer.{Answer}
use Rattle.xf_store.specs.declared.answers.Answer.TheVariants as answer
use Rattle.xf_store.specs.declared.call.Asked.{Asked}
use Rattle.xf_store.specs.declared.call.Asked.TheVariants as asked
use Rattle.xf_store.specs.declared.call.StoreCall.{StoreCall}
use Rattle.xf_store.specs.declared.got.Got.{Got}
use Rattle.xf_store.specs.declared.got.Got.TheVariants as got
use Rattle.xf_store.specs.declared.got.GetFault.{GetFault}
use Rattle.xf_store.specs.declared.got.GetFault.TheVariants as fault
use Rattle.xf_store.specs.Replies.{get_answer}

-- the answers of a put, and those of a get
abbrev pub fits_put : Answer → Bool
fits_put answer.PutDone = true
fits_put answer.Failed = true
fits_put (answer.Found bytes) = false
fits_put answer.Absent = false
fits_put answer.TooLong = false

abbrev pub fits_get : Answer → Bool
fits_get answer.PutDone = false
fits_get answer.Failed = true
fits_get (answer.Found bytes) = true
fits_get answer.Absent = true
fits_get answer.TooLong = true

-- those of a call, by what it asks for
abbrev pub fits : Asked → Answer → Bool
fits (asked.Put bytes) given = fits_put given
fits asked.Get given = fits_get given

-- the answer to the call at this place, the first being 0: the one at that place where it fits, else a failure
abbrev pub answer_at : (Answer → Bool) → List Answer → ℕ → Answer
answer_at fits [] at = answer.Failed
answer_at fits (next ∷ rest) zero = if fits next then next else answer.Failed
answer_at fits (next ∷ rest) (suc at) = answer_at fits rest at

-- each of these calls got the answer at its place, the first call the first one
abbrev pub Covers : List Answer → List StoreCall → Type 0
Covers answers [] = Unit {0}
Covers answers (call ∷ calls) = (answer_at (fits call.asked) answers 0 ≡ call.answer) × Covers (drop 1 answers) calls

-- whether there is a next answer, and it fits
abbrev pub next_fits : (Answer → Bool) → List Answer → Bool
next_fits fits [] = false
next_fits fits (next ∷ rest) = fits next

-- a call gets the answer at its place, whatever the calls before it got
abbrev pub Uses : (Answer → Bool) → Option (List Answer) → Option (List Answer) → Answer → Type 0
Uses fits None new given = new ≡ None
Uses fits (Some left) new given = (given ≡ answer_at fits left 0) × (new ≡ Some (drop 1 left))

-- a get that finds no memory uses none
abbrev pub GetUses : Option (List Answer) → Option (List Answer) → Result Got GetFault → List ℕ → Type 0
GetUses old new (Ok done) into = Uses fits_get old new (get_answer (Ok done) into)
GetUses old new (Err fault.Failed) into = Uses fits_get old new answer.Failed
GetUses old new (Err fault.Memory) into = new ≡ old

-- what a get gives by an answer
abbrev pub got_by : Answer → Result Got GetFault
got_by answer.PutDone = Err fault.Failed
got_by answer.Failed = Err fault.Failed
got_by (answer.Found bytes) = Ok got.Found
got_by answer.Absent = Ok got.Absent
got_by answer.TooLong = Ok got.TooLong
