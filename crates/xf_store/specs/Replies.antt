-- What a store answers.
use Rattle.std.specs.Prelude.{ℕ, List, length, Bool, true, false, nat_le, if◌then◌else◌, Option, Some, None, Result, Ok, Err}
use Rattle.xf_base.specs.Limits.{found_limit}
use Rattle.xf_store.specs.declared.answers.Answer.{Answer}
use Rattle.xf_store.specs.declared.answers.Answer.TheVariants as answer
use Rattle.xf_store.specs.declared.got.Got.{Got}
use Rattle.xf_store.specs.declared.got.Got.TheVariants as got
use Rattle.xf_store.specs.declared.got.GetFault.{GetFault}

-- what was found is no longer than a get gives
abbrev pub is_short : Answer → Bool
is_short answer.PutDone = true
is_short answer.Failed = true
is_short (answer.Found bytes) = nat_le (length bytes) found_limit
is_short answer.Absent = true
is_short answer.TooLong = true

-- the call did not go through
abbrev pub has_failed : Answer → Bool
has_failed answer.PutDone = false
has_failed answer.Failed = true
has_failed (answer.Found bytes) = false
has_failed answer.Absent = false
has_failed answer.TooLong = false

-- what a get answers where this stands under the name
abbrev pub answer_for : Option (List ℕ) → Answer
answer_for None = answer.Absent
answer_for (Some bytes) = if nat_le (length bytes) found_limit then answer.Found bytes else answer.TooLong

-- the answer of a put
abbrev pub put_answer : {T E : Type 0} → Result T E → Answer
put_answer (Ok done) = answer.PutDone
put_answer (Err failed) = answer.Failed

-- the answer of a get that left these bytes; want of memory is none, and stands as a failed call
abbrev pub get_answer : Result Got GetFault → List ℕ → Answer
get_answer (Ok got.Found) into = answer.Found into
get_answer (Ok got.Absent) into = answer.Absent
get_answer (Ok got.TooLong) into = answer.TooLong
get_answer (Err _) into = answer.Failed
