-- The call of a store that a submission makes.
use Rattle.std.specs.Prelude.{ℕ, ◌≡◌, ◌≤◌, Bool, ◌&&◌, IsTrue, List, [], ◌∷◌, ◌++◌, length, nat_le, Result, Ok, Err, if◌then◌else◌}
use Rattle.std.specs.List.{list_all}
use Rattle.xf_base.specs.Limits.{answer_limit}
use Rattle.xf_store.specs.declared.answers.Answer.{Answer}
use Rattle.xf_store.specs.declared.call.Asked.{Asked}
use Rattle.xf_store.specs.declared.call.StoreCall.{StoreCall}
use Rattle.xf_store.specs.Called.{Told}
use Rattle.xf_store.specs.Calls.{Lists}
use Rattle.xf_store.specs.Replay.{Uses, fits, answer_at}
use Rattle.xf_store.specs.Replies.{is_short}
use Rattle.xf_submit.specs.declared.calling.CallFault.{CallFault}
use Rattle.xf_submit.specs.declared.calling.CallFault.TheVariants.{Many}

-- a call of this name
abbrev pub call_of : List ℕ → Asked → Answer → StoreCall
call_of name asked answer = record { name = name; asked = asked; answer = answer }

-- of the answers of an event the call gets the one at its place; it is made unless so many are made already
abbrev pub exchanged : ℕ → List Answer → List ℕ → Asked → List StoreCall → Result (List StoreCall) CallFault
exchanged sends answers name asked calls =
    if nat_le sends (length calls) then Err Many else Ok (calls ++ call_of name asked (answer_at (fits asked) answers (length calls)) ∷ [])

-- one call is made of a store, unless it found no memory for its answer
abbrev pub CallsOnce : {E : Type 0} → Told → Told → List ℕ → Asked → Result Answer E → Type 0
CallsOnce before after name asked (Ok answer) = Lists before.0 after.0 (call_of name asked answer) × Uses (fits asked) before.1 after.1 answer
CallsOnce before after name asked (Err e) = (after.0 ≡ before.0) × (after.1 ≡ before.1)

-- the answer of a call fits what it asked for, and is no longer than a get gives
abbrev pub is_answered : Asked → Answer → Bool
is_answered asked answer = fits asked answer && is_short answer

-- calls that one event may have made: they are few, and each is answered
pub record AreMade (calls : List StoreCall) : Type 0 where
  pub few : length calls ≤ answer_limit
  pub answered : IsTrue (list_all (λ c. is_answered c.asked c.answer) calls)
