-- The calls of a store, each with its answer.
use Rattle.std.specs.Prelude.{◌≡◌, ℕ, List, [], ◌∷◌, ◌++◌, Option, Some, None, Result, Ok, Err}
use Rattle.xf_store.specs.declared.answers.Answer.{Answer}
use Rattle.xf_store.specs.declared.answers.Answer.TheVariants as answer
use Rattle.xf_store.specs.declared.call.Asked.TheVariants as asked
use Rattle.xf_store.specs.declared.call.StoreCall.{StoreCall}
use Rattle.xf_store.specs.declared.got.Got.{Got}
use Rattle.xf_store.specs.declared.got.GetFault.{GetFault}
use Rattle.xf_store.specs.declared.got.GetFault.TheVariants as fault
use Rattle.xf_store.specs.Replies.{put_answer, get_answer}

abbrev pub put_call : {T E : Type 0} → List ℕ → List ℕ → Result T E → StoreCall
put_call name bytes result = record { name = name; asked = asked.Put bytes; answer = put_answer result }

abbrev pub get_call : List ℕ → Answer → StoreCall
get_call name given = record { name = name; asked = asked.Get; answer = given }

-- a call stands at the end of the list; where it failed, the list may be told no more
abbrev pub Lists : Option (List StoreCall) → Option (List StoreCall) → StoreCall → Type 0
Lists None new call = new ≡ None
Lists (Some calls) None call = call.answer ≡ answer.Failed
Lists (Some calls) (Some more) call = more ≡ calls ++ call ∷ []

-- a get that finds no memory is no call
abbrev pub GetLists : Option (List StoreCall) → Option (List StoreCall) → List ℕ → Result Got GetFault → List ℕ → Type 0
GetLists old new name (Ok done) into = Lists old new (get_call name (get_answer (Ok done) into))
GetLists old new name (Err fault.Failed) into = Lists old new (get_call name answer.Failed)
GetLists old new name (Err fault.Memory) into = new ≡ old
