-- The calls that were made of a store between two moments, and what the store tells of itself then.
use Rattle.std.specs.Prelude.{◌≡◌, List, ◌++◌, length, drop, IsTrue, Option, Some, None}
use Rattle.std.specs.List.{list_any}
use Rattle.xf_store.specs.declared.answers.Answer.{Answer}
use Rattle.xf_store.specs.declared.call.StoreCall.{StoreCall}
use Rattle.xf_store.specs.Replies.{has_failed}
use Rattle.xf_store.specs.Replay.{Covers}

-- these calls stand at the end of the list; where one of them failed, the list may be told no more
abbrev pub ListsAll : Option (List StoreCall) → Option (List StoreCall) → List StoreCall → Type 0
ListsAll None new made = new ≡ None
ListsAll (Some calls) None made = IsTrue (list_any (λ c. has_failed c.answer) made)
ListsAll (Some calls) (Some more) made = more ≡ calls ++ made

-- they used as many of the answers to come
abbrev pub UsesAll : Option (List Answer) → Option (List Answer) → List StoreCall → Type 0
UsesAll None new made = new ≡ None
UsesAll (Some left) new made = Covers left made × (new ≡ Some (drop (length made) left))

-- what a store tells: the calls made of it, and the answers to come
abbrev pub Told : Type 0
Told = Option (List StoreCall) × Option (List Answer)

-- a list of calls grew by those that were made of the store, and by no other
pub record Called (before after : Told) (old new : List StoreCall) : Type 0 where
  pub made : List StoreCall
  pub grown : new ≡ old ++ made
  pub calls : ListsAll before.0 after.0 made
  pub answers : UsesAll before.1 after.1 made
