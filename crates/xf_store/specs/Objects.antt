-- What the stores that tell something show of themselves.
use Rattle.std.specs.Prelude.{ℕ, List, Option, Bool}
use Rattle.xf_store.specs.declared.answers.Answer.{Answer}
use Rattle.xf_store.specs.declared.call.Named.{Named}
use Rattle.xf_store.specs.declared.call.StoreCall.{StoreCall}
use Rattle.xf_io.specs.Failing.{Failing}

-- the store in memory
pub record Telling : Type 0 where
  pub held : List Named
  -- the calls, unless one found no room in the list
  pub calls : Option (List StoreCall)
  -- which calls are to fail
  pub failing : Failing
  pub faults : ℕ

-- the store that answers from kept answers
pub record Replaying : Type 0 where
  -- the answers that are left
  pub to_come : List Answer
  -- whether each call found an answer that fits it
  pub is_exact : Bool
  pub faults : ℕ

-- the store over a folder: its path, and how often a call has failed
pub record OneFolder : Type 0 where
  pub folder : List ℕ
  pub faults : ℕ
