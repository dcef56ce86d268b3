-- When a put and a get fail.
use Rattle.std.specs.Prelude.{◌≡◌, ◌≤◌, ℕ, List, true, false, Option, Some, None, Result, Ok, Err, is_err}
use Rattle.xf_base.specs.Faults.{Rose}
use Rattle.xf_io.specs.Failing.{Failing, fails_next}
use Rattle.xf_store.specs.declared.call.Named.{Named}
use Rattle.xf_store.specs.declared.call.StoreCall.{StoreCall}
use Rattle.xf_store.specs.declared.got.Got.{Got}
use Rattle.xf_store.specs.declared.got.GetFault.{GetFault}
use Rattle.xf_store.specs.declared.got.GetFault.TheVariants.{Failed, Memory}

-- the count did not fall, rose where the store failed, and stayed where memory was wanting
pub record HasGetCause (before now : ℕ) (result : Result Got GetFault) : Type 0 where
  pub later : before ≤ now
  pub failed : result ≡ Err Failed → Rose before now
  pub memory : result ≡ Err Memory → now ≡ before

abbrev pub FailsWhereListed : {T E : Type 0} → Failing → Option (List StoreCall) → Result T E → Type 0
FailsWhereListed failing None result = fails_next failing ≡ true → is_err result ≡ true
FailsWhereListed failing (Some calls) result = is_err result ≡ fails_next failing

-- a put of the store in memory fails exactly where its number is listed, and puts nothing there; where memory was wanting,
-- which fails it too, the list of calls ends
pub record PutFails {T E : Type 0} (failing : Failing) (calls : Option (List StoreCall)) (old new : List Named) (result : Result T E) : Type 0 where
  pub exactly : FailsWhereListed failing calls result
  pub puts_nothing : fails_next failing ≡ true → new ≡ old

-- a get of the store in memory fails exactly where its number is listed
abbrev pub GetFails : Failing → Result Got GetFault → Type 0
GetFails failing (Ok done) = fails_next failing ≡ false
GetFails failing (Err Failed) = fails_next failing ≡ true
GetFails failing (Err Memory) = Unit {0}
