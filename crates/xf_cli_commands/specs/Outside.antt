-- What is known of the objects that a run is given, before it and after.
use Rattle.std.specs.Prelude.{◌≡◌, ◌≤◌, ◌+◌, ℕ, List, [], length}
use Rattle.std.specs.declared.option.Option.{Option as Known}
use Rattle.std.specs.Io.KnownBytes.{Consumes}
use Rattle.xf_base.specs.Faults.{Rose}
use Rattle.xf_base.specs.Limits.{form_limit}
use Rattle.xf_store.specs.declared.call.StoreCall.{StoreCall}
use Rattle.xf_store.specs.Called.{Called, Told}
use Rattle.xf_cli_commands.specs.Device.{Device}

-- the bytes that a source has left, or that a sink has taken, where it tells them, and how often it has failed: before and after
pub record Object : Type 0 where
  pub before : Known (List ℕ)
  pub after : Known (List ℕ)
  pub first_faults : ℕ
  pub faults : ℕ

abbrev pub object_of : Known (List ℕ) → Known (List ℕ) → ℕ → ℕ → Object
object_of before after first_faults faults = record { before = before; after = after; first_faults = first_faults; faults = faults }

-- what a store tells: before and after
pub record Stored : Type 0 where
  pub before : Told
  pub after : Told

abbrev pub stored_of : Told → Told → Stored
stored_of before after = record { before = before; after = after }

pub record Outside : Type 1 where
  pub words : List (List ℕ)
  pub form : Object
  pub events : Object
  pub out : Object
  pub store : Stored
  pub disk : Device

-- no call of it was made
pub record IsUntouched (object : Object) : Type 0 where
  pub bytes : object.after ≡ object.before
  pub faults : object.faults ≡ object.first_faults

-- no call was made of the store
abbrev pub IsUncalled : Stored → Type 0
IsUncalled store = store.after ≡ store.before

-- some calls were made of it
abbrev pub IsCalled : Stored → Type 0
IsCalled store = (made : List StoreCall) × Called store.before store.after [] made

abbrev pub HasRisen : Object → Type 0
HasRisen object = Rose object.first_faults object.faults

-- as many bytes of a form are read at the most: one more than a form may have
abbrev pub form_read_limit : ℕ
form_read_limit = form_limit + 1

-- a front of the bytes was read, and no more of them than a form is read of
abbrev pub TakesForm : Known (List ℕ) → Known (List ℕ) → Type 0
TakesForm form left = (taken : List ℕ) × Consumes form left taken × (length taken ≤ form_read_limit)

-- no more was read of the form
abbrev pub IsFormRead : Outside → Type 0
IsFormRead outside = TakesForm outside.form.before outside.form.after
