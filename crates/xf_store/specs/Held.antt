-- Bytes under names, and what a put and a get do to them.
use Rattle.std.specs.Prelude.{◌≡◌, ◌⊎◌, ◌≤◌, ℕ, suc, List, [], ◌∷◌, length, if◌then◌else◌, Option, Some, None, Result, Ok, Err}
use Rattle.std.specs.Str.{bytes_eq}
use Rattle.xf_base.specs.Limits.{found_limit}
use Rattle.xf_store.specs.declared.call.Named.{Named}
use Rattle.xf_store.specs.declared.got.Got.{Got}
use Rattle.xf_store.specs.declared.got.Got.TheVariants as got
use Rattle.xf_store.specs.declared.got.GetFault.{GetFault}
use Rattle.xf_store.specs.Replies.{answer_for, get_answer}

-- the bytes under a name
abbrev pub found : List ℕ → List Named → Option (List ℕ)
found name [] = None
found name (named ∷ held) = if bytes_eq named.name name then Some named.bytes else found name held

-- the same with these bytes under the name: in the place of those there, or behind all others
abbrev pub put_under : List ℕ → List ℕ → List Named → List Named
put_under name bytes [] = record { name = name; bytes = bytes } ∷ []
put_under name bytes (named ∷ held) = if bytes_eq named.name name then record { name = name; bytes = bytes } ∷ held else named ∷ put_under name bytes held

-- the place of a name, counted from this number
abbrev pub place_from : ℕ → List ℕ → List Named → Option ℕ
place_from at name [] = None
place_from at name (named ∷ held) = if bytes_eq named.name name then Some at else place_from (suc at) name held

-- after a put; one that failed may have put the bytes
abbrev pub Puts : {T E : Type 0} → Option (List Named) → Option (List Named) → List ℕ → List ℕ → Result T E → Type 0
Puts None new name bytes result = new ≡ None
Puts (Some held) new name bytes (Ok done) = new ≡ Some (put_under name bytes held)
Puts (Some held) new name bytes (Err failed) = (new ≡ Some held) ⊎ (new ≡ Some (put_under name bytes held))

-- a get answers what stands under the name
abbrev pub Gets : Option (List Named) → List ℕ → Result Got GetFault → List ℕ → Type 0
Gets None name result into = Unit {0}
Gets (Some held) name (Ok done) into = get_answer (Ok done) into ≡ answer_for (found name held)
Gets (Some held) name (Err _) into = Unit {0}

-- what was found is no longer than a get gives, and where nothing was, the bytes are as before
abbrev pub Leaves : Result Got GetFault → List ℕ → List ℕ → Type 0
Leaves (Ok got.Found) old new = length new ≤ found_limit
Leaves (Ok got.Absent) old new = new ≡ old
Leaves (Ok got.TooLong) old new = new ≡ old
Leaves (Err _) old new = new ≡ old
