-- What may be too long: the strings that an expression makes are held to a limit, or to none.
use Rattle.std.specs.Prelude.{ℕ, ◌≡◌, ◌⊎◌, nat_lt, List, length, Option, Some, None, Result, Ok, Err, if◌then◌else◌}

-- what is made of something, unless it was too long
infixl 10 ◌>>=◌
abbrev pub ◌>>=◌ : {A B : Type 0} → Option A → (A → Option B) → Option B
None >>= made = None
Some x >>= made = made x

-- a string, or None where it has more bytes than the most it may have; without a limit none is too long
abbrev pub capped : Option ℕ → List ℕ → Option (List ℕ)
capped None text = Some text
capped (Some most) text = if nat_lt most (length text) then None else Some text

-- a call answers the value that is given, seen by view, or the fault of what is too long where there is none, unless memory ran out
abbrev pub GivesBounded : {X Y E : Type 0} → E → E → (X → Y) → Result X E → Option Y → Type 0
GivesBounded memory long view (Ok x) given = given ≡ Some (view x)
GivesBounded memory long view (Err e) given = (e ≡ memory) ⊎ ((e ≡ long) × (given ≡ None))
