-- How changes follow one another: each begins where the one before ended, and the first refusal ends them all.
use Rattle.std.specs.Prelude.{Bool, true, false, List, [], ◌∷◌, Option, Some, None, Result, Ok, Err}
use Rattle.xf_def_machine.specs.State.{State}
use Rattle.xf_def_machine.specs.Refusal.{Refused}

-- from a state to the next, or the refusal that is met first
abbrev pub Run : Type 0
Run = State → Result State Refused

-- what comes next, unless it was refused before
infixl 10 ◌>>=◌
abbrev pub ◌>>=◌ : {A B : Type 0} → Result A Refused → (A → Result B Refused) → Result B Refused
Err refusal >>= next = Err refusal
Ok x >>= next = next x

-- a change only where this holds
abbrev pub when : Bool → Run → Run
when false run s = Ok s
when true run s = run s

-- no effect where there is none
abbrev pub where_some : {X : Type 0} → Option X → (X → Run) → Run
where_some None run s = Ok s
where_some (Some x) run s = run x s

-- one after the other
abbrev pub in_turn : {X : Type 0} → (X → Run) → List X → Run
in_turn run [] s = Ok s
in_turn run (x ∷ xs) s = run x s >>= in_turn run xs
