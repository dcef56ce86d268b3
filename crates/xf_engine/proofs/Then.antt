-- Where the first is done, the rest begins in the state that it left.
use Rattle.std.proofs.Common.{◌≡◌, Result, Ok, ap}
use Rattle.xf_def_machine.specs.Refusal.{Refused}
use Rattle.xf_def_machine.specs.Flow.{◌>>=◌}

pub then-next : {A B : Type 0} (g : Result A Refused) (next : A → Result B Refused) (x : A) → g ≡ Ok x → g >>= next ≡ next x
then-next g next x e = ap (λ (r : Result _ Refused). r >>= next) e
