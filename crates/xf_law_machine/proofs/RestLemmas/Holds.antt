-- What is so of each state to which a change may come: a change that is refused comes to none.
use Rattle.std.proofs.Common.{◌≡◌, Bool, true, false, List, [], ◌∷◌, Option, Some, None, Result, Ok, Err, refl, subst, if◌then◌else◌}
use Rattle.xf_def_machine.specs.State.{State}
use Rattle.xf_def_machine.specs.Refusal.{Refused}
use Rattle.xf_def_machine.specs.Flow.{Run, ◌>>=◌, when, where_some, in_turn}

abbrev pub Held : {X : Type 0} → (X → Type 0) → Result X Refused → Type 0
Held P (Err refusal) = Unit {0}
Held P (Ok x) = P x

pub held-is : {X : Type 0} (P : X → Type 0) (r : Result X Refused) (x : X) → Held P r → r ≡ Ok x → P x
held-is P (Err refusal) x h e = cc
held-is P (Ok y) x h e = let q : y ≡ x = cc in subst P q h

pub held-by : {X : Type 0} (P : X → Type 0) (r : Result X Refused) → ((x : X) → r ≡ Ok x → P x) → Held P r
held-by P (Err refusal) h = tt
held-by P (Ok x) h = h x refl

pub held-more : {X : Type 0} (P Q : X → Type 0) (r : Result X Refused) → ((x : X) → P x → Q x) → Held P r → Held Q r
held-more P Q (Err refusal) k h = tt
held-more P Q (Ok x) k h = k x h

pub held-both : {X : Type 0} (P Q : X → Type 0) (r : Result X Refused) → Held P r → Held Q r → Held (λ x. P x × Q x) r
held-both P Q (Err refusal) h k = tt
held-both P Q (Ok x) h k = (h, k)

pub held-then : {X Y : Type 0} (P : X → Type 0) (Q : Y → Type 0) (r : Result X Refused) (next : X → Result Y Refused)
    → Held P r → ((x : X) → P x → Held Q (next x)) → Held Q (r >>= next)
held-then P Q (Err refusal) next h k = tt
held-then P Q (Ok x) next h k = k x h

-- whatever comes first
pub held-any : {X Y : Type 0} (Q : Y → Type 0) (r : Result X Refused) (next : X → Result Y Refused)
    → ((x : X) → Held Q (next x)) → Held Q (r >>= next)
held-any Q (Err refusal) next k = tt
held-any Q (Ok x) next k = k x

pub held-if : {X : Type 0} (P : X → Type 0) (b : Bool) (r q : Result X Refused) → Held P r → Held P q → Held P (if b then r else q)
held-if P true r q h k = h
held-if P false r q h k = k

pub held-when : (P : State → Type 0) (b : Bool) (run : Run) (s : State) → P s → Held P (run s) → Held P (when b run s)
held-when P false run s h k = h
held-when P true run s h k = k

pub held-some : {X : Type 0} (P : State → Type 0) (o : Option X) (run : X → Run) (s : State) → P s → ((x : X) → Held P (run x s)) → Held P (where_some o run s)
held-some P None run s h k = h
held-some P (Some x) run s h k = k x

pub held-turn : {X : Type 0} (P : State → Type 0) (run : X → Run) (xs : List X) → ((x : X) (s : State) → P s → Held P (run x s))
    → (s : State) → P s → Held P (in_turn run xs s)
held-turn P run [] k s h = h
held-turn P run (x ∷ xs) k s h = held-then P P (run x s) (in_turn run xs) (k x s h) (held-turn P run xs k)
