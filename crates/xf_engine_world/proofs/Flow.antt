-- How one change follows another, and what a refusal of the first means for both.
use Rattle.std.proofs.Common.{ℕ, zero, suc, ◌≡◌, ◌+◌, ◌-◌, ◌<◌, Result, Ok, Err, refl, ap, sym, ◌∙◌, arith, subst}
use Rattle.xf_def_machine.specs.State.{State}
use Rattle.xf_def_machine.specs.Refusal.{Refused}
use Rattle.xf_def_machine.specs.Flow.{Run, ◌>>=◌, in_turn}
use Rattle.xf_def_machine.specs.Cycles.{counted_from}
use Rattle.xf_def_machine.specs.declared.refusal.Refusal.{Refusal}
use Rattle.xf_engine_state.specs.declared.fault.WorkFault.{WorkFault}
use Rattle.xf_engine_state.specs.declared.fault.WorkFault.TheVariants as fault
use Rattle.xf_engine_state.specs.Standing.{Standing}
use Rattle.xf_engine_state.specs.Does.{IsRefused, Does}

-- what a fault means of what the machine gives
abbrev pub Means : {X : Type 0} → WorkFault → Result X Refused → Type 0
Means (fault.Refused refusal) given = IsRefused refusal given
Means fault.Memory given = Unit {0}

refused-then : {A B : Type 0} (refusal : Refusal) (g : Result A Refused) (next : A → Result B Refused)
    → IsRefused refusal g → IsRefused refusal (g >>= next)
refused-then refusal (Err r) next h = h
refused-then refusal (Ok x) next h = absurd h

-- what refuses the first refuses both
pub means-then : {A B : Type 0} (e : WorkFault) (g : Result A Refused) (next : A → Result B Refused) → Means e g → Means e (g >>= next)
means-then (fault.Refused refusal) g next q = refused-then refusal g next q
means-then fault.Memory g next q = tt

pub same-means : {A : Type 0} (e : WorkFault) (g h : Result A Refused) → g ≡ h → Means e h → Means e g
same-means e g h q m = subst (λ (k : Result _ Refused). Means e k) (sym q) m

pub same-does : {T : Type 0} (r : Result T WorkFault) (t : Standing) (g h : Result State Refused) → g ≡ h → Does r t h → Does r t g
same-does r t g h e q = subst (λ (k : Result State Refused). Does r t k) (sym e) q

-- where the first is done, the rest begins in the state that it left
pub then-next : {A B : Type 0} (g : Result A Refused) (next : A → Result B Refused) (x : A) → g ≡ Ok x → g >>= next ≡ next x
then-next g next x e = ap (λ (r : Result _ Refused). r >>= next) e

-- ---- one after the other, by number

counted-next : (run : ℕ → Run) (k left : ℕ) (s t : State)
    → run k s ≡ Ok t → in_turn run (counted_from k (suc left)) s ≡ in_turn run (counted_from (suc k) left) t
counted-next run k left s t e = ap (λ r. r >>= in_turn run (counted_from (suc k) left)) e

pub counted-step : (run : ℕ → Run) (k next left less : ℕ) (s t : State)
    → 0 < left → left - 1 ≡ less → k + 1 ≡ next → run k s ≡ Ok t → in_turn run (counted_from k left) s ≡ in_turn run (counted_from next less) t
counted-step run k next zero less s t h q i e = absurd (omega arith)
counted-step run k next (suc left) less s t h q i e =
    counted-next run k left s t e
    ∙ ap (λ n. in_turn run (counted_from n left) t) (let j : suc k ≡ next = omega arith in j)
    ∙ ap (λ n. in_turn run (counted_from next n) t) (let j : left ≡ less = omega arith in j)

pub counted-stop : (run : ℕ → Run) (k left : ℕ) (s : State) (e : WorkFault) → 0 < left → Means e (run k s) → Means e (in_turn run (counted_from k left) s)
counted-stop run k zero s e h r = absurd (omega arith)
counted-stop run k (suc left) s e h r = means-then e (run k s) (in_turn run (counted_from (suc k) left)) r

pub counted-end : (run : ℕ → Run) (k left : ℕ) (s : State) → left ≡ 0 → in_turn run (counted_from k left) s ≡ Ok s
counted-end run k zero s h = refl
counted-end run k (suc left) s h = absurd (omega arith)

-- what stops one of them stops all that are left
pub turn-stops : (run : ℕ → Run) (k left : ℕ) (s : State) (whole : Result State Refused) (after : Standing) (e : WorkFault)
    → whole ≡ in_turn run (counted_from k left) s → 0 < left → Does {X = Unit {0}} (Err e) after (run k s) → Does {X = Unit {0}} (Err e) after whole
turn-stops run k left s whole after (fault.Refused refusal) q h d = same-means (fault.Refused refusal) whole _ q (counted-stop run k left s (fault.Refused refusal) h d)
turn-stops run k left s whole after fault.Memory q h d = tt
