-- A round of an update, step by step.
use Rattle.std.proofs.Common.{ℕ, zero, suc, ◌≡◌, ◌+◌, ◌-◌, ◌<◌, List, Bool, Option, Result, Ok, refl, ap, sym, ◌∙◌, arith, subst}
use Rattle.xf_store.specs.declared.call.StoreCall.{StoreCall}
use Rattle.xf_def_machine.specs.Profile.{Profile}
use Rattle.xf_def_machine.specs.State.{State}
use Rattle.xf_def_machine.specs.Refusal.{Refusal, Refused}
use Rattle.xf_def_machine.specs.Flow.{Run, ◌>>=◌, in_turn}
use Rattle.xf_def_machine.specs.Primitives.{spend}
use Rattle.xf_def_machine.specs.Cycles.{counted_from}
use Rattle.xf_def_machine.specs.Update.{is_refresh_due}
use Rattle.xf_def_machine.specs.Events.{Fired}
use Rattle.xf_actions.specs.Performs.{Refuses, Makes}
use Rattle.xf_actions.specs.Told.{refreshed_if, all_behaved, round_begun}
use Rattle.xf_actions.proofs.Flow.{refuses-then, same-refuses, in_turn-next}

abbrev refreshed_after : Profile → State → Result (List Fired × State) Refused
refreshed_after p t = refreshed_if (is_refresh_due t) p t

pub round-stops : (p : Profile) (s : State) (why : Option Refusal) (calls : List StoreCall)
    → Refuses why calls (spend s) → Refuses why calls (round_begun p s)
round-stops p s why calls r = refuses-then why calls (spend s >>= all_behaved p) (refreshed_after p) (refuses-then why calls (spend s) (all_behaved p) r)

pub round-behaves : (p : Profile) (s t : State) → spend s ≡ Ok t → round_begun p s ≡ all_behaved p t >>= refreshed_after p
round-behaves p s t h = ap (λ r. r >>= all_behaved p >>= refreshed_after p) h

pub round-behave_stops : (p : Profile) (s t : State) (why : Option Refusal) (calls : List StoreCall)
    → spend s ≡ Ok t → Refuses why calls (all_behaved p t) → Refuses why calls (round_begun p s)
round-behave_stops p s t why calls h r =
    same-refuses why calls _ _ (round-behaves p s t h) (refuses-then why calls (all_behaved p t) (refreshed_after p) r)

pub round-behaved : (p : Profile) (s t u : State) (b : Bool)
    → spend s ≡ Ok t → all_behaved p t ≡ Ok u → is_refresh_due u ≡ b → round_begun p s ≡ refreshed_if b p u
round-behaved p s t u b h k q = round-behaves p s t h ∙ ap (λ r. r >>= refreshed_after p) k ∙ ap (λ v. refreshed_if v p u) q

pub same-makes : {F T X : Type 0} (means : F → Option Refusal) (view : T → X) (new : State) (r : Result T F) (g h : Result (X × State) Refused)
    → g ≡ h → Makes means view new r h → Makes means view new r g
same-makes means view new r g h e q = subst (λ (k : Result _ Refused). Makes means view new r k) (sym e) q

-- ---- one model after the other

counted-next : (run : ℕ → Run) (k left : ℕ) (s t : State)
    → run k s ≡ Ok t → in_turn run (counted_from k (suc left)) s ≡ in_turn run (counted_from (suc k) left) t
counted-next run k left s t e = in_turn-next run k (counted_from (suc k) left) s t e

pub counted-step : (run : ℕ → Run) (k next left less : ℕ) (s t : State)
    → 0 < left → left - 1 ≡ less → k + 1 ≡ next → run k s ≡ Ok t → in_turn run (counted_from k left) s ≡ in_turn run (counted_from next less) t
counted-step run k next zero less s t h q i e = absurd (omega arith)
counted-step run k next (suc left) less s t h q i e =
    counted-next run k left s t e
    ∙ ap (λ n. in_turn run (counted_from n left) t) (let j : suc k ≡ next = omega arith in j)
    ∙ ap (λ n. in_turn run (counted_from next n) t) (let j : left ≡ less = omega arith in j)

pub counted-stop : (run : ℕ → Run) (k left : ℕ) (s : State) (why : Option Refusal) (calls : List StoreCall)
    → 0 < left → Refuses why calls (run k s) → Refuses why calls (in_turn run (counted_from k left) s)
counted-stop run k zero s why calls h r = absurd (omega arith)
counted-stop run k (suc left) s why calls h r = refuses-then why calls (run k s) (in_turn run (counted_from (suc k) left)) r

pub counted-end : (run : ℕ → Run) (k left : ℕ) (s : State) → left ≡ 0 → in_turn run (counted_from k left) s ≡ Ok s
counted-end run k zero s h = refl
counted-end run k (suc left) s h = absurd (omega arith)
