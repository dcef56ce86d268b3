-- The tests of a `while`, one after the other: the action is the one that stood when it began, since no change touches the form.
use Rattle.std.proofs.Common.{ℕ, ◌≡◌, ◌-◌, ◌<◌, List, Bool, true, false, Option, is_some, Ok, ap, sym, ◌∙◌, subst}
use Rattle.xf_store.specs.declared.call.StoreCall.{StoreCall}
use Rattle.xf_def_machine.specs.Program.{Act, role_at}
use Rattle.xf_def_machine.specs.Profile.{Profile}
use Rattle.xf_def_machine.specs.State.{State}
use Rattle.xf_def_machine.specs.Refusal.{Refusal}
use Rattle.xf_def_machine.specs.Flow.{Run, in_turn}
use Rattle.xf_def_machine.specs.Primitives.{spend}
use Rattle.xf_def_machine.specs.Events.{Fired, Tell}
use Rattle.xf_def_machine.specs.Acting.{Acting, act_in, act_at}
use Rattle.xf_def_machine.specs.Update.{is_due, rounds, round}
use Rattle.xf_actions.specs.Performs.{Refuses}
use Rattle.xf_actions.specs.Parts.{repetition_in, holds, once_done}
use Rattle.xf_actions.specs.Told.{round_begun}
use Rattle.xf_actions.proofs.Flow.{fine}
use Rattle.xf_actions.proofs.Steps.{tested, tested-unread, tested-done, tested-next, tested-work_stops, rounds-next}

same-act : (before t : State) (n : ℕ) → t.form ≡ before.form → act_at t n ≡ act_at before n
same-act before t n h = ap (λ f. act_in (role_at f n)) h

-- of the action that is an element, as it stood before
abbrev pub tests : ℕ → Profile → Tell → (ℕ → Run) → Acting → State → ℕ → Run
tests left p tell inner x before n s = tested left p x (repetition_in (act_at before n)) (once_done p tell inner x (act_at before n)) s

pub tests-unread : (left : ℕ) (p : Profile) (tell : Tell) (inner : ℕ → Run) (x : Acting) (before : State) (n : ℕ) (s t : State)
    (why : Option Refusal) (calls : List StoreCall)
    → 0 < left → is_some (repetition_in (act_at before n)) ≡ true → t.form ≡ before.form → spend s ≡ Ok t
    → Refuses why calls (holds p x (repetition_in (act_at t n)) t) → Refuses why calls (tests left p tell inner x before n s)
tests-unread left p tell inner x before n s t why calls h q same e r =
    tested-unread left p x (repetition_in (act_at before n)) (once_done p tell inner x (act_at before n)) s t why calls h q e
    (subst (λ (o : Option Act). Refuses why calls (holds p x (repetition_in o) t)) (same-act before t n same) r)

pub tests-done : (left : ℕ) (p : Profile) (tell : Tell) (inner : ℕ → Run) (x : Acting) (before : State) (n : ℕ) (s t : State) (b : Bool)
    → 0 < left → is_some (repetition_in (act_at before n)) ≡ true → t.form ≡ before.form → spend s ≡ Ok t
    → holds p x (repetition_in (act_at t n)) t ≡ Ok b → b ≡ false → tests left p tell inner x before n s ≡ Ok t
tests-done left p tell inner x before n s t b h q same e r k =
    tested-done left p x (repetition_in (act_at before n)) (once_done p tell inner x (act_at before n)) s t h q e
    (ap (λ (o : Option Act). holds p x (repetition_in o) t) (sym (same-act before t n same)) ∙ r ∙ ap (λ v. fine v) k)

pub tests-work_stops : (left : ℕ) (p : Profile) (tell : Tell) (inner : ℕ → Run) (x : Acting) (before : State) (n : ℕ) (s t : State) (b : Bool)
    (why : Option Refusal) (calls : List StoreCall)
    → 0 < left → is_some (repetition_in (act_at before n)) ≡ true → t.form ≡ before.form → spend s ≡ Ok t
    → holds p x (repetition_in (act_at t n)) t ≡ Ok b → b ≡ true
    → Refuses why calls (once_done p tell inner x (act_at t n) t) → Refuses why calls (tests left p tell inner x before n s)
tests-work_stops left p tell inner x before n s t b why calls h q same e r k w =
    tested-work_stops left p x (repetition_in (act_at before n)) (once_done p tell inner x (act_at before n)) s t why calls h q e
    (ap (λ (o : Option Act). holds p x (repetition_in o) t) (sym (same-act before t n same)) ∙ r ∙ ap (λ v. fine v) k)
    (subst (λ (o : Option Act). Refuses why calls (once_done p tell inner x o t)) (same-act before t n same) w)

pub tests-next : (left next : ℕ) (p : Profile) (tell : Tell) (inner : ℕ → Run) (x : Acting) (before : State) (n : ℕ) (s t u : State) (b : Bool)
    → 0 < left → left - 1 ≡ next → is_some (repetition_in (act_at before n)) ≡ true → t.form ≡ before.form → spend s ≡ Ok t
    → holds p x (repetition_in (act_at t n)) t ≡ Ok b → b ≡ true → once_done p tell inner x (act_at t n) t ≡ Ok u
    → tests left p tell inner x before n s ≡ tests next p tell inner x before n u
tests-next left next p tell inner x before n s t u b h less q same e r k w =
    tested-next left p x (repetition_in (act_at before n)) (once_done p tell inner x (act_at before n)) s t u h q e
    (ap (λ (o : Option Act). holds p x (repetition_in o) t) (sym (same-act before t n same)) ∙ r ∙ ap (λ v. fine v) k)
    (ap (λ (o : Option Act). once_done p tell inner x o t) (sym (same-act before t n same)) ∙ w)
    ∙ ap (λ m. tests m p tell inner x before n u) less

-- ---- a round of an update

pub rounds-on : (left next : ℕ) (p : Profile) (tell : Tell) (s t u : State) (events : List Fired)
    → 0 < left → left - 1 ≡ next → is_due s ≡ true → round_begun p s ≡ Ok (events, t) → in_turn tell events t ≡ Ok u
    → rounds left (round p tell) s ≡ rounds next (round p tell) u
rounds-on left next p tell s t u events h less q e k =
    rounds-next left p tell s t u events h q e k ∙ ap (λ m. rounds m (round p tell) u) less
