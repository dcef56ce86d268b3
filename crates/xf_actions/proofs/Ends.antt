-- Handlers with the updates after them, and default actions, step by step.
use Rattle.std.proofs.Common.{ℕ, ◌≡◌, List, Bool, false, length, map, Option, Some, None, option_map, Ok, ap, sym, ◌∙◌}
use Rattle.std.proofs.lemmas.List.{length-map}
use Rattle.xf_store.specs.declared.answers.Answer.{Answer}
use Rattle.xf_store.specs.declared.call.StoreCall.{StoreCall}
use Rattle.xf_def_syntax.specs.declared.form.Form.{Form}
use Rattle.xf_def_machine.specs.Program.{Program}
use Rattle.xf_def_machine.specs.Profile.{Profile}
use Rattle.xf_def_machine.specs.State.{State}
use Rattle.xf_def_machine.specs.Refusal.{Refusal}
use Rattle.xf_def_machine.specs.Flow.{Run, ◌>>=◌, when, where_some, in_turn}
use Rattle.xf_def_machine.specs.Events.{Fired, Tell}
use Rattle.xf_def_machine.specs.Act.{act, act_within}
use Rattle.xf_def_machine.specs.Update.{update}
use Rattle.xf_def_machine.specs.Default.{default}
use Rattle.xf_def_machine.specs.Dispatch.{Further, handle, after_all}
use Rattle.xf_actions.specs.Performs.{Refuses}
use Rattle.xf_actions.specs.Seen.{IsProgram, fired_of, concluded_of, ending_of}
use Rattle.xf_actions.specs.declared.fired.Concluded.{Concluded}
use Rattle.xf_actions.specs.Defaulted as defaulted
use Rattle.xf_actions.specs.Defaulted.{Defaulted, concluded, ended, told_by_end}
use Rattle.xf_actions.proofs.Flow.{fine, refuses-then, same-refuses}
use Rattle.xf_actions.proofs.Sendings.{default-told}

-- ---- a handler

act-left : (p : Profile) (tell : Tell) (e : Fired) (n : ℕ) (s : State) (f : Form) (left : ℕ)
    → IsProgram f s.form → left ≡ length f.elements → act p tell e n s ≡ act_within left p tell e n s
act-left p tell e n s f left h q =
    ap (λ k. act_within k p tell e n s) (ap length h.roles ∙ length-map f.elements _ ∙ sym q)

abbrev update_if : Profile → Further → Bool → Run
update_if p further is_idle = when is_idle (update p (further false))

pub handle-stops : (p : Profile) (further : Further) (is_idle : Bool) (e : Fired) (n : ℕ) (s : State) (f : Form) (left : ℕ)
    (why : Option Refusal) (calls : List StoreCall)
    → IsProgram f s.form → left ≡ length f.elements → Refuses why calls (act_within left p (further false) e n s)
    → Refuses why calls (handle p further is_idle e n s)
handle-stops p further is_idle e n s f left why calls h q r =
    same-refuses why calls _ _ (ap (λ g. g >>= update_if p further is_idle) (act-left p (further false) e n s f left h q))
    (refuses-then why calls _ (update_if p further is_idle) r)

pub handle-acted : (p : Profile) (further : Further) (is_idle : Bool) (e : Fired) (n : ℕ) (s t : State) (f : Form) (left : ℕ)
    → IsProgram f s.form → left ≡ length f.elements → act_within left p (further false) e n s ≡ Ok t
    → handle p further is_idle e n s ≡ when is_idle (update p (further false)) t
handle-acted p further is_idle e n s t f left h q r =
    ap (λ g. g >>= update_if p further is_idle) (act-left p (further false) e n s f left h q ∙ r)

-- ---- a default action, and the update after it

pub after-stops : (p : Profile) (answers : List Answer) (further : Further) (is_idle : Bool) (e : Fired) (s : State) (why : Option Refusal) (calls : List StoreCall)
    → Refuses why calls (default p answers (further is_idle) e s) → Refuses why calls (after_all p answers further is_idle e s)
after-stops p answers further is_idle e s why calls r = refuses-then why calls _ (update_if p further is_idle) r

pub after-done : (p : Profile) (answers : List Answer) (further : Further) (is_idle : Bool) (e : Fired) (s t : State)
    → default p answers (further is_idle) e s ≡ Ok t → after_all p answers further is_idle e s ≡ when is_idle (update p (further false)) t
after-done p answers further is_idle e s t h = ap (λ g. g >>= update_if p further is_idle) h

pub default-stops : (p : Profile) (answers : List Answer) (tell : Tell) (e : Fired) (s : State) (why : Option Refusal) (calls : List StoreCall)
    → Refuses why calls (defaulted.defaulted p answers e s) → Refuses why calls (default p answers tell e s)
default-stops p answers tell e s why calls r =
    same-refuses why calls _ _ (default-told p answers tell e s) (refuses-then why calls (defaulted.defaulted p answers e s) (concluded tell) r)

pub default-tells : (p : Profile) (answers : List Answer) (tell : Tell) (e : Fired) (s : State) (d : Defaulted)
    → defaulted.defaulted p answers e s ≡ Ok d → default p answers tell e s ≡ in_turn tell d.events d.state >>= where_some d.ending (ended tell)
default-tells p answers tell e s d h = default-told p answers tell e s ∙ ap (λ r. r >>= concluded tell) h

pub default-told_stops : (p : Profile) (answers : List Answer) (tell : Tell) (e : Fired) (s : State) (d : Defaulted) (why : Option Refusal) (calls : List StoreCall)
    → defaulted.defaulted p answers e s ≡ Ok d → Refuses why calls (in_turn tell d.events d.state) → Refuses why calls (default p answers tell e s)
default-told_stops p answers tell e s d why calls h r =
    same-refuses why calls _ _ (default-tells p answers tell e s d h) (refuses-then why calls (in_turn tell d.events d.state) (where_some d.ending (ended tell)) r)

default-ending : (p : Profile) (answers : List Answer) (tell : Tell) (e : Fired) (s u : State) (d : Defaulted)
    → defaulted.defaulted p answers e s ≡ Ok d → in_turn tell d.events d.state ≡ Ok u → default p answers tell e s ≡ where_some d.ending (ended tell) u
default-ending p answers tell e s u d h q = default-tells p answers tell e s d h ∙ ap (λ r. r >>= where_some d.ending (ended tell)) q

pub default-end : (p : Profile) (answers : List Answer) (tell : Tell) (e : Fired) (s t u : State) (form : Program) (c : Concluded)
    → defaulted.defaulted p answers e s ≡ Ok (concluded_of form t c) → in_turn tell (map fired_of c.events) t ≡ Ok u → u.form ≡ form
    → default p answers tell e s ≡ where_some (option_map (ending_of u.form) c.ending) (ended tell) u
default-end p answers tell e s t u form c h q same =
    default-ending p answers tell e s u (concluded_of form t c) h q
    ∙ ap (λ f. where_some (option_map (ending_of f) c.ending) (ended tell) u) (sym same)

-- ---- the end of a submission

pub ended-none : (tell : Tell) (x : defaulted.Ending) (s : State) → fine (told_by_end x s) ≡ Ok None → ended tell x s ≡ Ok s
ended-none tell x s h = let q : told_by_end x s ≡ None = cc in ap (λ o. where_some o tell s) q

pub ended-some : (tell : Tell) (x : defaulted.Ending) (e : Fired) (s : State)
    → fine (told_by_end x s) ≡ Ok (Some e) → ended tell x s ≡ tell e s
ended-some tell x e s h = let q : told_by_end x s ≡ Some e = cc in ap (λ o. where_some o tell s) q
