-- A reset, step by step.
use Rattle.std.proofs.Common.{ℕ, ◌≡◌, ◌+◌, ◌<◌, List, [], drop, get_or, length, Option, Ok, ap, sym, ◌∙◌}
use Rattle.xf_store.specs.declared.call.StoreCall.{StoreCall}
use Rattle.xf_def_machine.specs.Profile.{Profile}
use Rattle.xf_def_machine.specs.Program.{Program}
use Rattle.xf_def_machine.specs.State.{State}
use Rattle.xf_def_machine.specs.Refusal.{Refusal}
use Rattle.xf_def_machine.specs.Flow.{Run, ◌>>=◌, in_turn}
use Rattle.xf_def_machine.specs.Update.{reindex}
use Rattle.xf_def_machine.specs.Construct.{construct, put_back, instances_of, reset}
use Rattle.xf_actions.specs.Performs.{Refuses}
use Rattle.xf_actions.proofs.Flow.{fine, refuses-then, same-refuses, in_turn-step, in_turn-stop}

abbrev pub puts : Profile → Program → ℕ → Run
puts p form = put_back p (construct p form)

pub reset-stops : (p : Profile) (model : ℕ) (s : State) (places : List ℕ) (why : Option Refusal) (calls : List StoreCall)
    → fine (instances_of s model) ≡ Ok places → Refuses why calls (in_turn (put_back p (construct p s.form)) places s) → Refuses why calls (reset p model s)
reset-stops p model s places why calls h r =
    let same : instances_of s model ≡ places = cc in
    same-refuses why calls _ _ (ap (λ (ns : List ℕ). in_turn (puts p s.form) ns s >>= reindex p []) same)
    (refuses-then why calls (in_turn (puts p s.form) places s) (reindex p []) r)

pub reset-done : (p : Profile) (model : ℕ) (s t : State) (places : List ℕ)
    → fine (instances_of s model) ≡ Ok places → in_turn (put_back p (construct p s.form)) places s ≡ Ok t → reset p model s ≡ reindex p [] t
reset-done p model s t places h e =
    let same : instances_of s model ≡ places = cc in
    ap (λ (ns : List ℕ). in_turn (puts p s.form) ns s >>= reindex p []) same ∙ ap (λ g. g >>= reindex p []) e

-- one more is put back: the form is what it was
pub put-next : (p : Profile) (form : Program) (ns : List ℕ) (i n : ℕ) (s t : State)
    → i < length ns → n ≡ get_or ns i 0 → s.form ≡ form → put_back p (construct p s.form) n s ≡ Ok t
    → in_turn (puts p form) (drop i ns) s ≡ in_turn (puts p form) (drop (i + 1) ns) t
put-next p form ns i n s t h is same e =
    in_turn-step (puts p form) ns i 0 s t h (ap (λ k. puts p form k s) (sym is) ∙ ap (λ f. puts p f n s) (sym same) ∙ e)

pub put-stops : (p : Profile) (form : Program) (ns : List ℕ) (i n : ℕ) (s : State) (why : Option Refusal) (calls : List StoreCall)
    → i < length ns → n ≡ get_or ns i 0 → s.form ≡ form → Refuses why calls (put_back p (construct p s.form) n s)
    → Refuses why calls (in_turn (puts p form) (drop i ns) s)
put-stops p form ns i n s why calls h is same r =
    in_turn-stop (puts p form) ns i 0 s why calls h
    (same-refuses why calls _ _ (ap (λ k. puts p form k s) (sym is) ∙ ap (λ f. puts p f n s) (sym same)) r)
