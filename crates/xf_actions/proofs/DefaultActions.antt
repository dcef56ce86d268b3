-- Default actions, by what they are.
use Rattle.std.proofs.Common.{ℕ, ◌≡◌, List, map, get_or, unwrap_or, option_map, Bool, true, false, Option, Some, None, bytes_eq, codes, slice_get, Result, Ok, Err, refl, ap, sym, ◌∙◌, if◌then◌else◌}
use Rattle.std.proofs.lemmas.Option.{unwrap_or-slice_get, slice_get-map}
use Rattle.xf_store.specs.declared.answers.Answer.{Answer}
use Rattle.xf_store.specs.declared.call.StoreCall.{StoreCall}
use Rattle.xf_def_syntax.specs.declared.element.Element.{Element}
use Rattle.xf_def_syntax.specs.declared.form.Form.{Form}
use Rattle.xf_def_machine.specs.Program.{Role, role_at}
use Rattle.xf_def_machine.specs.Program as role
use Rattle.xf_def_machine.specs.Tables.{role_of}
use Rattle.xf_def_machine.specs.Profile.{Profile}
use Rattle.xf_def_machine.specs.State.{State}
use Rattle.xf_def_machine.specs.Refusal.{Refusal, Refused}
use Rattle.xf_def_machine.specs.Events.{Fired}
use Rattle.xf_actions.specs.declared.defaults.QuietAction.TheVariants.{Nothing, Rebuild, Recalculate, Revalidate, Reset}
use Rattle.xf_actions.specs.declared.defaults.DefaultAction.{DefaultAction}
use Rattle.xf_actions.specs.declared.defaults.DefaultAction.TheVariants.{Quiet, Refresh, Submit, Send}
use Rattle.xf_actions.specs.Performs.{Refuses, RefusedAs}
use Rattle.xf_actions.specs.Seen.{IsProgram}
use Rattle.xf_actions.specs.Defaulted.{Defaulted, telling, of_model, of_role, defaulted, model_default, default_of, done_by_default}

choice : (p : Profile) (answers : List Answer) (b : Bool) (s : State) (v w : Result Defaulted Refused) (x y : DefaultAction)
    → v ≡ done_by_default p answers x s → w ≡ done_by_default p answers y s → (if b then v else w) ≡ done_by_default p answers (if b then x else y) s
choice p answers true s v w x y first second = first
choice p answers false s v w x y first second = second

of_model-done : (p : Profile) (answers : List Answer) (k : ℕ) (name : List ℕ) (s : State) → of_model p k name s ≡ done_by_default p answers (model_default k name) s
of_model-done p answers k name s =
    choice p answers (bytes_eq name (codes "xforms-rebuild")) s _ _ (Quiet (Rebuild k)) _ refl
    (choice p answers (bytes_eq name (codes "xforms-recalculate")) s _ _ (Quiet (Recalculate k)) _ refl
    (choice p answers (bytes_eq name (codes "xforms-revalidate")) s _ _ (Quiet (Revalidate k)) _ refl
    (choice p answers (bytes_eq name (codes "xforms-refresh")) s _ _ (Refresh k) _ refl
    (choice p answers (bytes_eq name (codes "xforms-reset")) s _ _ (Quiet (Reset k)) (Quiet Nothing) refl refl))))

of_role-done : (p : Profile) (answers : List Answer) (name : List ℕ) (r : Role) (s : State) → of_role p answers name r s ≡ done_by_default p answers (default_of name r) s
of_role-done p answers name (role.model k) s = of_model-done p answers k name s
of_role-done p answers name (role.submission k) s = choice p answers (bytes_eq name (codes "xforms-submit")) s _ _ (Submit k) (Quiet Nothing) refl refl
of_role-done p answers name (role.submit target) s = choice p answers (bytes_eq name (codes "DOMActivate")) s _ _ (Send target) (Quiet Nothing) refl refl
of_role-done p answers name (role.action a) s = refl
of_role-done p answers name role.entry s = refl
of_role-done p answers name role.trigger s = refl
of_role-done p answers name role.other s = refl

pub defaulted-done : (p : Profile) (answers : List Answer) (e : Fired) (s : State) (action : DefaultAction)
    → action ≡ default_of e.event.name (role_at s.form e.event.target) → defaulted p answers e s ≡ done_by_default p answers action s
defaulted-done p answers e s action h =
    of_role-done p answers e.event.name (role_at s.form e.event.target) s ∙ ap (λ (d : DefaultAction). done_by_default p answers d s) (sym h)

refused-telling : (why : Refusal) (calls : List StoreCall) (r : Result (List Fired × State) Refused) → RefusedAs why calls r → RefusedAs why calls (telling r)
refused-telling why calls (Err refusal) h = h
refused-telling why calls (Ok made) h = absurd h

pub refuses-telling : (why : Option Refusal) (calls : List StoreCall) (r : Result (List Fired × State) Refused) → Refuses why calls r → Refuses why calls (telling r)
unfolding Refuses
refuses-telling None calls r h = tt
refuses-telling (Some why) calls r h = refused-telling why calls r h

-- ---- what is no element of the form

role-none : (f : Form) (s : State) (n : ℕ) → IsProgram f s.form → slice_get f.elements n ≡ None → role_at s.form n ≡ role.other
role-none f s n h e =
    ap (λ (roles : List Role). get_or roles n role.other) h.roles
    ∙ sym (unwrap_or-slice_get (map (λ x. role_of x.kind) f.elements) n role.other)
    ∙ ap (λ (o : Option Role). unwrap_or o role.other) (slice_get-map (λ (x : Element). role_of x.kind) f.elements n ∙ ap (option_map (λ (x : Element). role_of x.kind)) e)

pub default-missing : (f : Form) (s : State) (n : ℕ) (name : List ℕ)
    → IsProgram f s.form → slice_get f.elements n ≡ None → Quiet Nothing ≡ default_of name (role_at s.form n)
default-missing f s n name h e = ap (default_of name) (sym (role-none f s n h e))
