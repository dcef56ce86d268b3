-- The action that an element of the tables of a form is.
use Rattle.std.proofs.Common.{ℕ, ◌≡◌, List, map, get_or, slice_get, Some, None, option_map, unwrap_or, refl, ap, sym, ◌∙◌}
use Rattle.std.proofs.lemmas.Option.{unwrap_or-slice_get, slice_get-map}
use Rattle.xf_def_syntax.specs.declared.element.Element.{Element}
use Rattle.xf_def_syntax.specs.declared.element.Control.{Control}
use Rattle.xf_def_syntax.specs.declared.element.Control.TheVariants as control
use Rattle.xf_def_syntax.specs.declared.form.Form.{Form}
use Rattle.xf_def_machine.specs.Program.{other}
use Rattle.xf_def_machine.specs.Tables.{role_of, role_of_control}
use Rattle.xf_def_machine.specs.State.{State}
use Rattle.xf_def_machine.specs.Acting.{act_in, act_at}
use Rattle.xf_actions.specs.Seen.{IsProgram}
use Rattle.xf_actions.specs.Parts.{action_at}

role-at : (xs : List Element) (n : ℕ) → get_or (map (λ e. role_of e.kind) xs) n other ≡ unwrap_or (option_map (λ e. role_of e.kind) (slice_get xs n)) other
role-at xs n = sym (unwrap_or-slice_get (map (λ e. role_of e.kind) xs) n other) ∙ ap (λ o. unwrap_or o other) (slice_get-map (λ e. role_of e.kind) xs n)

pub role-found : (xs : List Element) (n : ℕ) (e : Element) → slice_get xs n ≡ Some e
    → act_in (get_or (map (λ e. role_of e.kind) xs) n other) ≡ act_in (role_of e.kind)
role-found xs n e h = ap act_in (role-at xs n ∙ ap (λ o. unwrap_or (option_map (λ e. role_of e.kind) o) other) h)

pub role-missing : (xs : List Element) (n : ℕ) → slice_get xs n ≡ None → act_in (get_or (map (λ e. role_of e.kind) xs) n other) ≡ None
role-missing xs n h = ap act_in (role-at xs n ∙ ap (λ o. unwrap_or (option_map (λ e. role_of e.kind) o) other) h)

-- a control is no action
pub control-none : (c : Control) → act_in (role_of_control c) ≡ None
control-none control.Group = refl
control-none (control.Switch k) = refl
control-none (control.Case is_selected) = refl
control-none (control.Repeat k start) = refl
control-none control.Input = refl
control-none control.Secret = refl
control-none control.Textarea = refl
control-none (control.Output expr) = refl
control-none (control.Select is_free) = refl
control-none (control.SelectOne is_free) = refl
control-none control.Trigger = refl
control-none (control.Submit k) = refl

-- the tables say what the machine sees
pub act-in-tables : (f : Form) (s : State) (n : ℕ) → IsProgram f s.form → act_at s n ≡ action_at f n
act-in-tables f s n h = ap (λ roles. act_in (get_or roles n other)) h.roles
