-- What is made of the bytes of a form.
use Rattle.std.proofs.Common.{◌≡◌, ◌⊎◌, Bool, true, List, ℕ, Result, Ok, Err, refl, ap, sym, ◌∙◌, subst, inl, inr}
use Rattle.xf_form.specs.declared.fault.FormFault as loading
use Rattle.xf_form.specs.declared.fault.FormFault.TheVariants as load_fault
use Rattle.xf_form.specs.declared.loaded.Loaded.{Loaded}
use Rattle.xf_form.specs.Loading.{loaded_in}
use Rattle.xf_def_machine.specs.declared.refusal.Refusal.{Refusal}
use Rattle.xf_def_machine.specs.declared.refusal.Refusal.TheVariants as refusal
use Rattle.xf_def_machine.specs.Refusal as machine
use Rattle.xf_def_machine.specs.State.{State}
use Rattle.xf_def_machine.specs.Construct.{construct}
use Rattle.xf_def_form.specs.Formed.{profile, program_in}
use Rattle.xf_actions.specs.declared.fault.EventFault.{EventFault}
use Rattle.xf_actions.specs.declared.fault.EventFault.TheVariants as event
use Rattle.xf_engine_world.specs.declared.form_world.FormWorld.{FormWorld}
use Rattle.xf_engine_world.specs.State.{state_of}
use Rattle.xf_engine_world.specs.Constructed as engine
use Rattle.xf_engine.specs.declared.constructed.Constructed.{Constructed}
use Rattle.xf_session.specs.Constructing.{is_of_form, IsNotConstructed, Loads, Constructs}
use Rattle.xf_session.specs.declared.forms.FormFault.{FormFault}
use Rattle.xf_session.specs.declared.forms.FormFault.TheVariants as forms
use Rattle.xf_cli.specs.Made.{IsMade, of_loading}

-- ---- a construction that is refused

of-form : (r : Refusal) → engine.is_of_form r ≡ true → is_of_form r ≡ true
of-form (refusal.PropertyTwice path) h = refl
of-form (refusal.CalculateOnParent path) h = refl
of-form (refusal.Circular paths) h = refl
of-form (refusal.Limit word) h = refl
of-form refusal.NoSuchTarget h = h
of-form refusal.Disabled h = h
of-form refusal.ReadOnly h = h
of-form refusal.NotAnItem h = h
of-form refusal.BadIndex h = h
of-form (refusal.Binding path) h = h
of-form refusal.Budget h = h
of-form refusal.Depth h = h
of-form refusal.Sends h = h

refused-so : (r : Refusal) (given : Result State machine.Refused) → engine.IsConstructed (Err (event.Refused r)) given → IsNotConstructed r given
refused-so r (Ok s) h = absurd h.0
refused-so r (Err given) h = (h.0.0, of-form r h.1)

pub made_refused : (f : EventFault) (r : Refusal) (given : Result State machine.Refused) → f ≡ event.Refused r → engine.IsConstructed (Err f) given → IsNotConstructed r given
made_refused f r given same h = refused-so r given (subst (λ x. engine.IsConstructed (Err x) given) same h)

pub made_world : (given : Result State machine.Refused) (c : Constructed FormWorld) (w : FormWorld) → given ≡ Ok (state_of w) → c.world ≡ w → given ≡ Ok (state_of c.world)
made_world given c w h e = h ∙ ap (λ (x : FormWorld). Ok (state_of x)) (sym e)

-- ---- of the bytes

pub of_made : (bytes : List ℕ) (l : Loaded) (result : Result (Constructed FormWorld) FormFault) → loaded_in bytes ≡ Ok l → IsMade l result → Constructs (λ (c : Constructed FormWorld). state_of c.world) bytes result
of_made bytes l (Ok c) e h = (l, e, h)
of_made bytes l (Err (forms.NotForm number place)) e h = absurd h
of_made bytes l (Err (forms.Refused why)) e h = (l, e, h)
of_made bytes l (Err forms.Memory) e h = tt

pub not_form : (bytes : List ℕ) (f : loading.FormFault) (r : FormFault) → r ≡ of_loading f → (f ≡ load_fault.Memory) ⊎ (loaded_in bytes ≡ Err f)
    → Constructs (λ (c : Constructed FormWorld). state_of c.world) bytes (Err r)
not_form bytes f r is given = subst (λ x. Constructs (λ (c : Constructed FormWorld). state_of c.world) bytes (Err x)) (sym is) (by f given)
  where
    by : (f : loading.FormFault) → (f ≡ load_fault.Memory) ⊎ (loaded_in bytes ≡ Err f) → Constructs (λ (c : Constructed FormWorld). state_of c.world) bytes (Err (of_loading f))
    by (load_fault.Refused number place) (inl memory) = cc
    by (load_fault.Refused number place) (inr e) = e
    by load_fault.Memory given = tt
