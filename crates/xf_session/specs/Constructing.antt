-- What is made of the bytes of a form. Only want of memory is free.
use Rattle.std.specs.Prelude.{◌≡◌, ℕ, Bool, true, false, List, Result, Ok, Err}
use Rattle.xf_form.specs.declared.fault.FormFault.TheVariants as loading
use Rattle.xf_form.specs.declared.loaded.Loaded.{Loaded}
use Rattle.xf_form.specs.Loading.{loaded_in}
use Rattle.xf_def_machine.specs.declared.refusal.Refusal.{Refusal}
use Rattle.xf_def_machine.specs.declared.refusal.Refusal.TheVariants as refusal
use Rattle.xf_def_machine.specs.Refusal as machine
use Rattle.xf_def_machine.specs.State.{State}
use Rattle.xf_def_machine.specs.Construct.{construct}
use Rattle.xf_def_machine.specs.Told.{Tells}
use Rattle.xf_def_form.specs.Formed.{program_in, profile}
use Rattle.xf_session.specs.declared.forms.FormFault.{FormFault}
use Rattle.xf_session.specs.declared.forms.FormFault.TheVariants.{NotForm, Refused, Memory}

-- binds set a property twice, or a calculate where elements stand, or make a cycle; or a limit is passed
abbrev pub is_of_form : Refusal → Bool
is_of_form (refusal.PropertyTwice path) = true
is_of_form (refusal.CalculateOnParent path) = true
is_of_form (refusal.Circular paths) = true
is_of_form (refusal.Limit word) = true
is_of_form other = false

-- the construction is refused, for this reason
abbrev pub IsNotConstructed : Refusal → Result State machine.Refused → Type 0
IsNotConstructed why (Ok s) = ⊥
IsNotConstructed why (Err given) = Tells why given.why × (is_of_form why ≡ true)

-- the bytes are loaded, and of the construction of what they give this holds
abbrev pub Loads : List ℕ → (Result State machine.Refused → Type 0) → Type 0
Loads bytes holds = (l : Loaded) × (loaded_in bytes ≡ Ok l) × holds (construct profile (program_in l))

-- the form of the bytes stands in the state that its construction left; or they are no form; or its construction is refused
abbrev pub Constructs : {C : Type 0} → (C → State) → List ℕ → Result C FormFault → Type 0
Constructs first bytes (Ok c) = Loads bytes (λ given. given ≡ Ok (first c))
Constructs first bytes (Err (NotForm number place)) = loaded_in bytes ≡ Err (loading.Refused number place)
Constructs first bytes (Err (Refused why)) = Loads bytes (IsNotConstructed why)
Constructs first bytes (Err Memory) = Unit {0}
