-- What the engine makes of a form that is loaded.
use Rattle.std.specs.Prelude.{◌≡◌, Result, Ok, Err}
use Rattle.xf_form.specs.declared.fault.FormFault as loading
use Rattle.xf_form.specs.declared.fault.FormFault.TheVariants as load_fault
use Rattle.xf_form.specs.declared.loaded.Loaded.{Loaded}
use Rattle.xf_def_machine.specs.Construct.{construct}
use Rattle.xf_def_form.specs.Formed.{profile, program_in}
use Rattle.xf_engine_world.specs.declared.form_world.FormWorld.{FormWorld}
use Rattle.xf_engine_world.specs.State.{state_of}
use Rattle.xf_engine.specs.declared.constructed.Constructed.{Constructed}
use Rattle.xf_session.specs.Constructing.{IsNotConstructed}
use Rattle.xf_session.specs.declared.forms.FormFault.{FormFault}
use Rattle.xf_session.specs.declared.forms.FormFault.TheVariants.{NotForm, Refused, Memory}

-- it is constructed, or that is refused
abbrev pub IsMade : Loaded → Result (Constructed FormWorld) FormFault → Type 0
IsMade l (Ok c) = construct profile (program_in l) ≡ Ok (state_of c.world)
IsMade l (Err (NotForm number place)) = ⊥
IsMade l (Err (Refused why)) = IsNotConstructed why (construct profile (program_in l))
IsMade l (Err Memory) = Unit {0}

-- why bytes are no form
abbrev pub of_loading : loading.FormFault → FormFault
of_loading (load_fault.Refused number place) = NotForm number place
of_loading load_fault.Memory = Memory
