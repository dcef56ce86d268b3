-- The machine of the sessions of this processor: their forms are those that are loaded. No form can ask yet for what was done to be undone.
use Rattle.std.specs.Prelude.{false, Option, Some, None, Result, Ok, Err}
use Rattle.xf_form.specs.declared.fault.FormFault.{FormFault}
use Rattle.xf_form.specs.declared.loaded.Loaded.{Loaded}
use Rattle.xf_form.specs.Loading.{loaded_in}
use Rattle.xf_def_machine.specs.Program.{Program}
use Rattle.xf_def_form.specs.Formed.{profile, program_in}
use Rattle.xf_def_sessions.specs.Sessions.{Machine}

abbrev pub loaded_program : Result Loaded FormFault → Option Program
loaded_program (Ok l) = Some (program_in l)
loaded_program (Err fault) = None

abbrev pub usual : Machine
usual = record { profile = profile; form_in = λ bytes. loaded_program (loaded_in bytes); keeps_past = λ bytes. false }
