-- What is due of a model, as it is kept and as the form machine has it (XForms 1.1, section 4.3).
use Rattle.std.specs.Prelude.{Bool, true, false}
use Rattle.xf_def_machine.specs.State as machine
use Rattle.xf_engine_state.specs.declared.flags.Flag.{Flag}
use Rattle.xf_engine_state.specs.declared.flags.Flag.TheVariants.{Rebuild, Recalculate, Revalidate, Refresh}
use Rattle.xf_engine_state.specs.declared.flags.Flags.{Flags}

abbrev pub flags_of : Flags → machine.Flags
flags_of f = record { rebuild = f.rebuild; recalculate = f.recalculate; revalidate = f.revalidate; refresh = f.refresh }

abbrev pub flag_of : Flag → machine.Flags → Bool
flag_of Rebuild f = f.rebuild
flag_of Recalculate f = f.recalculate
flag_of Revalidate f = f.revalidate
flag_of Refresh f = f.refresh

abbrev pub none_due : Flags
none_due = record { rebuild = false; recalculate = false; revalidate = false; refresh = false }

abbrev pub without : Flag → Flags → Flags
without Rebuild f = record f { rebuild = false }
without Recalculate f = record f { recalculate = false }
without Revalidate f = record f { revalidate = false }
without Refresh f = record f { refresh = false }

abbrev pub with_refresh : Bool → Flags → Flags
with_refresh due f = record f { refresh = due }

abbrev pub without_refresh : Flags → Flags
without_refresh f = record f { refresh = false }

-- all but the rebuild
abbrev pub with_texts : Flags → Flags
with_texts f = record { rebuild = f.rebuild; recalculate = true; revalidate = true; refresh = true }
