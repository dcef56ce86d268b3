-- How the answer of `apply` stands to what the binds of a model set (XForms 1.1, sections 3.3.4 and 4.3.1): the places of nodes in memory
-- do not count, and only want of memory is free.
use Rattle.std.specs.Prelude.{◌≡◌, List, Result, Ok, Err}
use Rattle.xf_def_model.specs.Applied.{Entry, Exception, twice, on_parent}
use Rattle.xf_binds.specs.Held.{Held, entries_in}
use Rattle.xf_binds_apply.specs.declared.fault.BindFault.{BindFault}
use Rattle.xf_binds_apply.specs.declared.fault.BindFault.TheVariants.{Twice, OnParent, Memory}

abbrev pub IsApplied : Result (List Held) BindFault → Result (List Entry) Exception → Type 0
IsApplied (Ok held) given = given ≡ Ok (entries_in held)
IsApplied (Err (Twice node)) given = given ≡ Err (twice node.number)
IsApplied (Err (OnParent node)) given = given ≡ Err (on_parent node.number)
IsApplied (Err Memory) given = Unit {0}
