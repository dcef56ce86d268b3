-- Entries that come one by one behind others, and where an exception stops them (XForms 1.1, section 3.3.4).
use Rattle.std.specs.Prelude.{◌≡◌, Bool, true, false, List, [], ◌∷◌, ◌++◌, Option, Some, None, Result, Ok, Err}
use Rattle.xf_def_forest.specs.Visit.{Visit}
use Rattle.xf_def_model.specs.declared.property.Property.{Property}
use Rattle.xf_def_model.specs.Applied.{Entry, Exception, twice, on_parent, exception_at, or_later}
use Rattle.xf_binds_apply.specs.declared.fault.BindFault.{BindFault}
use Rattle.xf_binds_apply.specs.declared.fault.BindFault.TheVariants.{Twice, OnParent, Memory}

-- the first exception of those that come behind the others
abbrev pub exception_after : List Visit → List Entry → List Entry → Option Exception
exception_after all done [] = None
exception_after all done (e ∷ es) = or_later (exception_at all done e) (exception_after all (done ++ e ∷ []) es)

-- the exception that a fault tells; want of memory tells none
abbrev pub Tells : BindFault → Option Exception → Type 0
Tells (Twice node) given = given ≡ Some (twice node.number)
Tells (OnParent node) given = given ≡ Some (on_parent node.number)
Tells Memory given = Unit {0}

-- all came, without an exception
abbrev pub Added : List Visit → List Entry → List Entry → List Entry → Type 0
Added all done more after = (after ≡ done ++ more) × (exception_after all done more ≡ None)

-- or a fault tells the first one
abbrev pub Adds : {U : Type 0} → List Visit → List Entry → List Entry → List Entry → Result U BindFault → Type 0
Adds all done more after (Ok u) = Added all done more after
Adds all done more after (Err fault) = Tells fault (exception_after all done more)

-- ---- properties

abbrev pub if_set : Bool → Property → List Property
if_set true p = p ∷ []
if_set false p = []
