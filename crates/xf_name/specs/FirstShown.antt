-- The first fault of elements, by what names need of them.
use Rattle.std.specs.Prelude.{ℕ, ◌+◌, List, [], ◌∷◌, Option, None}
use Rattle.xf_name.specs.Bindings.{Bindings}
use Rattle.xf_name.specs.Faults.{name_fault}
use Rattle.xf_name.specs.Shown.{Shown}
use Rattle.xf_name.specs.Survey.{fault_or}
use Rattle.xf_name.specs.declared.form_names.FirstFault.{FirstFault}

abbrev pub first_shown : Bindings → ℕ → List Shown → Option FirstFault
first_shown b n [] = None
first_shown b n (e ∷ es) = fault_or n (name_fault b e.0 e.1) (first_shown b (n + 1) es)
