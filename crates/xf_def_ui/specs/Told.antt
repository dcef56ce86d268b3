-- What an event tells beside its name: its properties, by name.
use Rattle.std.specs.Prelude.{ℕ, List, map}
use Rattle.xf_def_xpath.specs.declared.value.Value.{Value}
use Rattle.xf_def_ui.specs.declared.told.Property.{Property}

abbrev pub told_of : List Property → List (List ℕ × Value)
told_of properties = map (λ q. (q.name, q.value)) properties
