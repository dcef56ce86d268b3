-- The cases among the parts of an element, one part after the other, and the switch that an element is (XForms 1.1, section 9.2).
use Rattle.std.specs.Prelude.{ℕ, List, Option, Some, None, filter, if◌then◌else◌}
use Rattle.std.specs.List.{flat_map}
use Rattle.xf_def_syntax.specs.declared.element.Part.{Part}
use Rattle.xf_def_syntax.specs.declared.element.Part.TheVariants as part
use Rattle.xf_def_syntax.specs.Ordered.{child_in}
use Rattle.xf_def_ui.specs.Cases.{is_case}
use Rattle.xf_def_ui.specs.Interface.{Interface, Sort, switch}

-- the part as a case
abbrev pub own_case : Interface → Part → Option ℕ
own_case f (part.Text text) = None
own_case f (part.Element n) = if is_case f n then Some n else None

abbrev pub cases_among : Interface → List Part → List ℕ
cases_among f parts = filter (is_case f) (flat_map child_in parts)

-- by its number
abbrev pub own_switch : Sort → Option ℕ
own_switch (switch k) = Some k
own_switch sort = None
