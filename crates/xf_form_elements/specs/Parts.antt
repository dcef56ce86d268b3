-- What stands in a part of an element: host elements are looked through (XForms 1.1, sections 10.1 and 10.2).
use Rattle.std.specs.Prelude.{ℕ, Bool, true, false, List, [], if◌then◌else◌}
use Rattle.xf_def_syntax.specs.declared.element.Part.{Part}
use Rattle.xf_def_syntax.specs.declared.element.Part.TheVariants as part
use Rattle.xf_def_ui.specs.Elements.{element_at}
use Rattle.xf_def_ui.specs.Interface.{Interface, Sort, host}

abbrev pub is_host : Sort → Bool
is_host host = true
is_host sort = false

-- what stands in a part that is a host element
abbrev pub host_parts : Interface → Part → List Part
host_parts f (part.Text text) = []
host_parts f (part.Element n) = if is_host (element_at f n).sort then (element_at f n).parts else []

abbrev pub own_text : Part → List ℕ
own_text (part.Text text) = text
own_text (part.Element n) = []
