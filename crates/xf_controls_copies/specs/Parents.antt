-- Where the elements of a form stand: each in the one that it has as parent (XForms 1.1, section 2).
use Rattle.std.specs.Prelude.{ℕ, Bool, ◌&&◌}
use Rattle.std.specs.List.{flat_map, list_all}
use Rattle.xf_def_syntax.specs.Ordered.{child_in, numbered_from}
use Rattle.xf_def_ui.specs.Interface.{Element, Interface}
use Rattle.xf_def_ui.specs.Elements.{element_at}
use Rattle.xf_controls.specs.Plain.{are_children, is_top}

-- what stands in it has it as parent
abbrev pub has_children : Interface → ℕ × Element → Bool
has_children f e = are_children f e.0 (flat_map child_in e.1.parts)

-- each element stands where its parent says, and the first one in none, as in every form that is loaded
abbrev pub are_parents : Interface → Bool
are_parents f = is_top (element_at f 0).parent && list_all (has_children f) (numbered_from 0 f.elements)
