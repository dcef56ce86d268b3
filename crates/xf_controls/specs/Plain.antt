-- Forms of which each control and container has one copy: no element of them is a repeat, a switch, a case or a select (XForms 1.1, sections
-- 8.1.10, 8.1.11, 9.2 and 9.3).
use Rattle.std.specs.Prelude.{ℕ, Bool, true, false, ◌&&◌, List, Option, Some, None}
use Rattle.std.specs.List.{flat_map, list_all}
use Rattle.xf_def_syntax.specs.Ordered.{child_in, is_none, is_parent, numbered_from}
use Rattle.xf_def_ui.specs.Interface.{Sort, Element, Interface, switch, one_case, repeated, select}
use Rattle.xf_def_ui.specs.Elements.{element_at}

abbrev pub is_plain_sort : Sort → Bool
is_plain_sort (switch k) = false
is_plain_sort (one_case is_selected) = false
is_plain_sort (repeated k start) = false
is_plain_sort (select many is_free) = false
is_plain_sort sort = true

-- these have the element as parent
abbrev pub are_children : Interface → ℕ → List ℕ → Bool
are_children f n ms = list_all (λ m. is_parent n (element_at f m).parent) ms

-- what stands in it has it as parent
abbrev pub stands_plainly : Interface → ℕ × Element → Bool
stands_plainly f e = is_plain_sort e.1.sort && are_children f e.0 (flat_map child_in e.1.parts)

abbrev pub is_top : Option ℕ → Bool
is_top None = true
is_top (Some n) = false

-- each element stands where its parent says, as in every form that is loaded
abbrev pub is_plain : Interface → Bool
is_plain f = is_top (element_at f 0).parent && (is_none f.repeats && list_all (stands_plainly f) (numbered_from 0 f.elements))
