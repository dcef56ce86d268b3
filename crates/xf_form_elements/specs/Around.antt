-- What stands around an element: the whole chain, and the switches (XForms 1.1, section 9.2).
use Rattle.std.specs.Prelude.{ℕ, Bool, true, false, List, [], ◌∷◌, filter, if◌then◌else◌}
use Rattle.xf_def_ui.specs.Interface.{Interface, Sort, switch}
use Rattle.xf_def_ui.specs.Elements as ui
use Rattle.xf_def_ui.specs.Elements.{ancestors, element_at, path_to}
use Rattle.xf_form_elements.specs.declared.around.Container.{Container}
use Rattle.xf_form_elements.specs.declared.around.Container.TheVariants as container

-- an element, and what stands around it, the nearest first
abbrev pub chain : Interface → ℕ → List ℕ
chain f n = n ∷ ancestors f n

abbrev pub is_repeat_sort : Sort → Bool
is_repeat_sort sort = ui.is_repeat_sort sort

abbrev pub is_switch_sort : Sort → Bool
is_switch_sort (switch k) = true
is_switch_sort sort = false

abbrev pub is_switch : Interface → ℕ → Bool
is_switch f n = is_switch_sort (element_at f n).sort

-- the outermost first
abbrev pub switches_around : Interface → ℕ → List ℕ
switches_around f n = filter (is_switch f) (path_to f n)

-- ---- of either sort

abbrev pub is_of : Container → Sort → Bool
is_of container.Repeat sort = ui.is_repeat_sort sort
is_of container.Switch sort = is_switch_sort sort

abbrev pub is_container : Container → Interface → ℕ → Bool
is_container c f n = is_of c (element_at f n).sort

abbrev pub containers_around : Container → Interface → ℕ → List ℕ
containers_around c f n = filter (is_container c f) (path_to f n)

abbrev pub one_where : Bool → ℕ → List ℕ
one_where b n = if b then n ∷ [] else []
