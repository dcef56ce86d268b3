-- What stands around an element of a form, and what in it.
use Rattle.std.specs.Prelude.{ℕ, zero, suc, Bool, true, false, List, [], ◌∷◌, map, filter, reverse, length, Option, Some, None, get_or}
use Rattle.std.specs.List.{flat_map}
use Rattle.xf_def_syntax.specs.Ordered.{child_in}
use Rattle.xf_def_ui.specs.Interface.{Element, Interface, Sort, host, group, switch, one_case, repeated, field, output, select, action, unbound}

-- in place of one that does not stand in the form
abbrev pub no_element : Element
no_element = record { id = []; parent = None; parts = []; model = None; binding = unbound; sort = host }

-- the element with a number
abbrev pub element_at : Interface → ℕ → Element
element_at f n = get_or f.elements n no_element

-- the elements that stand in an element, in document order
abbrev pub children : Interface → ℕ → List ℕ
children f n = flat_map child_in (element_at f n).parts

-- the elements above, of which there are at most so many
abbrev pub above : ℕ → Interface → Option ℕ → List ℕ
above zero f parent = []
above (suc most) f None = []
above (suc most) f (Some n) = n ∷ above most f (element_at f n).parent

-- the nearest first
abbrev pub ancestors : Interface → ℕ → List ℕ
ancestors f n = above (length f.elements) f (element_at f n).parent

-- from the root down to the parent
abbrev pub path_to : Interface → ℕ → List ℕ
path_to f n = reverse (ancestors f n)

-- the elements with these numbers
abbrev pub elements_on : Interface → List ℕ → List Element
elements_on f ns = map (element_at f) ns

-- ---- sorts of elements

-- the sort of a repeat
abbrev pub is_repeat_sort : Sort → Bool
is_repeat_sort (repeated k start) = true
is_repeat_sort sort = false

-- the element is a repeat
abbrev pub is_repeat : Interface → ℕ → Bool
is_repeat f n = is_repeat_sort (element_at f n).sort

-- the outermost first
abbrev pub repeats_around : Interface → ℕ → List ℕ
repeats_around f n = filter (is_repeat f) (path_to f n)

-- the number of a repeat among the repeats
abbrev pub repeat_number : Sort → ℕ
repeat_number (repeated k start) = k
repeat_number sort = 0

-- the index that a repeat starts at
abbrev pub repeat_start : Sort → ℕ
repeat_start (repeated k start) = start
repeat_start sort = 1

-- the containers (section 9)
abbrev pub is_container : Sort → Bool
is_container group = true
is_container (switch k) = true
is_container (one_case is_selected) = true
is_container (repeated k start) = true
is_container sort = false

-- of these a form has copies: core controls (section 8) and containers
abbrev pub is_control : Sort → Bool
is_control field = true
is_control (output expr) = true
is_control (select many is_free) = true
is_control sort = is_container sort

-- ---- through host elements

-- the sort of an action
abbrev pub is_action : Sort → Bool
is_action (action handler) = true
is_action sort = false

-- the element itself, or what stands in it where it is a host element
abbrev pub through : (List ℕ → List ℕ) → Interface → ℕ → Sort → List ℕ
through further f n host = further (children f n)
through further f n sort = n ∷ []

-- in place of each host element, of which at most so many are nested, what stands in it
abbrev pub looked_through : ℕ → Interface → List ℕ → List ℕ
looked_through zero f ns = []
looked_through (suc most) f ns = flat_map (λ n. through (looked_through most f) f n (element_at f n).sort) ns

-- the actions in an action, in document order (section 10.1)
abbrev pub actions_in : Interface → ℕ → List ℕ
actions_in f n = filter (λ m. is_action (element_at f m).sort) (looked_through (length f.elements) f (children f n))
