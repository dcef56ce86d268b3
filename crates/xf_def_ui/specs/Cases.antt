-- The cases of switches (XForms 1.1, section 9.2): a switch has one selected case, counted from 0, for the whole form.
use Rattle.std.specs.Prelude.{ℕ, Bool, true, false, List, map, filter, get_or, find, Option, Some, None, ◌==◌}
use Rattle.std.specs.List.{position_or_len, list_all}
use Rattle.xf_def_ui.specs.Interface.{Sort, Interface, switch, one_case}
use Rattle.xf_def_ui.specs.Elements.{element_at, children, ancestors}

-- the sort of a case
abbrev pub is_case_sort : Sort → Bool
is_case_sort (one_case is_selected) = true
is_case_sort sort = false

-- the element is a case
abbrev pub is_case : Interface → ℕ → Bool
is_case f n = is_case_sort (element_at f n).sort

-- the cases of a switch, in document order
abbrev pub cases_of : Interface → ℕ → List ℕ
cases_of f n = filter (is_case f) (children f n)

-- ---- at first

-- the case is written as selected
abbrev pub is_written_selected : Sort → Bool
is_written_selected (one_case is_selected) = is_selected
is_written_selected sort = false

-- the first of all where none is found
abbrev pub or_first : Option ℕ → List ℕ → ℕ
or_first None ns = get_or ns 0 0
or_first (Some n) ns = n

-- the first case that is written as selected, else the first one
abbrev pub first_case : Interface → ℕ → ℕ
first_case f n = or_first (find (λ m. is_written_selected (element_at f m).sort) (cases_of f n)) (cases_of f n)

-- the place of a case among those of its switch, from 0
abbrev pub place_of_case : Interface → ℕ → ℕ → ℕ
place_of_case f n one = position_or_len (λ m. m == one) (cases_of f n)

-- the selected cases of all switches
abbrev pub first_cases : Interface → List ℕ
first_cases f = map (λ n. place_of_case f n (first_case f n)) f.switches

-- ---- among selected cases

-- by what stands around the case: the selected one of that switch is this one
abbrev pub is_case_of : Interface → List ℕ → ℕ → Option ℕ → Sort → Bool
is_case_of f cases one (Some n) (switch k) = place_of_case f n one == get_or cases k 0
is_case_of f cases one parent sort = false

-- the sort of the element around
abbrev pub sort_above : Interface → Option ℕ → Sort
sort_above f None = one_case true
sort_above f (Some n) = (element_at f n).sort

-- the case is the selected one of its switch
abbrev pub is_selected : Interface → List ℕ → ℕ → Bool
is_selected f cases one = let parent = (element_at f one).parent in is_case_of f cases one parent (sort_above f parent)

-- the element is no case, or the selected one
abbrev pub if_case : Interface → List ℕ → ℕ → Sort → Bool
if_case f cases n (one_case is_written) = is_selected f cases n
if_case f cases n sort = true

-- the element is not inside a case that is not selected; a case is not inside itself
abbrev pub is_in_selected : Interface → List ℕ → ℕ → Bool
is_in_selected f cases n = list_all (λ m. if_case f cases m (element_at f m).sort) (ancestors f n)
