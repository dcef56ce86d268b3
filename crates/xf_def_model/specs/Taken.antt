-- Which nodes a delete takes (XForms 1.1, section 10.4).
use Rattle.std.specs.Prelude.{ℕ, Bool, false, not, ◌&&◌, List, [], ◌∷◌, ℤ, Option, Some, None, if◌then◌else◌}
use Rattle.std.specs.List.{list_any}
use Rattle.xf_def_forest.specs.declared.content.Node.{Node}
use Rattle.xf_def_forest.specs.Forest.{is_root}
use Rattle.xf_def_forest.specs.Visit.{Visit, visits, has, parent_of, ancestors_of}
use Rattle.xf_def_xpath.specs.Binding.{as_list}
use Rattle.xf_def_model.specs.declared.asked.DeleteAsked.{DeleteAsked}
use Rattle.xf_def_model.specs.Places.{named_by, is_in}

-- all nodes of the set, or the one that `at` names
abbrev pub asked_of : Option ℤ → List ℕ → List ℕ
asked_of None ns = ns
asked_of (Some k) ns = as_list (named_by (Some k) ns)

-- the parent is no root, so that the node is no document element, and is not readonly
abbrev pub is_open : List Visit → List ℕ → Option ℕ → Bool
is_open all closed None = false
is_open all closed (Some parent) = not (is_in is_root all parent) && not (has parent closed)

-- no ancestor of the node is taken itself
abbrev pub is_apart : List Visit → List ℕ → ℕ → Bool
is_apart all taken n = not (list_any (λ m. has m taken) (ancestors_of n all))

abbrev pub taken_from : List Visit → List ℕ → List ℕ → List ℕ → List ℕ
taken_from all closed taken [] = []
taken_from all closed taken (n ∷ ns) =
    if is_open all closed (parent_of n all) && is_apart all taken n then n ∷ taken_from all closed (n ∷ taken) ns else taken_from all closed taken ns

-- one after the other in document order
abbrev pub planned_delete : List Node → DeleteAsked → List ℕ
planned_delete nodes asked = taken_from (visits nodes) asked.closed [] (asked_of asked.at asked.set)
