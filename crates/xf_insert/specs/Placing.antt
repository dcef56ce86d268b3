-- Where the copies of an insert go, by the node at which they go (XForms 1.1, section 10.3).
use Rattle.std.specs.Prelude.{ℕ, suc, Bool, not, ◌&&◌, ℤ, List, [], ◌∷◌, filter, find, Option, Some, None, if◌then◌else◌}
use Rattle.xf_def_forest.specs.declared.content.Content.{Content}
use Rattle.xf_def_forest.specs.Changes.{place_among}
use Rattle.xf_def_forest.specs.Forest.{is_attribute, is_element}
use Rattle.xf_def_forest.specs.Visit.{Visit, children_of, parent_of}
use Rattle.xf_def_forest.specs.WellFormed.{have_same_name}
use Rattle.xf_def_model.specs.Places as model
use Rattle.xf_def_model.specs.Places.{Place, content_in, is_in, name_of, named_by, named_place, row_place, within}
use Rattle.xf_def_machine.specs.Insert.{is_written}
use Rattle.xf_def_machine.specs.Program.{InsertBy}

abbrev pub among : (Content → Bool) → List Visit → List ℕ → List ℕ
among test all ns = filter (is_in test all) ns

abbrev pub beside : List Visit → Bool → ℕ → ℕ → List ℕ → List Place
beside all after parent n elements =
    let before = place_among n (children_of parent all) in within all parent (if after then suc before else before) [] elements

abbrev pub at_node : List Visit → Bool → List ℕ → ℕ → List Place
at_node all after origin n = model.at_node all after origin n (content_in all n) (parent_of n all)

abbrev pub at_some : List Visit → Bool → List ℕ → Option ℕ → List Place
at_some all after origin None = []
at_some all after origin (Some n) = at_node all after origin n

abbrev pub places_in : List Visit → InsertBy → ℕ → List ℕ → List ℕ → Option ℤ → List Place
places_in all w context [] origin at = if is_written w.context && is_in is_element all context then within all context 0 [] origin else []
places_in all w context (n ∷ ns) origin at = at_some all (not w.is_before) origin (named_by at (n ∷ ns))

abbrev pub is_alike : List Visit → ℕ → ℕ → Bool
is_alike all n m = is_in is_attribute all m && have_same_name (name_of all n) (name_of all m)

abbrev pub first_named : List Visit → ℕ → List ℕ → Option ℕ
first_named all n ns = find (λ m. have_same_name (name_of all n) (name_of all m)) ns

-- the place of the copy of a node within a parent: of an element one of the row, of an attribute the one of its name, of others none
abbrev pub copy_of : List Visit → ℕ → ℕ → List Place → ℕ → List Place
copy_of all parent before earlier n =
    if is_in is_element all n then row_place parent before n ∷ [] else if is_in is_attribute all n then named_place all parent earlier n ∷ [] else []

-- how many children come before the next one
abbrev pub next_of : List Visit → ℕ → ℕ → ℕ
next_of all before n = if is_in is_element all n then suc before else before
