-- Where the copies of an insert go (XForms 1.1, section 10.3).
use Rattle.std.specs.Prelude.{ℕ, suc, ◌-◌, Bool, true, false, not, ◌&&◌, List, [], ◌∷◌, ◌++◌, filter, find, length, ℤ, pos, Option, Some, None, option_map, option_and_then, int_lt, slice_get, unsigned_abs, ◌==◌, if◌then◌else◌}
use Rattle.std.specs.List.{list_any}
use Rattle.xf_def_forest.specs.declared.content.Node.{Node}
use Rattle.xf_def_forest.specs.declared.content.Content.{Content}
use Rattle.xf_def_forest.specs.declared.content.Content.TheVariants.{Element, Attribute}
use Rattle.xf_def_forest.specs.declared.content.Name.{Name}
use Rattle.xf_def_forest.specs.Forest.{is_root, is_element, is_attribute, name_in}
use Rattle.xf_def_forest.specs.Visit.{Visit, visits, has, is_first, parent_of, children_of}
use Rattle.xf_def_forest.specs.Changes.{place_among}
use Rattle.xf_def_forest.specs.WellFormed.{have_same_name}
use Rattle.xf_def_model.specs.declared.asked.InsertAsked.{InsertAsked}

-- where one copy goes, the copies before it standing
pub record Place : Type 0 where
  -- the node that is copied
  pub origin : ℕ
  pub parent : ℕ
  -- how many children of the parent come before it; an attribute has none, since it stands by its name
  pub place : ℕ
  -- the node of the forest that it replaces
  pub replaces : Option ℕ
  -- of the places before, from 0, the one whose copy it replaces
  pub again : Option ℕ

-- ---- the place that `at` names

-- held between 1 and the size; the last where it is not written
abbrev pub held : ℕ → Option ℤ → ℕ
held size None = size
held size (Some k) = if int_lt k (pos 1) then 1 else if int_lt (pos size) k then size else unsigned_abs k

abbrev pub named_by : Option ℤ → List ℕ → Option ℕ
named_by at ns = slice_get ns (held (length ns) at - 1)

-- ---- what is known of a node

abbrev pub content_in : List Visit → ℕ → Option Content
content_in all n = option_map (λ x. x.content) (find (λ x. x.number == n) all)

abbrev pub is_in : (Content → Bool) → List Visit → ℕ → Bool
is_in test all n = list_any (λ x. (x.number == n) && test x.content) all

abbrev pub name_of : List Visit → ℕ → Option Name
name_of all n = option_and_then name_in (content_in all n)

-- ---- copies of elements

abbrev pub row_place : ℕ → ℕ → ℕ → Place
row_place parent place n = record { origin = n; parent = parent; place = place; replaces = None; again = None }

abbrev pub elements_among : List Visit → List ℕ → List ℕ
elements_among all ns = filter (is_in is_element all) ns

-- in place of a document element: the first alone
abbrev pub instead : ℕ → ℕ → List ℕ → List Place
instead root n [] = []
instead root n (m ∷ ms) = record (row_place root 0 m) { replaces = Some n } ∷ []

-- ---- copies of attributes

-- the attribute of the parent with the name of this one
abbrev pub namesake : List Visit → ℕ → ℕ → Option ℕ
namesake all parent n =
    option_map (λ x. x.number) (find (λ x. is_first parent x.above && is_attribute x.content && have_same_name (name_of all n) (name_in x.content)) all)

-- the last of the places before that have a copy of an attribute of its name
abbrev pub later_one : Option ℕ → ℕ → Bool → Option ℕ
later_one (Some k) at is_one = Some k
later_one None at true = Some at
later_one None at false = None

abbrev pub last_alike : List Visit → ℕ → ℕ → List Place → Option ℕ
last_alike all n at [] = None
last_alike all n at (p ∷ ps) =
    later_one (last_alike all n (suc at) ps) at (is_in is_attribute all p.origin && have_same_name (name_of all n) (name_of all p.origin))

abbrev pub unless_again : Option ℕ → Option ℕ → Option ℕ
unless_again None namesake = namesake
unless_again (Some k) namesake = None

abbrev pub named_place : List Visit → ℕ → List Place → ℕ → Place
named_place all parent earlier n =
    let again = last_alike all n 0 earlier in
    record { origin = n; parent = parent; place = 0; replaces = unless_again again (namesake all parent n); again = again }

-- ---- copies within a parent

-- elements one behind the other, behind so many children; attributes by their names; no others
abbrev pub within : List Visit → ℕ → ℕ → List Place → List ℕ → List Place
within all parent before earlier [] = []
within all parent before earlier (n ∷ ns) =
    let element = row_place parent before n in
    let attribute = named_place all parent earlier n in
    if is_in is_element all n then element ∷ within all parent (suc before) (earlier ++ element ∷ []) ns
    else if is_in is_attribute all n then attribute ∷ within all parent before (earlier ++ attribute ∷ []) ns
    else within all parent before earlier ns

-- before or after a child
abbrev pub beside : List Visit → Bool → ℕ → ℕ → List ℕ → List Place
beside all after parent n ns =
    let before = place_among n (children_of parent all) in within all parent (if after then suc before else before) [] (elements_among all ns)

-- ---- the insert

-- at a node of the set: beside an element, in place of a document element, or beside an attribute
abbrev pub at_node : List Visit → Bool → List ℕ → ℕ → Option Content → Option ℕ → List Place
at_node all after origin n (Some (Element name)) (Some parent) =
    if is_in is_root all parent then instead parent n (elements_among all origin) else beside all after parent n origin
at_node all after origin n (Some (Attribute name text)) (Some parent) = within all parent 0 [] (filter (is_in is_attribute all) origin)
at_node all after origin n content parent = []

abbrev pub at_place : List Visit → InsertAsked → Option ℕ → List Place
at_place all asked None = []
at_place all asked (Some n) = at_node all asked.after asked.origin n (content_in all n) (parent_of n all)

-- of an empty set: in the context, where it is written and an element, before its first child
abbrev pub places_at : List Visit → InsertAsked → List ℕ → List Place
places_at all asked [] =
    if asked.given && is_in is_element all asked.context.number then within all asked.context.number 0 [] asked.origin else []
places_at all asked (n ∷ ns) = at_place all asked (named_by asked.at (n ∷ ns))

-- none under a readonly parent
abbrev pub planned_insert : List Node → InsertAsked → List Place
planned_insert nodes asked = filter (λ p. not (has p.parent asked.closed)) (places_at (visits nodes) asked asked.set)
