-- The action insert (XForms 1.1, section 10.3): copies of the origin nodes are made, then each goes to its place.
use Rattle.std.specs.Prelude.{ℕ, Bool, true, false, not, List, [], ◌∷◌, map, length, zip, Option, Some, None, option_map, get_or, codes, Result, Ok, ℤ, if◌then◌else◌}
use Rattle.xf_def_forest.specs.Order.{in_order}
use Rattle.xf_def_xpath.specs.declared.value.Value.TheVariants.{Nodes, Text}
use Rattle.xf_def_xpath.specs.Setting.{Focus, Meaning}
use Rattle.xf_def_xpath.specs.Conversions.{nodes_of}
use Rattle.xf_def_xpath.specs.Binding.{as_list}
use Rattle.xf_def_model.specs.declared.asked.InsertAsked.{InsertAsked}
use Rattle.xf_def_model.specs.Places.{Place, named_by, planned_insert}
use Rattle.xf_def_ui.specs.Around.{all_bound}
use Rattle.xf_def_ui.specs.Context.{moved}
use Rattle.xf_def_machine.specs.Program.{InsertBy}
use Rattle.xf_def_machine.specs.Profile.{Profile}
use Rattle.xf_def_machine.specs.State.{State}
use Rattle.xf_def_machine.specs.Refusal.{Refused, or_long}
use Rattle.xf_def_machine.specs.Flow.{Run, ◌>>=◌, where_some, in_turn}
use Rattle.xf_def_machine.specs.Surround.{Told, all_in, instance_holding}
use Rattle.xf_def_machine.specs.Primitives.{copy, attach, detach}
use Rattle.xf_def_machine.specs.Properties.{closed_in}
use Rattle.xf_def_machine.specs.Update.{reindex}
use Rattle.xf_def_machine.specs.Events.{Tell, fired_at}
use Rattle.xf_def_machine.specs.Acting.{Acting, surroundings, binding_of, value_for, whole_for}

-- ---- what is asked for

-- the context that `context` gives: none where it selects nothing
abbrev pub moved_focus : Profile → Acting → Option Meaning → State → Result (Option Focus) Refused
moved_focus p x context s =
    or_long s (moved (surroundings p x s) (record { model = x.model; focus = Some x.focus }) context) >>= λ c. Ok c.focus

-- the nodes that the insert binds, in its context
abbrev pub set_asked : Profile → Acting → Focus → State → Result (List ℕ) Refused
set_asked p x c s = or_long s (all_bound (surroundings p x s) x.model (binding_of x s) (Some c))

-- the last node of a set, where it has one
abbrev pub last_one : List ℕ → List ℕ
last_one [] = []
last_one (n ∷ []) = n ∷ []
last_one (n ∷ m ∷ ns) = last_one (m ∷ ns)

-- the nodes to copy: those of `origin`, else the last one of the set
abbrev pub origin_asked : Profile → Acting → Focus → Option Meaning → List ℕ → State → Result (List ℕ) Refused
origin_asked p x c None set s = Ok (last_one set)
origin_asked p x c (Some m) set s = value_for p x s c m >>= λ value. Ok (nodes_of value)

-- the rounded `at`, with the first node of the set as its context; NaN is as if it were not written
abbrev pub at_asked : Profile → Acting → Option Meaning → List ℕ → State → Result (Option ℤ) Refused
at_asked p x None set s = Ok None
at_asked p x (Some m) [] s = Ok None
at_asked p x (Some m) (n ∷ ns) s = whole_for p x s (record { node = n; position = 1; size = length (n ∷ ns) }) m

-- no place is asked for where there is no origin node, so that `at` is not evaluated then
abbrev pub place_asked : Profile → Acting → Option Meaning → List ℕ → List ℕ → State → Result (Option ℤ) Refused
place_asked p x at [] set s = Ok None
place_asked p x at (n ∷ ns) set s = at_asked p x at set s

-- the attribute is written
abbrev pub is_written : Option Meaning → Bool
is_written None = false
is_written (Some m) = true

-- what an insert is planned by
abbrev pub asked_with : InsertBy → State → Focus → List ℕ → List ℕ → Option ℤ → InsertAsked
asked_with w s c set origin at = record {
  set = set;
  context = record { number = c.node; place = 0 };
  given = is_written w.context;
  origin = origin;
  at = at;
  after = not w.is_before;
  closed = closed_in s;
}

-- ---- the copies

-- a copy of each of these nodes, one after the other
abbrev pub copies_of : Profile → List ℕ → State → Result (List ℕ × State) Refused
copies_of p [] s = Ok ([], s)
copies_of p (n ∷ ns) s = copy p n s >>= λ one. copies_of p ns one.1 >>= λ more. Ok (one.0 ∷ more.0, more.1)

-- a node is cut off, where there is one
abbrev pub without_one : Option ℕ → State → State
without_one None s = s
without_one (Some n) s = detach n s

-- one goes to its place, where the node that it replaces has gone, be it an earlier copy
abbrev pub put_copy : Profile → List ℕ → Place × ℕ → Run
put_copy p tops (place, top) s =
    attach p top place.parent place.place (without_one (option_map (λ k. get_or tops k 0) place.again) (without_one place.replaces s))

-- ---- what is told

-- the node that is told as the place: the context node for an empty set
abbrev pub location_of : Option ℤ → Focus → List ℕ → List ℕ
location_of at c [] = c.node ∷ []
location_of at c (n ∷ ns) = as_list (named_by at (n ∷ ns))

-- the text of `position`
abbrev pub side_text : Bool → List ℕ
side_text is_before = if is_before then codes "before" else codes "after"

-- the properties of its event
abbrev pub insert_told : State → Bool → List ℕ → List ℕ → List ℕ → Told
insert_told s is_before tops origins location =
    (codes "inserted-nodes", Nodes (in_order (all_in s) tops)) ∷ (codes "origin-nodes", Nodes (in_order (all_in s) origins))
    ∷ (codes "insert-location-node", Nodes location) ∷ (codes "position", Text (side_text is_before)) ∷ []

-- to the element of an instance; of a detached tree nothing is told
abbrev pub tell_instance : Tell → List ℕ → (State → Told) → Option ℕ → Run
tell_instance tell name told place s = where_some place (λ i t. tell (fired_at t name (told t) (get_or t.form.instance_elements i 0)) t) s

-- ---- the action

-- the copies are made and go to their places, the indexes are brought up to date, and the instance is told
abbrev pub inserted : Profile → Tell → Bool → List ℕ → List Place → Run
inserted p tell is_before location [] s = Ok s
inserted p tell is_before location (place ∷ places) s =
    let instance = instance_holding s place.parent in
    let origins = map (λ q. q.origin) (place ∷ places) in
    copies_of p origins s >>= λ made.
    in_turn (put_copy p made.0) (zip (place ∷ places) made.0) made.1 >>= reindex p made.0
    >>= tell_instance tell (codes "xforms-insert") (λ t. insert_told t is_before made.0 origins location) instance

-- in this context: the set, the origin, `at`, and then the places that are planned
abbrev pub insert_at : Profile → Tell → Acting → InsertBy → Focus → Run
insert_at p tell x w c s =
    set_asked p x c s >>= λ set. origin_asked p x c w.origin set s >>= λ origin. place_asked p x w.at origin set s >>= λ at.
    inserted p tell w.is_before (location_of at c set) (planned_insert s.forest.nodes (asked_with w s c set origin at)) s

-- no effect where `context` selects nothing
abbrev pub insert : Profile → Tell → Acting → InsertBy → Run
insert p tell x w s = moved_focus p x w.context s >>= λ c. where_some c (insert_at p tell x w) s
