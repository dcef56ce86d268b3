-- What an insert and a delete change (XForms 1.1, sections 10.3 and 10.4), and the event that then tells the instance.
use Rattle.std.specs.Prelude.{ℕ, Bool, List, [], ◌∷◌, map, zip, Option, get_or, codes, Ok}
use Rattle.xf_def_model.specs.Places.{Place}
use Rattle.xf_def_model.specs.Taken.{planned_delete}
use Rattle.xf_def_xpath.specs.Setting.{Focus}
use Rattle.xf_def_values.specs.Conversions.{Decimal}
use Rattle.xf_def_machine.specs.Program.{InsertBy, DeleteBy}
use Rattle.xf_def_machine.specs.Profile.{Profile}
use Rattle.xf_def_machine.specs.State.{State}
use Rattle.xf_def_machine.specs.Flow.{Run, ◌>>=◌, in_turn}
use Rattle.xf_def_machine.specs.Surround.{Told, instance_holding}
use Rattle.xf_def_machine.specs.Primitives.{detach}
use Rattle.xf_def_machine.specs.Update.{reindex}
use Rattle.xf_def_machine.specs.Events.{Fired, fired_at}
use Rattle.xf_def_machine.specs.Acting.{Acting}
use Rattle.xf_def_machine.specs.Insert.{moved_focus, set_asked, copies_of, put_copy, insert_told}
use Rattle.xf_def_machine.specs.Delete as del
use Rattle.xf_def_machine.specs.Delete.{delete_told}
use Rattle.xf_actions.specs.Told.{Telling, quietly, where_told, tells}
use Rattle.xf_actions.specs.Inserting.{Inserting, planned}

-- an event to the element of an instance
abbrev pub instance_event : List ℕ → Told → ℕ → State → Fired
instance_event name told place s = fired_at s name told (get_or s.form.instance_elements place 0)

-- it is told, unless the tree stands in no instance
abbrev pub tells_instance : List ℕ → (State → Told) → Option ℕ → Telling
tells_instance name told place s = where_told place (λ i t. Ok (tells (instance_event name (told t) i t) t)) s

-- ---- insert

-- with the parent of the first copy
abbrev pub inserted_in : Profile → Bool → List ℕ → ℕ → List Place → Telling
inserted_in p is_before location parent places s =
    let origins = map (λ q. q.origin) places in
    copies_of p origins s >>= λ made.
    in_turn (put_copy p made.0) (zip places made.0) made.1 >>= reindex p made.0
    >>= tells_instance (codes "xforms-insert") (λ t. insert_told t is_before made.0 origins location) (instance_holding s parent)

abbrev pub inserted : Profile → Bool → List ℕ → List Place → Telling
inserted p is_before location [] s = Ok (quietly s)
inserted p is_before location (place ∷ places) s = inserted_in p is_before location place.parent (place ∷ places) s

abbrev pub inserted_by : Profile → Inserting → Telling
inserted_by p i s = inserted p i.is_before i.location i.places s

abbrev pub insert_at : Profile → Acting → InsertBy → Focus → Telling
insert_at p x w c s = planned p x w c s >>= λ i. inserted_by p i s

abbrev pub insert : Profile → Acting → InsertBy → Telling
insert p x w s = moved_focus p x w.context s >>= λ c. where_told c (insert_at p x w) s

-- ---- delete

abbrev pub cut : ℕ → Run
cut n s = Ok (detach n s)

-- with the first of the nodes
abbrev pub deleted_from : Profile → Decimal → ℕ → List ℕ → Telling
deleted_from p location first ns s =
    in_turn cut ns s >>= reindex p []
    >>= tells_instance (codes "xforms-delete") (λ t. delete_told t ns location) (instance_holding s first)

abbrev pub deleted : Profile → Decimal → List ℕ → Telling
deleted p location [] s = Ok (quietly s)
deleted p location (n ∷ ns) s = deleted_from p location n (n ∷ ns) s

abbrev pub delete_at : Profile → Acting → DeleteBy → Focus → Telling
delete_at p x w c s =
    set_asked p x c s >>= λ set. del.at_asked p x w.at set s >>= λ at.
    deleted p (del.location_of s.form.decimals set at) (planned_delete s.forest.nodes (del.asked_with s set at)) s

abbrev pub delete : Profile → Acting → DeleteBy → Telling
delete p x w s = moved_focus p x w.context s >>= λ c. where_told c (delete_at p x w) s
