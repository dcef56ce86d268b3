-- The action delete (XForms 1.1, section 10.4).
use Rattle.std.specs.Prelude.{ℕ, List, [], ◌∷◌, length, Option, Some, None, codes, Result, Ok, ℤ, pos}
use Rattle.xf_def_values.specs.Conversions.{Decimal, whole}
use Rattle.xf_def_forest.specs.Order.{in_order}
use Rattle.xf_def_xpath.specs.declared.value.Value.TheVariants.{Nodes, Number}
use Rattle.xf_def_xpath.specs.Setting.{Focus, Meaning}
use Rattle.xf_def_model.specs.declared.asked.DeleteAsked.{DeleteAsked}
use Rattle.xf_def_model.specs.Places.{held}
use Rattle.xf_def_model.specs.Taken.{planned_delete}
use Rattle.xf_def_machine.specs.Program.{DeleteBy}
use Rattle.xf_def_machine.specs.Profile.{Profile}
use Rattle.xf_def_machine.specs.State.{State}
use Rattle.xf_def_machine.specs.Refusal.{Refused}
use Rattle.xf_def_machine.specs.Flow.{Run, ◌>>=◌, where_some, in_turn}
use Rattle.xf_def_machine.specs.Surround.{Told, all_in, instance_holding}
use Rattle.xf_def_machine.specs.Primitives.{detach}
use Rattle.xf_def_machine.specs.Properties.{closed_in}
use Rattle.xf_def_machine.specs.Update.{reindex}
use Rattle.xf_def_machine.specs.Events.{Tell}
use Rattle.xf_def_machine.specs.Acting.{Acting, whole_for}
use Rattle.xf_def_machine.specs.Insert.{moved_focus, set_asked, tell_instance}

-- ---- what is asked for

-- NaN names the last node of the set
abbrev pub or_last : ℕ → Option ℤ → Option ℤ
or_last size None = Some (pos size)
or_last size (Some k) = Some k

-- the rounded `at`, with the first node of the set as its context: none where it is not written
abbrev pub at_asked : Profile → Acting → Option Meaning → List ℕ → State → Result (Option ℤ) Refused
at_asked p x None set s = Ok None
at_asked p x (Some m) [] s = Ok None
at_asked p x (Some m) (n ∷ ns) s =
    whole_for p x s (record { node = n; position = 1; size = length (n ∷ ns) }) m >>= λ at. Ok (or_last (length (n ∷ ns)) at)

-- what a delete is planned by
abbrev pub asked_with : State → List ℕ → Option ℤ → DeleteAsked
asked_with s set at = record { set = set; at = at; closed = closed_in s }

-- ---- what is told

-- the place that `at` names, or NaN where it is not written
abbrev pub location_of : ℕ → List ℕ → Option ℤ → Decimal
location_of d set None = None
location_of d set (Some k) = whole d (held (length set) (Some k))

-- the properties of its event
abbrev pub delete_told : State → List ℕ → Decimal → Told
delete_told s ns location = (codes "deleted-nodes", Nodes (in_order (all_in s) ns)) ∷ (codes "delete-location", Number location) ∷ []

-- ---- the action

-- one after the other is cut off, the indexes are brought up to date, and the instance of the first is told
abbrev pub deleted : Profile → Tell → Decimal → List ℕ → Run
deleted p tell location [] s = Ok s
deleted p tell location (n ∷ ns) s =
    let instance = instance_holding s n in
    in_turn (λ m t. Ok (detach m t)) (n ∷ ns) s >>= reindex p []
    >>= tell_instance tell (codes "xforms-delete") (λ t. delete_told t (n ∷ ns) location) instance

-- in this context: the set, `at`, and then the nodes that are planned
abbrev pub delete_at : Profile → Tell → Acting → DeleteBy → Focus → Run
delete_at p tell x w c s =
    set_asked p x c s >>= λ set. at_asked p x w.at set s >>= λ at.
    deleted p tell (location_of s.form.decimals set at) (planned_delete s.forest.nodes (asked_with s set at)) s

-- no effect where `context` selects nothing
abbrev pub delete : Profile → Tell → Acting → DeleteBy → Run
delete p tell x w s = moved_focus p x w.context s >>= λ c. where_some c (delete_at p tell x w) s
