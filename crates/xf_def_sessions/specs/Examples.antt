-- Sessions of small forms, to read beside the definitions: the bytes of a form stand for a form that is made by hand.
use Rattle.std.specs.Prelude.{ℕ, false, List, [], ◌∷◌, ◌++◌, Option, Some, None, codes, bytes_eq, if◌then◌else◌}
use Rattle.std.specs.Option.{unwrap_or}
use Rattle.xf_line.specs.declared.event.Event.TheVariants.{Set}
use Rattle.xf_def_ui.specs.Interface as sort
use Rattle.xf_def_machine.specs.Program.{Program}
use Rattle.xf_def_machine.specs.Program as role
use Rattle.xf_def_machine.specs.Construct.{unbuilt}
use Rattle.xf_def_machine.specs.Examples.{profile, itself, element, bound, named, model, instance, Tree, element_at, text_at, form}
use Rattle.xf_def_sessions.specs.Sessions.{Machine, Session, fresh_session}
use Rattle.xf_def_sessions.specs.Runs.{Item, line, began, after_line, after_adopt}

-- ---- forms

-- one input with this id, on the document element
abbrev pub one_input : List ℕ → Tree → Program
one_input id document = form
    (element None (1 ∷ 3 ∷ []) sort.host role.other
    ∷ model (2 ∷ [])
    ∷ instance
    ∷ named id (bound itself (element (Some 0) [] sort.field role.entry))
    ∷ []) [] [] [] document

-- ["d",TEXT]
abbrev pub one_text : List ℕ → Tree
one_text text = element_at 0 (codes "d") ∷ text_at 1 text ∷ []

-- as JSON, by the id of the input and the text of the instance
abbrev pub bytes_with : List ℕ → List ℕ → List ℕ
bytes_with id text =
    codes "[\"f\",{\"xmlns:xf\":\"http://www.w3.org/2002/xforms\"},[\"xf:model\",[\"xf:instance\",[\"d\",\"" ++ text
    ++ codes "\"]]],[\"xf:input\",{\"id\":\"" ++ id ++ codes "\",\"ref\":\".\"}]]"

-- the input is `a`, and the input is `b`
abbrev pub first_bytes : List ℕ
first_bytes = bytes_with (codes "a") (codes "1")

abbrev pub second_bytes : List ℕ
second_bytes = bytes_with (codes "b") (codes "1")

-- these two are forms, and no other bytes
abbrev pub either_form : List ℕ → Option Program
either_form bytes =
    if bytes_eq bytes first_bytes then Some (one_input (codes "a") (one_text (codes "1")))
    else if bytes_eq bytes second_bytes then Some (one_input (codes "b") (one_text (codes "1")))
    else None

abbrev pub machine : Machine
machine = record { profile = profile; form_in = either_form; keeps_past = λ bytes. false }

-- ---- a session of the first

-- where there is none
abbrev pub nothing : Session
nothing = fresh_session [] 0 (unbuilt profile (one_input [] []))

abbrev pub begun : Session
begun = unwrap_or (began machine first_bytes []) nothing

-- ["set","a",[],"2"]
abbrev pub set_line : List ℕ
set_line = codes "[\"set\",\"a\",[],\"2\"]"

abbrev pub set_item : Item
set_item = line (Set (codes "a") [] (codes "2")) []

abbrev pub after_set : Session
after_set = unwrap_or (after_line machine begun (Set (codes "a") [] (codes "2")) []) nothing

abbrev pub after_other : Session
after_other = unwrap_or (after_adopt machine after_set second_bytes) nothing

-- ---- slots

-- an open slot up to its entries, by the last byte of its tag, its epoch, the length of its base and what stands between that and the form
abbrev pub slot_of : ℕ → ℕ → ℕ → List ℕ → List ℕ → List ℕ
slot_of tag epoch base adoptions form =
    1 ∷ 88 ∷ 70 ∷ 83 ∷ tag ∷ epoch ∷ 0 ∷ 0 ∷ 0 ∷ 0 ∷ 0 ∷ 0 ∷ 0 ∷ 123 ∷ 0 ∷ 0 ∷ 0 ∷ base ∷ 0 ∷ 0 ∷ 0 ∷ adoptions ++ form

-- the first session with the event, whose gate is this byte: in the second format, and in the first
abbrev pub set_entry : ℕ → List ℕ
set_entry gate = gate ∷ 23 ∷ 0 ∷ 0 ∷ 0 ∷ 18 ∷ 0 ∷ 0 ∷ 0 ∷ set_line ++ 0 ∷ 0 ∷ []

abbrev pub set_slot : ℕ → List ℕ
set_slot gate = slot_of 50 1 2 (0 ∷ 0 ∷ 0 ∷ 0 ∷ []) first_bytes ++ 0 ∷ 0 ∷ set_entry gate

abbrev pub old_slot : ℕ → List ℕ
old_slot gate = slot_of 49 1 2 [] first_bytes ++ 0 ∷ 0 ∷ set_entry gate

-- a snapshot of ["d","2"] after so many accepted events below 256
abbrev pub snap_base : ℕ → List ℕ
snap_base accepted =
    1 ∷ accepted ∷ 0 ∷ 0 ∷ 0 ∷ 0 ∷ 0 ∷ 0 ∷ 0 ∷ 1 ∷ 0 ∷ 0 ∷ 0 ∷ 0 ∷ 0 ∷ 0 ∷ 1 ∷ 100 ∷ 0 ∷ 0 ∷ 1 ∷ 0 ∷ 0 ∷ 0 ∷ 1 ∷ 1 ∷ 0 ∷ 0 ∷ 0 ∷ 50
    ∷ 0 ∷ 0 ∷ 0 ∷ 0 ∷ []

-- the session with the event, compacted; and that under the second form
abbrev pub compact_slot : List ℕ
compact_slot = slot_of 50 2 34 (0 ∷ 0 ∷ 0 ∷ 0 ∷ []) first_bytes ++ snap_base 1 ++ 0 ∷ []

abbrev pub other_slot : List ℕ
other_slot = slot_of 50 2 34 (1 ∷ 0 ∷ 0 ∷ 0 ∷ []) second_bytes ++ snap_base 2 ++ 0 ∷ []
