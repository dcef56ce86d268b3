-- Worked sessions and slots.
use Rattle.std.proofs.Common.{◌≡◌, inl, ℕ, true, false, List, [], ◌∷◌, ◌++◌, length, Option, Some, None, Ok, Err, codes, refl}
use Rattle.std.specs.Prelude.{drop, take}
use Rattle.std.specs.Option.{unwrap_or}
use Rattle.std.specs.Str.{is_utf8, chars}
use lib.Utf8.{encode}
use Rattle.serde_json.proofs.OnLiterals.{serde_json_on_literals}
use Rattle.xf_disk.specs.declared.slot.Slot.TheVariants.{A}
use Rattle.xf_disk.specs.Image.{Image}
use Rattle.xf_num.specs.Number.{scale}
use Rattle.xf_def_forest.specs.declared.bare.Bare.TheVariants as bare
use Rattle.xf_def_forest.specs.declared.bare.BareElement.{roll-BareElement}
use Rattle.xf_journal.specs.Numbers.{four, from_four, from_eight}
use Rattle.xf_journal.specs.Held.{Log, held}
use Rattle.xf_snap.specs.Numbers.{from_two}
use Rattle.xf_snap.specs.Numbers as snap
use Rattle.xf_snap.specs.Reading.{snap_at, documents_at, indexes_at, cases_at, several, element_at, element_over, tree_over, name_at, text_at, attribute_at}
use Rattle.xf_line.specs.Line.{asked_by}
use Rattle.xf_def_machine.specs.State.{State}
use Rattle.xf_def_machine.specs.Program.{Program}
use Rattle.xf_def_machine.specs.Examples.{profile}
use Rattle.xf_def_sessions.specs.Sessions.{snap_of}
use Rattle.xf_def_sessions.specs.Images.{Stands, StandsForNone}
use Rattle.xf_def_sessions.specs.Opening.{opened, no_session, other_form, damaged, difference_from, Opens, OpensOwn}
use Rattle.xf_def_sessions.specs.Lines.{of_machine, back, again, wanted_by}
use Rattle.xf_def_sessions.specs.Runs.{adopt, began, Accepts, Ran}
use Rattle.xf_def_sessions.specs.Examples.{one_input, one_text, slot_of, set_entry, bytes_with, first_bytes, second_bytes, machine, begun, set_item, after_set, after_other, set_slot, old_slot, snap_base, compact_slot, nothing}

-- ---- bytes

pub form_length : length first_bytes ≡ 123
form_length = refl

slot_length : length (set_slot 1) ≡ 179
slot_length = refl

old_length : length (old_slot 1) ≡ 175
old_length = refl

compact_length : length compact_slot ≡ 183
compact_length = refl

-- ---- the run

begins : began machine first_bytes [] ≡ Some begun
unfolding scale
begins = refl

sets : Accepts machine begun set_item after_set
unfolding scale
sets = refl

adopts : Accepts machine after_set (adopt second_bytes) after_other
unfolding scale
adopts = refl

set_count : after_set.state.accepted ≡ 1
unfolding scale
set_count = refl

other_count : after_other.state.accepted ≡ 2
unfolding scale
other_count = refl

other_adoptions : after_other.adoptions ≡ 1
unfolding scale
other_adoptions = refl

begun_alone : Ran machine first_bytes [] [] begun
begun_alone = record { first = begun; begun = begins; goes = refl }

ran_set : Ran machine first_bytes [] (set_item ∷ []) after_set
ran_set = record { first = begun; begun = begins; goes = (after_set, sets, refl) }

ran_both : Ran machine first_bytes [] (set_item ∷ adopt second_bytes ∷ []) after_other
ran_both = record { first = begun; begun = begins; goes = (after_set, sets, (after_other, adopts, refl)) }

-- ---- what slots stand for

-- in the first slot alone
abbrev alone : List ℕ → Image
alone bytes = record { a = bytes; b = [] }

abbrev log_in : Image → Option Log
log_in image = elim (held image) as (λ r. Option Log) [ Ok log ↦ log | Err fault ↦ None ]

event_stands : Stands machine first_bytes [] (set_item ∷ []) (alone (set_slot 1))
unfolding scale from_four from_eight asked_by serde_json_on_literals is_utf8 chars
event_stands = (after_set, (_, refl, record { whole = refl; form = refl; adoptions = refl; stands = inl (record { ran = ran_set; base = refl; entries = refl }) }))

-- in the first format too
old_event_stands : Stands machine first_bytes [] (set_item ∷ []) (alone (old_slot 1))
unfolding scale from_four from_eight asked_by serde_json_on_literals is_utf8 chars
old_event_stands = (after_set, (_, refl, record { whole = refl; form = refl; adoptions = refl; stands = inl (record { ran = ran_set; base = refl; entries = refl }) }))

-- a gate of 0 or of 255 is not open
closed_stands : Stands machine first_bytes [] [] (alone (set_slot 0))
unfolding scale from_four from_eight
closed_stands = (begun, (_, refl, record { whole = refl; form = refl; adoptions = refl; stands = inl (record { ran = begun_alone; base = refl; entries = refl }) }))

other_gate_stands : Stands machine first_bytes [] [] (alone (set_slot 255))
unfolding scale from_four from_eight
other_gate_stands = (begun, (_, refl, record { whole = refl; form = refl; adoptions = refl; stands = inl (record { ran = begun_alone; base = refl; entries = refl }) }))

empty_slots : StandsForNone (alone [])
empty_slots = refl

-- ---- a snapshot

snap_kept : snap_of after_set.state ≡ record { accepted = 1; documents = bare.Element (roll-BareElement (record { name = record { space = 0; prefix = 0; local = codes "d" }; attributes = []; children = bare.Text (codes "2") ∷ [] })) ∷ []; indexes = []; cases = [] }
unfolding scale snap_of
snap_kept = refl

snap_read : snap_at (drop 1 (snap_base 1)) ≡ Some (snap_of after_set.state)
unfolding scale snap_of from_two snap.from_four snap.from_eight snap_at documents_at indexes_at cases_at several element_at element_over tree_over name_at text_at attribute_at is_utf8 chars encode
snap_read = refl

-- ---- opening

-- the first form has this program
abbrev first_program : Program
first_program = one_input (codes "a") (one_text (codes "1"))

none_opens : Opens profile first_bytes first_program (alone []) no_session
none_opens = refl

event_opens : Opens profile first_bytes first_program (alone (set_slot 1)) (opened after_set)
unfolding scale from_four from_eight asked_by serde_json_on_literals is_utf8 chars four
event_opens = inl (begun.state, inl ([], refl, refl), refl)

closed_opens : Opens profile first_bytes first_program (alone (set_slot 255)) (opened begun)
unfolding scale from_four from_eight
closed_opens = inl (begun.state, inl ([], refl, refl), refl)

-- another text in its instance, and another id
other_instance : Opens profile (bytes_with (codes "a") (codes "3")) first_program (alone (set_slot 1)) (other_form 83)
unfolding from_four from_eight asked_by serde_json_on_literals is_utf8 chars
other_instance = refl

other_id : difference_from 0 second_bytes first_bytes ≡ Some 108
other_id = refl

-- another byte of the tag; a slot without its last gate; and a line that the form does not accept
tag_damaged : Opens profile first_bytes first_program (alone (slot_of 51 1 2 [] first_bytes ++ 0 ∷ 0 ∷ 0 ∷ [])) (damaged A 1)
tag_damaged = refl

gate_damaged : Opens profile first_bytes first_program (alone (take 178 (set_slot 1))) (damaged A 178)
unfolding scale from_four from_eight asked_by serde_json_on_literals is_utf8 chars four
gate_damaged = inl (begun.state, inl ([], refl, refl), refl)

event_damaged : Opens profile second_bytes (one_input (codes "b") (one_text (codes "1"))) (alone (slot_of 50 1 2 (0 ∷ 0 ∷ 0 ∷ 0 ∷ []) second_bytes ++ 0 ∷ 0 ∷ set_entry 1)) (damaged A 150)
unfolding scale from_four from_eight asked_by serde_json_on_literals is_utf8 chars four
event_damaged = inl (other_begun, inl ([], refl, refl), refl)
  where
    other_begun : State
    other_begun = (unwrap_or (began machine second_bytes []) nothing).state

-- under the form that the slots hold, and under one that is none
own_opens : OpensOwn machine (alone (set_slot 255)) (opened begun)
unfolding scale from_four from_eight
own_opens = inl (begun.state, inl ([], refl, refl), refl)

own_damaged : OpensOwn machine (alone (slot_of 50 1 2 (0 ∷ 0 ∷ 0 ∷ 0 ∷ []) (bytes_with (codes "c") (codes "1")) ++ 0 ∷ 0 ∷ 0 ∷ [])) (damaged A 25)
unfolding from_four from_eight
own_damaged = refl

-- ---- lines

undo_line : wanted_by (codes "[\"undo\"]") ≡ back
unfolding serde_json_on_literals is_utf8 chars
undo_line = refl

redo_line : wanted_by (codes " [ \"redo\" ] ") ≡ again
unfolding serde_json_on_literals is_utf8 chars
redo_line = refl

undo_and_more : wanted_by (codes "[\"undo\",1]") ≡ of_machine
unfolding serde_json_on_literals is_utf8 chars
undo_and_more = refl
