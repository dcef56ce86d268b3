-- Worked slots, opened by a session that is played again from its start.
use Rattle.std.proofs.Common.{◌≡◌, ℕ, List, [], ◌∷◌, ◌++◌, codes, refl}
use Rattle.std.specs.Prelude.{take}
use Rattle.std.specs.Str.{is_utf8, chars}
use Rattle.serde_json.proofs.OnLiterals.{serde_json_on_literals}
use Rattle.xf_disk.specs.declared.slot.Slot.TheVariants.{A}
use Rattle.xf_disk.specs.Image.{Image}
use Rattle.xf_num.specs.Number.{scale}
use Rattle.xf_journal.specs.Numbers.{four, from_four, from_eight}
use Rattle.xf_line.specs.Line.{asked_by}
use Rattle.xf_def_machine.specs.Program.{Program}
use Rattle.xf_def_machine.specs.Examples.{profile}
use Rattle.xf_def_sessions.specs.Opening.{opened, no_session, other_form, damaged}
use Rattle.xf_def_sessions.specs.Examples.{one_input, one_text, slot_of, set_entry, bytes_with, first_bytes, second_bytes, begun, after_set, set_slot, compact_slot}
use Rattle.xf_session.specs.Opening.{opening}

-- in the first slot alone
abbrev alone : List ℕ → Image
alone bytes = record { a = bytes; b = [] }

abbrev first_program : Program
first_program = one_input (codes "a") (one_text (codes "1"))

none_opens : opening profile first_bytes first_program (alone []) ≡ no_session
none_opens = refl

event_opens : opening profile first_bytes first_program (alone (set_slot 1)) ≡ opened after_set
unfolding scale from_four from_eight asked_by serde_json_on_literals is_utf8 chars four
event_opens = refl

-- a gate of 255 is not open
closed_opens : opening profile first_bytes first_program (alone (set_slot 255)) ≡ opened begun
unfolding scale from_four from_eight
closed_opens = refl

-- another text in its instance
other_instance : opening profile (bytes_with (codes "a") (codes "3")) first_program (alone (set_slot 1)) ≡ other_form 83
unfolding from_four from_eight asked_by serde_json_on_literals is_utf8 chars
other_instance = refl

-- another byte of the tag, and a slot without its last gate
tag_damaged : opening profile first_bytes first_program (alone (slot_of 51 1 2 [] first_bytes ++ 0 ∷ 0 ∷ 0 ∷ [])) ≡ damaged A 1
tag_damaged = refl

gate_damaged : opening profile first_bytes first_program (alone (take 178 (set_slot 1))) ≡ damaged A 178
unfolding scale from_four from_eight asked_by serde_json_on_literals is_utf8 chars four
gate_damaged = refl

-- a line that the form does not accept
event_damaged : opening profile second_bytes (one_input (codes "b") (one_text (codes "1"))) (alone (slot_of 50 1 2 (0 ∷ 0 ∷ 0 ∷ 0 ∷ []) second_bytes ++ 0 ∷ 0 ∷ set_entry 1)) ≡ damaged A 150
unfolding scale from_four from_eight asked_by serde_json_on_literals is_utf8 chars four
event_damaged = refl

-- a base with an answer that the start did not get
answer_damaged : opening profile first_bytes first_program (alone (slot_of 50 1 3 (0 ∷ 0 ∷ 0 ∷ 0 ∷ []) first_bytes ++ 0 ∷ 1 ∷ 0 ∷ 0 ∷ [])) ≡ damaged A 148
unfolding scale from_four from_eight
answer_damaged = refl

-- and one that is a snapshot
snap_damaged : opening profile first_bytes first_program (alone compact_slot) ≡ damaged A 148
unfolding from_four from_eight
snap_damaged = refl

-- an adoption before a start, which is told before the form is compared
adoption_damaged : opening profile second_bytes first_program (alone (slot_of 50 1 2 (1 ∷ 0 ∷ 0 ∷ 0 ∷ []) first_bytes ++ 0 ∷ 0 ∷ 0 ∷ [])) ≡ damaged A 21
unfolding from_four from_eight
adoption_damaged = refl
