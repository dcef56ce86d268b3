-- Worked values of the definitions.
use Rattle.std.proofs.Common.{◌≡◌, ◌++◌, ℕ, List, [], ◌∷◌, Some, None, Ok, Err, codes, refl}
use Rattle.xf_disk.specs.declared.slot.Slot.TheVariants.{A, B}
use Rattle.xf_store.specs.declared.answers.Answer.TheVariants as answer
use Rattle.xf_journal.specs.declared.layout.Format.TheVariants.{First}
use Rattle.xf_journal.specs.declared.fault.JournalFault.TheVariants.{Damaged}
use Rattle.xf_journal.specs.Numbers.{four, eight, from_four, from_eight}
use Rattle.xf_journal.specs.Layout.{open_epoch, base_at, entries_at, new_bytes}
use Rattle.xf_journal.specs.Entry.{entry_bytes, entry_in, answers_in}
use Rattle.xf_journal.specs.Held.{entries_from, log_of, in_use, held}

-- an open slot of the first format with the form f and a base of no answers, by the first byte of its tag, of its epoch, of
-- the length of its form and of the length of its base
abbrev slot_of : ℕ → ℕ → ℕ → ℕ → List ℕ
slot_of tag epoch form base =
    1 ∷ tag ∷ 70 ∷ 83 ∷ 49 ∷ epoch ∷ 0 ∷ 0 ∷ 0 ∷ 0 ∷ 0 ∷ 0 ∷ 0 ∷ form ∷ 0 ∷ 0 ∷ 0 ∷ base ∷ 0 ∷ 0 ∷ 0 ∷ 102 ∷ 0 ∷ 0 ∷ 0 ∷ []

-- an open slot of the second format, by the first bytes of the lengths of its form and of its base, by the first and the last byte of
-- its number of changes of the form, and by what stands behind it
abbrev second_of : ℕ → ℕ → ℕ → ℕ → List ℕ → List ℕ
second_of form base adoptions last behind =
    1 ∷ 88 ∷ 70 ∷ 83 ∷ 50 ∷ 1 ∷ 0 ∷ 0 ∷ 0 ∷ 0 ∷ 0 ∷ 0 ∷ 0 ∷ form ∷ 0 ∷ 0 ∷ 0 ∷ base ∷ 0 ∷ 0 ∷ 0 ∷ adoptions ∷ 0 ∷ 0 ∷ last ∷ behind

new_slot : 1 ∷ new_bytes 1 (record { adoptions = 3; form = codes "f"; base = 0 ∷ 0 ∷ [] }) ≡ second_of 1 2 3 0 (102 ∷ 0 ∷ 0 ∷ 0 ∷ [])
unfolding four eight
new_slot = refl

base_of_slot : base_at First (slot_of 88 1 1 2) ≡ 22
unfolding from_four
base_of_slot = refl

entries_of_slot : entries_at First (slot_of 88 1 1 2) ≡ 24
unfolding from_four
entries_of_slot = refl

open_slot : open_epoch (slot_of 88 7 1 2) ≡ Some 7
unfolding from_eight
open_slot = refl

closed_slot : open_epoch (255 ∷ codes "XFS1, and so many bytes behind it") ≡ None
closed_slot = refl

short_slot : open_epoch (1 ∷ codes "XFS1") ≡ None
short_slot = refl

second_slot : log_of A (second_of 1 2 3 0 (102 ∷ 0 ∷ 0 ∷ 0 ∷ []))
    ≡ Ok (record { kept = record { slot = A; epoch = 1; adoptions = 3; form = codes "f"; base = 0 ∷ 0 ∷ []; entries = [] }; gate = 28; cut = None })
unfolding from_four from_eight
second_slot = refl

-- 24 bytes have no room for the header, and behind 25 no gate stands
damaged_header : log_of A (1 ∷ 88 ∷ 70 ∷ 83 ∷ 50 ∷ 1 ∷ 0 ∷ 0 ∷ 0 ∷ 0 ∷ 0 ∷ 0 ∷ 0 ∷ 0 ∷ 0 ∷ 0 ∷ 0 ∷ 0 ∷ 0 ∷ 0 ∷ 0 ∷ 0 ∷ 0 ∷ 0 ∷ []) ≡ Err (Damaged A 13)
unfolding from_four from_eight
damaged_header = refl

damaged_adoptions : log_of A (second_of 0 0 0 0 []) ≡ Err (Damaged A 21)
unfolding from_four from_eight
damaged_adoptions = refl

most_adoptions : log_of B (second_of 1 0 255 127 (102 ∷ 0 ∷ []))
    ≡ Ok (record { kept = record { slot = B; epoch = 1; adoptions = 2130706687; form = codes "f"; base = []; entries = [] }; gate = 26; cut = None })
unfolding from_four from_eight
most_adoptions = refl

too_many_adoptions : log_of B (second_of 1 0 0 128 (102 ∷ 0 ∷ [])) ≡ Err (Damaged B 21)
unfolding from_four from_eight
too_many_adoptions = refl

damaged_tag : log_of A (slot_of 89 1 1 2) ≡ Err (Damaged A 1)
damaged_tag = refl

damaged_epoch : log_of B (slot_of 88 0 1 2) ≡ Err (Damaged B 5)
unfolding from_eight
damaged_epoch = refl

damaged_form : log_of A (slot_of 88 1 5 0) ≡ Err (Damaged A 13)
unfolding from_four from_eight
damaged_form = refl

damaged_base : log_of A (slot_of 88 1 1 4) ≡ Err (Damaged A 17)
unfolding from_four from_eight
damaged_base = refl

greater_epoch : in_use (record { a = slot_of 88 2 1 2; b = slot_of 88 3 1 2 }) ≡ Ok (Some B)
unfolding from_eight
greater_epoch = refl

equal_epochs : in_use (record { a = slot_of 88 2 1 2; b = slot_of 88 2 1 2 }) ≡ Err (Damaged B 5)
unfolding from_eight
equal_epochs = refl

both_closed : held (record { a = 0 ∷ []; b = [] }) ≡ Ok None
both_closed = refl

-- the line l with what a store found for it
abbrev entry_of_l : List ℕ
entry_of_l = 13 ∷ 0 ∷ 0 ∷ 0 ∷ 1 ∷ 0 ∷ 0 ∷ 0 ∷ 108 ∷ 1 ∷ 2 ∷ 2 ∷ 0 ∷ 0 ∷ 0 ∷ 118 ∷ 119 ∷ []

bytes_of_entry : entry_bytes (codes "l") (answer.Found (codes "vw") ∷ []) ≡ entry_of_l
unfolding four
bytes_of_entry = refl

entry_of_bytes : entry_in entry_of_l ≡ Some (record { line = codes "l"; answers = answer.Found (codes "vw") ∷ [] })
unfolding from_four
entry_of_bytes = refl

bytes_left_over : answers_in (1 ∷ 0 ∷ 0 ∷ []) ≡ None
bytes_left_over = refl

whole_list : entries_from 0 24 (1 ∷ entry_of_l ++ 0 ∷ [])
    ≡ record { entries = record { line = codes "l"; answers = answer.Found (codes "vw") ∷ [] } ∷ []; gate = 42; cut = None }
unfolding from_four
whole_list = refl

-- the second gate is open, and bytes of its entry are lacking
cut_list : entries_from 0 24 (1 ∷ entry_of_l ++ 1 ∷ 13 ∷ 0 ∷ 0 ∷ 0 ∷ 1 ∷ [])
    ≡ record { entries = record { line = codes "l"; answers = answer.Found (codes "vw") ∷ [] } ∷ []; gate = 42; cut = Some 42 }
unfolding from_four
cut_list = refl

-- and here it does not stand
ends_early : entries_from 0 24 (1 ∷ entry_of_l)
    ≡ record { entries = record { line = codes "l"; answers = answer.Found (codes "vw") ∷ [] } ∷ []; gate = 42; cut = Some 42 }
unfolding from_four
ends_early = refl
