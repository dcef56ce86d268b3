-- What is read of a slot, as the calls give it.
use Rattle.std.specs.Prelude.{◌≡◌, ◌⊎◌, ◌<◌, ℕ, List, [], ◌∷◌, ◌++◌, ◌+◌, ◌^◌, length, Option, Some, None, Result, Ok, Err, if◌then◌else◌}
use Rattle.xf_disk.specs.declared.slot.Slot.{Slot}
use Rattle.xf_journal.specs.declared.fault.JournalFault.{JournalFault}
use Rattle.xf_journal.specs.declared.image.Image as written
use Rattle.xf_journal.specs.declared.image.Scanned.{Scanned}
use Rattle.xf_journal.specs.declared.journal.Journal.{Journal}
use Rattle.xf_journal.specs.declared.read.Entries.{Entries}
use Rattle.xf_journal.specs.declared.layout.Format.TheVariants.{Second}
use Rattle.xf_store.specs.declared.answers.Answer.{Answer}
use Rattle.xf_disk.specs.Image.{Image, in_slot, beside}
use Rattle.xf_disk.specs.Crash.{IsSettled}
use Rattle.xf_journal.specs.Entry.{written_bytes}
use Rattle.xf_base.specs.Limits.{adoption_limit}
use Rattle.xf_journal.specs.Layout.{header_length, open_epoch}
use Rattle.xf_journal.specs.Held.{Tail, Log, held}

-- the journal in hand: its slot, its epoch, the number of entries, and the bytes in use, the last gate included
abbrev pub journal_of : Log → Journal
journal_of log = record { slot = log.kept.slot; epoch = log.kept.epoch; count = length log.kept.entries; used = log.gate + 1 }

abbrev pub scanned_of : Log → Scanned
scanned_of log = record { journal = journal_of log; adoptions = log.kept.adoptions; form = log.kept.form; base = log.kept.base; entries = log.kept.entries; cut = log.cut }

abbrev pub scanned_result : Result Log JournalFault → Result Scanned JournalFault
scanned_result (Ok log) = Ok (scanned_of log)
scanned_result (Err fault) = Err fault

abbrev pub tail_of : Entries → Tail
tail_of entries = record { entries = entries.items.items; gate = entries.gate; cut = if entries.is_cut then Some entries.gate else None }

-- entries behind what is written before them
abbrev pub scanned_with : Slot → ℕ → written.Image → Entries → Scanned
scanned_with slot epoch image entries = record {
  journal = record { slot = slot; epoch = epoch; count = length entries.items.items; used = entries.gate + 1 };
  adoptions = image.adoptions;
  form = image.form;
  base = image.base;
  entries = entries.items.items;
  cut = if entries.is_cut then Some entries.gate else None;
}

-- what the slots hold, as a scan gives it
abbrev pub scan_of : Result (Option Log) JournalFault → Result (Option Scanned) JournalFault
scan_of (Ok None) = Ok None
scan_of (Ok (Some log)) = Ok (Some (scanned_of log))
scan_of (Err fault) = Err fault

-- the journal with one entry more
abbrev pub with_accepted : Log → List ℕ → List Answer → Log
with_accepted log line answers = record {
  kept = record log.kept { entries = log.kept.entries ++ record { line = line; answers = answers } ∷ [] };
  gate = log.gate + length (written_bytes line answers);
  cut = None;
}

-- a journal without entries
abbrev pub new_log : Slot → ℕ → written.Image → Log
new_log slot epoch image = record {
  kept = record { slot = slot; epoch = epoch; adoptions = image.adoptions; form = image.form; base = image.base; entries = [] };
  gate = header_length Second + length image.form + length image.base;
  cut = None;
}

-- the journal that takes the place of another: in the other slot, with the next epoch
abbrev pub renewed : Log → written.Image → Log
renewed log image = new_log (beside log.kept.slot) (log.kept.epoch + 1) image

-- the slots hold this journal whole, it is the one in hand, and a crash leaves what a read gives
pub record IsAtRest {D : Type 0} (seen : D → Image) (may_leave : D → Image → Type 0) (journal : Journal) (log : Log) (disk : D) : Type 0 where
  pub holds : held (seen disk) ≡ Ok (Some log)
  pub whole : log.cut ≡ None
  pub in_hand : journal ≡ journal_of log
  pub settled : IsSettled (seen disk) (may_leave disk)

-- where this takes the place of a journal that the slots hold
pub record MayRenew {D : Type 0} (seen : D → Image) (may_leave : D → Image → Type 0) (journal : Journal) (log : Log) (image : written.Image) (disk : D) : Type 0 where
  pub rest : IsAtRest seen may_leave journal log disk
  pub small : log.kept.epoch + 1 < 2 ^ 62
  pub few : image.adoptions < adoption_limit

-- the slots hold this journal, or this one
abbrev pub HoldsEither : Log → Log → Image → Type 0
HoldsEither before after image = (held image ≡ Ok (Some before)) ⊎ (held image ≡ Ok (Some after))

-- a journal of this epoch may be made in a slot with the first of these epochs, beside one with the second:
-- the slot is not the one in use, and the one beside it is closed or has a smaller epoch
abbrev pub MayCreate : ℕ → Option ℕ → Option ℕ → Type 0
MayCreate epoch None None = Unit {0}
MayCreate epoch (Some this) None = ⊥
MayCreate epoch None (Some other) = other < epoch
MayCreate epoch (Some this) (Some other) = (this < other) × (other < epoch)

-- where a new journal takes the place of the old one, if there is one, and a crash leaves what a read gives
pub record IsReady {D : Type 0} (seen : D → Image) (may_leave : D → Image → Type 0) (slot : Slot) (epoch adoptions : ℕ) (disk : D) : Type 0 where
  pub small : epoch < 2 ^ 62
  pub few : adoptions < adoption_limit
  pub may : MayCreate epoch (open_epoch (in_slot slot (seen disk))) (open_epoch (in_slot (beside slot) (seen disk)))
  pub settled : IsSettled (seen disk) (may_leave disk)

-- the slots hold what they held, or this journal
abbrev pub HoldsOldOr : Image → Log → Image → Type 0
HoldsOldOr old log image = (held image ≡ held old) ⊎ (held image ≡ Ok (Some log))
