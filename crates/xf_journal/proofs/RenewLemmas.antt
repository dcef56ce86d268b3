-- A journal that is held may be renewed in the other slot.
use Rattle.std.proofs.Common.{◌≡◌, inl, inr, ℕ, ◌+◌, ◌-◌, ◌^◌, min, Option, Some, None, Result, Ok, Err, sym, ◌∙◌, ap, subst, arith}
use Rattle.std.proofs.lemmas.Bool.{cases_lt, cases_eq, eq-eqb}
use Rattle.std.specs.Prelude.{IfOk, nat_lt, ◌==◌, if◌then◌else◌}
use Rattle.xf_disk.specs.declared.slot.Slot.{Slot}
use Rattle.xf_disk.specs.declared.slot.Slot.TheVariants.{A, B}
use Rattle.xf_disk.specs.Image.{Image, in_slot, beside}
use Rattle.xf_disk.specs.Crash.{LeavesOnly}
use Rattle.xf_journal.specs.declared.image.Image as written
use Rattle.xf_journal.specs.declared.journal.Journal.{Journal}
use Rattle.xf_journal.specs.declared.fault.JournalFault.TheVariants.{Damaged}
use Rattle.xf_journal.specs.Layout.{is_open, open_epoch, epoch_in}
use Rattle.xf_journal.specs.Held.{Log, chosen, in_use, held}
use Rattle.xf_journal.specs.Scanned.{new_log, renewed, MayCreate, IsReady, IsAtRest, MayRenew, HoldsEither, HoldsOldOr}
use Rattle.xf_journal.proofs.EntryLemmas.{if_true}
use Rattle.xf_journal.proofs.HeldLemmas.{this_of, in_use_of, used_is_open}
use Rattle.xf_journal.proofs.SlotLemmas.{reads_of}
use Rattle.xf_journal.proofs.CreateLemmas.{greater_a, greater_b}
use Rattle.xf_journal.proofs.RunLemmas.{widened}

-- of two open slots with one epoch neither is in use
none_greater : (a b : ℕ) (slot : Slot) → a ≡ b → chosen (Some a) (Some b) ≡ Ok (Some slot) → ⊥
none_greater a b slot same used =
    let damaged : chosen (Some a) (Some b) ≡ Err (Damaged B 5) = if_true (a == b) (Err (Damaged B 5)) (Ok (Some (if nat_lt b a then A else B))) (eq-eqb a b same) in
    let both : Err (Damaged B 5) ≡ Ok (Some slot) = sym damaged ∙ used in
    cc

-- the other slot is closed, or has a smaller epoch
smaller : (slot : Slot) (a b : Option ℕ) (epoch : ℕ) → chosen a b ≡ Ok (Some slot) → this_of slot a b ≡ Some epoch → MayCreate (epoch + 1) (this_of (beside slot) a b) (Some epoch)
smaller slot None None epoch used this = cc
smaller A (Some a) None epoch used this = omega arith
smaller B (Some a) None epoch used this = cc
smaller A None (Some b) epoch used this = cc
smaller B None (Some b) epoch used this = omega arith
smaller A (Some a) (Some b) epoch used this = elim (cases_lt b a) [
  | inl less ↦ let is : a ≡ epoch = cc in (omega (arith, less, is), omega arith)
  | inr more ↦ elim (cases_eq a b) [
    | inl same ↦ absurd (none_greater a b A same used)
    | inr differ ↦ let other : Ok (Some B) ≡ Ok (Some A) = sym (greater_b a b (omega (arith, more, differ))) ∙ used in cc
  ]
]
smaller B (Some a) (Some b) epoch used this = elim (cases_lt a b) [
  | inl less ↦ let is : b ≡ epoch = cc in (omega (arith, less, is), omega arith)
  | inr more ↦ elim (cases_eq a b) [
    | inl same ↦ absurd (none_greater a b B same used)
    | inr differ ↦ let other : Ok (Some A) ≡ Ok (Some B) = sym (greater_a a b (omega (arith, more, differ))) ∙ used in cc
  ]
]

may_beside : (slot : Slot) (image : Image) (epoch : ℕ) → in_use image ≡ Ok (Some slot) → open_epoch (in_slot slot image) ≡ Some epoch
    → MayCreate (epoch + 1) (open_epoch (in_slot (beside slot) image)) (open_epoch (in_slot (beside (beside slot)) image))
may_beside A image epoch used this = subst (λ (o : Option ℕ). MayCreate (epoch + 1) (open_epoch image.b) o) (sym this) (smaller A (open_epoch image.a) (open_epoch image.b) epoch used this)
may_beside B image epoch used this = subst (λ (o : Option ℕ). MayCreate (epoch + 1) (open_epoch image.a) o) (sym this) (smaller B (open_epoch image.a) (open_epoch image.b) epoch used this)

pub may_renew : (image : Image) (log : Log) → held image ≡ Ok (Some log)
    → MayCreate (log.kept.epoch + 1) (open_epoch (in_slot (beside log.kept.slot) image)) (open_epoch (in_slot (beside (beside log.kept.slot)) image))
may_renew image log holds =
    let use_ = in_use_of image log holds in
    let bytes = in_slot use_.slot image in
    let read = reads_of use_.slot bytes log use_.read in
    let own : use_.slot ≡ log.kept.slot = ap (λ (l : Log). l.kept.slot) read.log_is in
    let epoch : epoch_in bytes ≡ log.kept.epoch = ap (λ (l : Log). l.kept.epoch) read.log_is in
    let is : open_epoch bytes ≡ Some (epoch_in bytes) = if_true (is_open bytes) (Some (epoch_in bytes)) None (used_is_open image use_.slot use_.used) in
    subst (λ (s : Slot). MayCreate (log.kept.epoch + 1) (open_epoch (in_slot (beside s) image)) (open_epoch (in_slot (beside (beside s)) image))) own
    (subst (λ (e : ℕ). MayCreate (e + 1) (open_epoch (in_slot (beside use_.slot) image)) (open_epoch (in_slot (beside (beside use_.slot)) image))) epoch
    (may_beside use_.slot image (epoch_in bytes) use_.used is))

module _ {D : Type 0} (seen : D → Image) (may_leave : D → Image → Type 0) (moment : D → ℕ) (left_since : D → ℕ → Image → Type 0)
    (journal : Journal) (log : Log) (image : written.Image) (old : D) (may : MayRenew seen may_leave journal log image old)
    (slot : Slot) (epoch : ℕ) (slot_is : slot ≡ beside journal.slot) (epoch_is : epoch ≡ min (journal.epoch + 1) (2 ^ 64 - 1)) where
  slot_same : slot ≡ beside log.kept.slot
  slot_same = slot_is ∙ ap (λ (j : Journal). beside j.slot) may.rest.in_hand

  epoch_same : epoch ≡ log.kept.epoch + 1
  epoch_same = let is : journal.epoch ≡ log.kept.epoch = ap (λ (j : Journal). j.epoch) may.rest.in_hand in omega (arith, epoch_is, is, may.small)

  -- the new journal takes the place of the old one
  pub ready : IsReady seen may_leave slot epoch image.adoptions old
  ready = record {
    small = omega (arith, epoch_same, may.small);
    few = may.few;
    may = subst (λ (s : Slot). MayCreate epoch (open_epoch (in_slot s (seen old))) (open_epoch (in_slot (beside s) (seen old)))) (sym slot_same)
        (subst (λ (e : ℕ). MayCreate e (open_epoch (in_slot (beside log.kept.slot) (seen old))) (open_epoch (in_slot (beside (beside log.kept.slot)) (seen old)))) (sym epoch_same)
        (may_renew (seen old) log may.rest.holds));
    settled = may.rest.settled;
  }

  log_same : new_log slot epoch image ≡ renewed log image
  log_same = λ i. new_log (slot_same i) (epoch_same i) image

  -- each moment leaves one or the other
  pub either : (new : D) → LeavesOnly moment left_since old new (HoldsOldOr (seen old) (new_log slot epoch image)) → LeavesOnly moment left_since old new (HoldsEither log (renewed log image))
  either new run = widened moment left_since old new _ _ run (λ left held_now. by_case left held_now)
    where
      by_case : (left : Image) → HoldsOldOr (seen old) (new_log slot epoch image) left → HoldsEither log (renewed log image) left
      by_case left (inl is) = inl (is ∙ may.rest.holds)
      by_case left (inr is) = inr (is ∙ ap (λ (l : Log). Ok (Some l)) log_same)

  pub at_rest : (new : D) {E : Type 0} (result : Result Journal E) → IfOk result (λ j. IsAtRest seen may_leave j (new_log slot epoch image) new) → IfOk result (λ j. IsAtRest seen may_leave j (renewed log image) new)
  at_rest new result is = subst (λ (l : Log). IfOk result (λ j. IsAtRest seen may_leave j l new)) log_same is
