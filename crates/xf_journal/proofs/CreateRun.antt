-- The making of a journal as a run of disk calls.
use Rattle.std.proofs.Common.{◌≡◌, ◌≤◌, inl, ℕ, ◌^◌, [], ◌∷◌, length, Some, Ok, ◌∙◌, subst}
use Rattle.xf_disk.specs.declared.slot.Slot.{Slot}
use Rattle.xf_disk.specs.Image.{Image, in_slot, beside}
use Rattle.xf_disk.specs.Marks.{spliced}
use Rattle.xf_disk.specs.Crash.{Torn, InSlot, IsSettled, LeavesOnly}
use Rattle.xf_journal.specs.declared.image.Image as written
use Rattle.xf_journal.specs.Layout.{new_bytes}
use Rattle.xf_journal.specs.Held.{held}
use Rattle.xf_journal.specs.Moments.{MightStep, SameGate, IsShut, Closes}
use Rattle.xf_journal.specs.Scanned.{new_log, IsReady, HoldsOldOr}
use Rattle.xf_journal.proofs.RunLemmas.{runs_on, widened}
use Rattle.xf_journal.proofs.CreateLemmas.{closing_holds, behind_closed}
use Rattle.xf_journal.proofs.NewLemmas.{gate_torn_holds, gate_written_holds}

module _ {D : Type 0} (seen : D → Image) (may_leave : D → Image → Type 0) (moment : D → ℕ) (left_since : D → ℕ → Image → Type 0)
    (slot : Slot) (epoch : ℕ) (image : written.Image) (old : D) (ready : IsReady seen may_leave slot epoch image.adoptions old) where
  abbrev Either : Image → Type 0
  Either = HoldsOldOr (seen old) (new_log slot epoch image)

  -- the gate is closed
  pub close_run : (shut : D) → LeavesOnly moment left_since old shut (InSlot slot Closes (seen old)) → LeavesOnly moment left_since old shut Either
  close_run shut run = widened moment left_since old shut _ Either run (λ left step. inl (closing_holds slot epoch (seen old) left ready.may step))

  module _ (shut : D) (is_shut : IsShut (in_slot slot (seen shut))) (beside_shut : in_slot (beside slot) (seen shut) ≡ in_slot (beside slot) (seen old)) where
    -- all is written behind it
    pub behind_run : (mid : D) → IsSettled (seen shut) (may_leave shut) → LeavesOnly moment left_since old shut Either → LeavesOnly moment left_since shut mid (MightStep slot SameGate (may_leave shut)) → LeavesOnly moment left_since old mid Either
    behind_run mid settled so_far run = runs_on moment left_since old shut mid Either _ so_far run
        (λ left might. inl (behind_closed slot epoch (seen old) (seen shut) left ready.may beside_shut is_shut (subst (λ (was : Image). InSlot slot SameGate was left) (settled might.0 might.1) might.2)))

    module _ (mid : D) (behind : in_slot slot (seen mid) ≡ spliced 1 (new_bytes epoch image) (in_slot slot (seen shut))) (beside_mid : in_slot (beside slot) (seen mid) ≡ in_slot (beside slot) (seen shut))
        (first : 1 ≤ epoch) (form_fits : length image.form ≤ 2 ^ 20) (base_fits : length image.base ≤ 2 ^ 26) where
      -- the gate is opened
      pub open_run : (new : D) → IsSettled (seen mid) (may_leave mid) → LeavesOnly moment left_since old mid Either → LeavesOnly moment left_since mid new (MightStep slot (Torn 0 1) (may_leave mid)) → LeavesOnly moment left_since old new Either
      open_run new settled so_far run = runs_on moment left_since old mid new Either _ so_far run
          (λ left might. gate_torn_holds slot epoch image first ready.small ready.few form_fits base_fits (seen old) ready.may (seen mid) (in_slot slot (seen shut)) is_shut.0 behind (beside_mid ∙ beside_shut) left
          (subst (λ (was : Image). InSlot slot (Torn 0 1) was left) (settled might.0 might.1) might.2))

      pub new_holds : (new : D) → in_slot slot (seen new) ≡ spliced 0 (1 ∷ []) (in_slot slot (seen mid)) → in_slot (beside slot) (seen new) ≡ in_slot (beside slot) (seen mid) → held (seen new) ≡ Ok (Some (new_log slot epoch image))
      new_holds new is rest = gate_written_holds slot epoch image first ready.small ready.few form_fits base_fits (seen old) ready.may (seen mid) (in_slot slot (seen shut)) is_shut.0 behind (beside_mid ∙ beside_shut) (seen new) is rest
