-- What a crash leaves in each of the three steps of a new journal.
use Rattle.std.proofs.Common.{◌≡◌, ◌≤◌, ◌<◌, ◌⊎◌, inl, inr, ℕ, suc, List, [], ◌∷◌, length, drop, get_or, Option, Some, None, Ok, Err, refl, sym, ◌∙◌, ap, arith}
use Rattle.std.proofs.lemmas.Bool.{le-leb, lt-leb, ne_eqb, cases_eq, and_right}
use Rattle.std.specs.Prelude.{Bool, true, false, nat_le, nat_lt, ◌&&◌, ◌==◌, if◌then◌else◌}
use Rattle.xf_disk.specs.declared.slot.Slot.{Slot}
use Rattle.xf_disk.specs.declared.slot.Slot.TheVariants.{A, B}
use Rattle.xf_disk.specs.Image.{Image, in_slot, beside}
use Rattle.xf_disk.specs.Crash.{Torn, InSlot}
use Rattle.xf_journal.specs.declared.fault.JournalFault.TheVariants.{Damaged}
use Rattle.xf_journal.specs.Layout.{is_open, open_epoch, epoch_in}
use Rattle.xf_journal.specs.Held.{Log, log_of, chosen, some_log, held_in, held}
use Rattle.xf_journal.specs.Moments.{SameGate, IsOpening, IsShut, Closes}
use Rattle.xf_journal.specs.Scanned.{MayCreate}
use Rattle.xf_journal.proofs.EntryLemmas.{if_true}
use Rattle.xf_journal.proofs.HeldLemmas.{held_by_use}

if_false : {X : Type 0} → (b : Bool) (x y : X) → b ≡ false → (if b then x else y) ≡ y
if_false true x y is = cc
if_false false x y is = refl

-- of two open slots the one with the greater epoch is in use
pub greater_a : (a b : ℕ) → b < a → chosen (Some a) (Some b) ≡ Ok (Some A)
greater_a a b more =
    if_false (a == b) (Err (Damaged B 5)) (Ok (Some (if nat_lt b a then A else B))) (ne_eqb a b (λ same. omega arith))
    ∙ ap (λ (s : Slot). Ok (Some s)) (if_true (nat_lt b a) A B (le-leb (suc b) a (omega arith)))

pub greater_b : (a b : ℕ) → a < b → chosen (Some a) (Some b) ≡ Ok (Some B)
greater_b a b more =
    if_false (a == b) (Err (Damaged B 5)) (Ok (Some (if nat_lt b a then A else B))) (ne_eqb a b (λ same. omega arith))
    ∙ ap (λ (s : Slot). Ok (Some s)) (if_false (nat_lt b a) A B (lt-leb (suc b) a (omega arith)))

-- what is held is what the slot beside it holds, where this one is closed or not in use
alone_a : (epoch : ℕ) (a b : Option ℕ) → MayCreate epoch a b → chosen a b ≡ chosen None b
alone_a epoch None b may = refl
alone_a epoch (Some a) None may = absurd may
alone_a epoch (Some a) (Some b) may = greater_b a b may.0

alone_b : (epoch : ℕ) (a b : Option ℕ) → MayCreate epoch b a → chosen a b ≡ chosen a None
alone_b epoch None None may = refl
alone_b epoch (Some a) None may = refl
alone_b epoch None (Some b) may = absurd may
alone_b epoch (Some a) (Some b) may = greater_a a b may.0

-- the slot that is in use beside a closed one is that beside it
beside_a : (image new : Image) (b : Option ℕ) → new.b ≡ image.b → held_in new (chosen None b) ≡ held_in image (chosen None b)
beside_a image new None rest = refl
beside_a image new (Some b) rest = ap (λ (l : List ℕ). some_log (log_of B l)) rest

beside_b : (image new : Image) (a : Option ℕ) → new.a ≡ image.a → held_in new (chosen a None) ≡ held_in image (chosen a None)
beside_b image new None rest = refl
beside_b image new (Some a) rest = ap (λ (l : List ℕ). some_log (log_of A l)) rest

-- so where this slot is closed they hold what they held
pub closed_same : (slot : Slot) (epoch : ℕ) (image new : Image) → MayCreate epoch (open_epoch (in_slot slot image)) (open_epoch (in_slot (beside slot) image))
    → in_slot (beside slot) new ≡ in_slot (beside slot) image → open_epoch (in_slot slot new) ≡ None → held new ≡ held image
closed_same A epoch image new may rest shut =
    (λ i. held_in new (chosen (shut i) (open_epoch (rest i)))) ∙ beside_a image new (open_epoch image.b) rest
    ∙ ap (held_in image) (sym (alone_a epoch (open_epoch image.a) (open_epoch image.b) may))
closed_same B epoch image new may rest shut =
    (λ i. held_in new (chosen (open_epoch (rest i)) (shut i))) ∙ beside_b image new (open_epoch image.a) rest
    ∙ ap (held_in image) (sym (alone_b epoch (open_epoch image.a) (open_epoch image.b) may))

use_a : (epoch : ℕ) (a b : Option ℕ) → MayCreate epoch a b → chosen (Some epoch) b ≡ Ok (Some A)
use_a epoch a None may = refl
use_a epoch None (Some b) may = greater_a epoch b may
use_a epoch (Some a) (Some b) may = greater_a epoch b may.1

use_b : (epoch : ℕ) (a b : Option ℕ) → MayCreate epoch b a → chosen a (Some epoch) ≡ Ok (Some B)
use_b epoch None b may = refl
use_b epoch (Some a) None may = greater_b a epoch may
use_b epoch (Some a) (Some b) may = greater_b a epoch may.1

-- and where it is open with the new epoch they hold what it holds
pub open_new : (slot : Slot) (epoch : ℕ) (image new : Image) (log : Log) → MayCreate epoch (open_epoch (in_slot slot image)) (open_epoch (in_slot (beside slot) image))
    → in_slot (beside slot) new ≡ in_slot (beside slot) image → open_epoch (in_slot slot new) ≡ Some epoch → log_of slot (in_slot slot new) ≡ Ok log → held new ≡ Ok (Some log)
open_new A epoch image new log may rest is_open read =
    held_by_use new A log ((λ i. chosen (is_open i) (open_epoch (rest i))) ∙ use_a epoch (open_epoch image.a) (open_epoch image.b) may) read
open_new B epoch image new log may rest is_open read =
    held_by_use new B log ((λ i. chosen (open_epoch (rest i)) (is_open i)) ∙ use_b epoch (open_epoch image.a) (open_epoch image.b) may) read

-- a slot is closed where its gate is, or where it is short
pub shut_closed : (bytes : List ℕ) → (get_or bytes 0 0 ≡ 1 → ⊥) → open_epoch bytes ≡ None
shut_closed bytes shut = ap (λ (b : Bool). if b then Some (epoch_in bytes) else None) (and_right (nat_le 22 (length bytes)) (get_or bytes 0 0 == 1) (ne_eqb (get_or bytes 0 0) 1 shut))

short_closed : (bytes : List ℕ) → length bytes < 22 → open_epoch bytes ≡ None
short_closed bytes short = ap (λ (b : Bool). if b && (get_or bytes 0 0 == 1) then Some (epoch_in bytes) else None) (lt-leb 22 (length bytes) short)

-- a byte and what stands behind it
first_and_rest : (bytes : List ℕ) → 1 ≤ length bytes → bytes ≡ get_or bytes 0 0 ∷ drop 1 bytes
first_and_rest [] some = absurd (omega arith)
first_and_rest (byte ∷ bytes) some = refl

-- a gate that is being closed is closed, or the slot is as it was
opening_torn : (old new : List ℕ) → IsOpening old → Torn 0 1 old new → (open_epoch new ≡ None) ⊎ (new ≡ old)
opening_torn old new (inl none) torn = inl (short_closed new (omega (arith, none, torn.no_longer)))
opening_torn old new (inr one) torn = elim (cases_eq (get_or new 0 0) 1) [
  | inl is ↦
      let some : 1 ≤ length old = opened old one in
      let some_new : 1 ≤ length new = omega (arith, some, torn.no_shorter) in
      inr (first_and_rest new some_new ∙ (λ i. (is ∙ sym one) i ∷ torn.after i) ∙ sym (first_and_rest old some))
  | inr shut ↦ inl (shut_closed new shut)
]
  where
    opened : (bytes : List ℕ) → get_or bytes 0 0 ≡ 1 → 1 ≤ length bytes
    opened [] is = cc
    opened (byte ∷ bytes) is = omega arith

same_image : (slot : Slot) (old new : Image) → in_slot slot new ≡ in_slot slot old → in_slot (beside slot) new ≡ in_slot (beside slot) old → new ≡ old
same_image A old new this rest = λ i. record { a = this i; b = rest i }
same_image B old new this rest = λ i. record { a = rest i; b = this i }

-- the first step: the gate
pub closing_holds : (slot : Slot) (epoch : ℕ) (old new : Image) → MayCreate epoch (open_epoch (in_slot slot old)) (open_epoch (in_slot (beside slot) old)) → InSlot slot Closes old new → held new ≡ held old
closing_holds slot epoch old new may step = by_closing step.this
  where
    same : in_slot slot new ≡ in_slot slot old → held new ≡ held old
    same is = ap held (same_image slot old new is step.rest)

    by_torn : (open_epoch (in_slot slot new) ≡ None) ⊎ (in_slot slot new ≡ in_slot slot old) → held new ≡ held old
    by_torn (inl shut) = closed_same slot epoch old new may step.rest shut
    by_torn (inr is) = same is

    by_closing : Closes (in_slot slot old) (in_slot slot new) → held new ≡ held old
    by_closing (inl is) = same is
    by_closing (inr torn) = by_torn (opening_torn (in_slot slot old) (in_slot slot new) torn.0 torn.1)

-- the second: what stands behind it
still_shut : (old new : List ℕ) → IsShut old → SameGate old new → get_or new 0 0 ≡ 1 → ⊥
still_shut [] new shut same is = absurd (omega (arith, shut.0))
still_shut (x ∷ old) [] shut same is = cc
still_shut (x ∷ old) (y ∷ new) shut same is = let first : y ≡ x = cc in shut.1 (sym first ∙ is)

pub behind_closed : (slot : Slot) (epoch : ℕ) (old mid new : Image) → MayCreate epoch (open_epoch (in_slot slot old)) (open_epoch (in_slot (beside slot) old)) → in_slot (beside slot) mid ≡ in_slot (beside slot) old
    → IsShut (in_slot slot mid) → InSlot slot SameGate mid new → held new ≡ held old
behind_closed slot epoch old mid new may rest shut step =
    closed_same slot epoch old new may (step.rest ∙ rest) (shut_closed (in_slot slot new) (still_shut (in_slot slot mid) (in_slot slot new) shut step.this))
