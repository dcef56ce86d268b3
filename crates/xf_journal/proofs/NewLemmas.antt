-- A new slot is read as it was written.
use Rattle.std.proofs.Common.{◌≡◌, ◌≤◌, ◌<◌, inl, inr, ℕ, suc, ◌+◌, ◌^◌, List, [], ◌∷◌, ◌++◌, length, take, drop, get_or, Some, None, Ok, refl, ◌∙◌, ap, arith, append_assoc, length-append, length-take}
use Rattle.std.proofs.lemmas.List.{drop_at, drop_more}
use Rattle.std.proofs.lemmas.Bool.{le-leb, cases_eq, and_from}
use Rattle.std.specs.Prelude.{nat_le, nat_lt, ◌==◌}
use Rattle.xf_disk.specs.declared.slot.Slot.{Slot}
use Rattle.xf_disk.specs.Image.{Image, in_slot, beside}
use Rattle.xf_disk.specs.Marks.{spliced}
use Rattle.xf_disk.specs.Crash.{Torn, InSlot}
use Rattle.xf_journal.specs.declared.layout.Format.TheVariants.{Second}
use Rattle.xf_journal.specs.declared.image.Image as written
use Rattle.xf_journal.specs.Numbers.{four, eight, from_four}
use Rattle.xf_base.specs.Limits.{form_limit, adoption_limit}
use Rattle.xf_journal.specs.Layout.{new_bytes, is_open, open_epoch, epoch_in, form_length, base_length, base_at, entries_at, is_epoch, adoptions_in}
use Rattle.xf_journal.specs.Held.{log_with, log_of, held, entries_from}
use Rattle.xf_journal.specs.Scanned.{MayCreate, new_log, HoldsOldOr}
use Rattle.xf_journal.proofs.NumberLemmas.{length-four, length-eight, from_four-four, from_eight-eight}
use Rattle.xf_journal.proofs.EntryLemmas.{drop_sum, take_exactly, drop_exactly, if_true}
use Rattle.xf_journal.proofs.TailLemmas.{entries_closed}
use Rattle.xf_journal.proofs.SlotLemmas.{FieldsStand, log_from}
use Rattle.xf_journal.proofs.CreateLemmas.{closed_same, open_new, shut_closed}

module _ (slot : Slot) (epoch : ℕ) (image : written.Image) (rest : List ℕ) (first : 1 ≤ epoch) (small : epoch < 2 ^ 62) (few : image.adoptions < adoption_limit) (form_fits : length image.form ≤ 2 ^ 20) (base_fits : length image.base ≤ 2 ^ 26) where
  abbrev form : List ℕ
  form = image.form

  abbrev base : List ℕ
  base = image.base

  abbrev behind_base : List ℕ
  behind_base = form ++ (base ++ (0 ∷ rest))

  abbrev behind_lengths : List ℕ
  behind_lengths = four image.adoptions ++ behind_base

  abbrev behind_epoch : List ℕ
  behind_epoch = four (length form) ++ (four (length base) ++ behind_lengths)

  -- the slot, its gate open
  abbrev flat : List ℕ
  flat = 1 ∷ 88 ∷ 70 ∷ 83 ∷ 50 ∷ (eight epoch ++ behind_epoch)

  pub flat_is : 1 ∷ (new_bytes epoch image ++ rest) ≡ flat
  flat_is =
      let e = eight epoch in
      let f = four (length form) in
      let b = four (length base) in
      let g = four image.adoptions in
      ap (λ (l : List ℕ). 1 ∷ 88 ∷ 70 ∷ 83 ∷ 50 ∷ l)
      (append_assoc (e ++ f ++ b ++ g ++ form ++ base) (0 ∷ []) rest
      ∙ append_assoc (e ++ f ++ b ++ g ++ form) base (0 ∷ rest)
      ∙ append_assoc (e ++ f ++ b ++ g) form (base ++ (0 ∷ rest))
      ∙ append_assoc (e ++ f ++ b) g behind_base
      ∙ append_assoc (e ++ f) b behind_lengths
      ∙ append_assoc e f (b ++ behind_lengths))

  epoch_is : epoch_in flat ≡ epoch
  epoch_is = from_eight-eight epoch behind_epoch (omega (arith, small))

  behind_eight : drop 8 (eight epoch ++ behind_epoch) ≡ behind_epoch
  behind_eight = drop_at (eight epoch) behind_epoch 8 (length-eight epoch)

  form_is : form_length flat ≡ length form
  form_is = ap from_four behind_eight ∙ from_four-four (length form) (four (length base) ++ behind_lengths) (omega (arith, form_fits))

  behind_form : drop 12 (eight epoch ++ behind_epoch) ≡ four (length base) ++ behind_lengths
  behind_form = drop_sum 8 4 (eight epoch ++ behind_epoch) ∙ ap (λ (l : List ℕ). drop 4 l) behind_eight ∙ drop_at (four (length form)) (four (length base) ++ behind_lengths) 4 (length-four (length form))

  base_is : base_length flat ≡ length base
  base_is = ap from_four behind_form ∙ from_four-four (length base) behind_lengths (omega (arith, base_fits))

  behind_sizes : drop 16 (eight epoch ++ behind_epoch) ≡ behind_lengths
  behind_sizes = drop_sum 12 4 (eight epoch ++ behind_epoch) ∙ ap (λ (l : List ℕ). drop 4 l) behind_form ∙ drop_at (four (length base)) behind_lengths 4 (length-four (length base))

  adoptions_is : adoptions_in Second flat ≡ image.adoptions
  adoptions_is = ap from_four behind_sizes ∙ from_four-four image.adoptions behind_base (omega (arith, few))

  behind_header : drop 25 flat ≡ behind_base
  behind_header = drop_sum 16 4 (eight epoch ++ behind_epoch) ∙ ap (λ (l : List ℕ). drop 4 l) behind_sizes ∙ drop_at (four image.adoptions) behind_base 4 (length-four image.adoptions)

  size : length flat ≡ 25 + length form + length base + suc (length rest)
  size =
      omega (
        arith,
        length-append (eight epoch) behind_epoch,
        length-append (four (length form)) (four (length base) ++ behind_lengths),
        length-append (four (length base)) behind_lengths,
        length-append (four image.adoptions) behind_base,
        length-four image.adoptions,
        length-append form (base ++ (0 ∷ rest)),
        length-append base (0 ∷ rest),
        length-eight epoch,
        length-four (length form),
        length-four (length base),
      )

  stand : FieldsStand Second flat
  stand = record {
    epoch = ap is_epoch epoch_is ∙ and_from (nat_le 1 epoch) (nat_lt epoch (2 ^ 62)) (le-leb 1 epoch first) (le-leb (suc epoch) (2 ^ 62) (omega (arith, small)));
    form = ap (λ (k : ℕ). nat_le k form_limit) form_is ∙ le-leb (length form) (2 ^ 20) form_fits;
    form_stands = omega (arith, form_is, size);
    base_stands = omega (arith, form_is, base_is, size);
    adoptions = and_from (nat_le 26 (length flat)) (nat_lt (adoptions_in Second flat) adoption_limit) (le-leb 26 (length flat) (omega (arith, size)))
        (ap (λ (k : ℕ). nat_lt k adoption_limit) adoptions_is ∙ le-leb (suc image.adoptions) adoption_limit (omega (arith, few)));
  }

  taken_form : take (form_length flat) (drop 25 flat) ≡ form
  taken_form = (λ i. take (form_is i) (behind_header i)) ∙ take_exactly form (base ++ (0 ∷ rest))

  behind_whole : drop (base_at Second flat) flat ≡ base ++ (0 ∷ rest)
  behind_whole = drop_sum 25 (form_length flat) flat ∙ (λ i. drop (form_is i) (behind_header i)) ∙ drop_exactly form (base ++ (0 ∷ rest))

  taken_base : take (base_length flat) (drop (base_at Second flat) flat) ≡ base
  taken_base = (λ i. take (base_is i) (behind_whole i)) ∙ take_exactly base (0 ∷ rest)

  entries_is : entries_at Second flat ≡ 25 + length form + length base
  entries_is = omega (arith, form_is, base_is)

  no_entries : entries_from 0 (entries_at Second flat) (drop (entries_at Second flat) flat) ≡ record { entries = []; gate = 25 + length form + length base; cut = None }
  no_entries =
      let behind : drop (entries_at Second flat) flat ≡ 0 ∷ rest =
      drop_sum (base_at Second flat) (base_length flat) flat ∙ (λ i. drop (base_is i) (behind_whole i)) ∙ drop_exactly base (0 ∷ rest) in
      (λ i. entries_from 0 (entries_is i) (behind i)) ∙ entries_closed (25 + length form + length base) 0 rest (λ is. cc)

  pub new_read : log_of slot flat ≡ Ok (new_log slot epoch image)
  new_read =
      log_from slot flat Second refl stand
      ∙ (λ i. Ok (log_with (record { slot = slot; epoch = epoch_is i; adoptions = adoptions_is i; form = taken_form i; base = taken_base i; entries = [] }) (no_entries i)))

  pub new_open : open_epoch flat ≡ Some epoch
  new_open =
      if_true (is_open flat) (Some (epoch_in flat)) None (and_from (nat_le 22 (length flat)) (1 == 1) (le-leb 22 (length flat) (omega (arith, size))) refl) ∙ ap (λ (k : ℕ). Some k) epoch_is

-- the third step: any byte at the gate, with all of the new slot behind it
module _ (slot : Slot) (epoch : ℕ) (image : written.Image) (first : 1 ≤ epoch) (small : epoch < 2 ^ 62) (few : image.adoptions < adoption_limit) (form_fits : length image.form ≤ 2 ^ 20) (base_fits : length image.base ≤ 2 ^ 26)
    (old : Image) (may : MayCreate epoch (open_epoch (in_slot slot old)) (open_epoch (in_slot (beside slot) old)))
    (mid : Image) (shut : List ℕ) (some : 1 ≤ length shut) (behind : in_slot slot mid ≡ spliced 1 (new_bytes epoch image) shut) (beside_mid : in_slot (beside slot) mid ≡ in_slot (beside slot) old) where
  abbrev left_over : List ℕ
  left_over = drop (1 + length (new_bytes epoch image)) shut

  front : length (take 1 shut) ≡ 1
  front = omega (arith, length-take 1 shut, some)

  all : in_slot slot mid ≡ take 1 shut ++ (new_bytes epoch image ++ left_over)
  all = behind ∙ append_assoc (take 1 shut) (new_bytes epoch image) left_over

  behind_gate : drop 1 (in_slot slot mid) ≡ new_bytes epoch image ++ left_over
  behind_gate = ap (λ (l : List ℕ). drop 1 l) all ∙ drop_at (take 1 shut) (new_bytes epoch image ++ left_over) 1 front

  long : 1 ≤ length (in_slot slot mid)
  long = omega (arith, ap length all, length-append (take 1 shut) (new_bytes epoch image ++ left_over), front)

  pub opened_holds : (new : Image) → in_slot slot new ≡ 1 ∷ drop 1 (in_slot slot mid) → in_slot (beside slot) new ≡ in_slot (beside slot) mid → held new ≡ Ok (Some (new_log slot epoch image))
  opened_holds new is rest =
      let flat_slot : in_slot slot new ≡ flat slot epoch image left_over first small few form_fits base_fits =
      is ∙ ap (λ (l : List ℕ). 1 ∷ l) behind_gate ∙ flat_is slot epoch image left_over first small few form_fits base_fits in
      open_new slot epoch old new (new_log slot epoch image) may (rest ∙ beside_mid)
      (ap open_epoch flat_slot ∙ new_open slot epoch image left_over first small few form_fits base_fits)
      (ap (log_of slot) flat_slot ∙ new_read slot epoch image left_over first small few form_fits base_fits)

  pub gate_torn_holds : (new : Image) → InSlot slot (Torn 0 1) mid new → HoldsOldOr old (new_log slot epoch image) new
  gate_torn_holds new torn = elim (cases_eq (get_or (in_slot slot new) 0 0) 1) [
    | inl is ↦ inr (opened_holds new (split ∙ (λ i. is i ∷ torn.this.after i)) torn.rest)
    | inr closed ↦ inl (closed_same slot epoch old new may (torn.rest ∙ beside_mid) (shut_closed (in_slot slot new) closed))
  ]
    where
      split : in_slot slot new ≡ get_or (in_slot slot new) 0 0 ∷ drop 1 (in_slot slot new)
      split = drop_more (in_slot slot new) 0 0 (omega (arith, long, torn.this.no_shorter))

  pub gate_written_holds : (new : Image) → in_slot slot new ≡ spliced 0 (1 ∷ []) (in_slot slot mid) → in_slot (beside slot) new ≡ in_slot (beside slot) mid → held new ≡ Ok (Some (new_log slot epoch image))
  gate_written_holds new is rest = opened_holds new is rest
