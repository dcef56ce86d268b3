-- What a write that is cut short leaves, byte by byte and whole.
use Rattle.std.proofs.Common.{◌≡◌, ◌≤◌, ℕ, zero, suc, ◌+◌, max, List, [], ◌∷◌, ◌++◌, length, take, drop, refl, sym, ◌∙◌, ap, arith, append_assoc, length-append}
use Rattle.std.proofs.lemmas.List.{take_at, drop_at, drop_all, length-take, length-drop}
use Rattle.std.proofs.Math.Nat.{suc-add}
use Rattle.xf_disk.specs.Crash.{Torn}
use Rattle.xf_disk.specs.Marks.{spliced}

-- a byte more before the range
pub torn_before : (at n : ℕ) (old new : List ℕ) (byte : ℕ) → Torn at n old new → Torn (suc at) n (byte ∷ old) (byte ∷ new)
torn_before at n old new byte torn = record {
  before = ap (λ (l : List ℕ). byte ∷ l) torn.before;
  after = let one : suc at + n ≡ suc (at + n) = suc-add at n in rw one torn.after;
  no_shorter = omega (arith, torn.no_shorter);
  no_longer = omega (arith, torn.no_longer);
}

-- a byte more in the range
pub torn_in : (n : ℕ) (old new : List ℕ) (byte left : ℕ) → Torn zero n old new → Torn zero (suc n) (byte ∷ old) (left ∷ new)
torn_in n old new byte left torn = record {
  before = refl;
  after = let one : 0 + suc n ≡ suc (0 + n) = omega arith in rw one torn.after;
  no_shorter = omega (arith, torn.no_shorter);
  no_longer = omega (arith, torn.no_longer);
}

-- nothing but new bytes
pub torn_past : (n : ℕ) (new : List ℕ) → length new ≤ n → Torn zero n [] new
torn_past n new short = record {
  before = refl;
  after = drop_all (0 + n) new (omega (arith, short)) ∙ sym (drop_all (0 + n) [] (omega arith));
  no_shorter = omega arith;
  no_longer = omega (arith, short);
}

-- a write may have done nothing
pub torn_same : (at n : ℕ) (bytes : List ℕ) → Torn at n bytes bytes
torn_same at n bytes = record { before = refl; after = refl; no_shorter = omega arith; no_longer = omega arith }

pub length-spliced : {X : Type 0} → (at : ℕ) (put old : List X) → at ≤ length old → length (spliced at put old) ≡ max (length old) (at + length put)
length-spliced at put old le =
    omega (arith, length-append (take at old ++ put) (drop (at + length put) old), length-append (take at old) put, length-take at old, length-drop (at + length put) old)

-- and it may have done all
pub torn_spliced : (at : ℕ) (put old : List ℕ) → at ≤ length old → Torn at (length put) old (spliced at put old)
torn_spliced at put old le =
    let front : length (take at old) ≡ at = omega (arith, length-take at old) in
    record {
      before = ap (λ (l : List ℕ). take at l) (append_assoc (take at old) put (drop (at + length put) old)) ∙ take_at (take at old) (put ++ drop (at + length put) old) at front;
      after = drop_at (take at old ++ put) (drop (at + length put) old) (at + length put) (omega (arith, length-append (take at old) put, front));
      no_shorter = omega (arith, length-spliced at put old le);
      no_longer = omega (arith, length-spliced at put old le);
    }
