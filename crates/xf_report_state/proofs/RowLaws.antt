-- The place of a row among the rows.
use Rattle.std.proofs.Common.{◌≡◌, ◌≤◌, ◌+◌, ℕ, suc, Bool, true, false, cond, not, List, [], ◌∷◌, length, Some, None, refl, arith}
use Rattle.std.specs.Prelude.{◌==◌, nat_lt}
use Rattle.std.specs.List.{position, position_or_len}
use Rattle.std.proofs.lemmas.Bool.Decides.{nat_tests}

abbrev place : ℕ → List ℕ → ℕ
place n ns = position_or_len (λ m. m == n) ns

place-most : (n : ℕ) (ns : List ℕ) → place n ns ≤ length ns
place-most n [] = omega arith
place-most n (m ∷ ms) = by (m == n) (place-most n ms)
  where
    by : (b : Bool) → place n ms ≤ length ms → cond (not b) (1 + place n ms) 0 ≤ suc (length ms)
    by true h = omega arith
    by false h = omega (arith, h)

pub place-some : (n : ℕ) (ns : List ℕ) (k : ℕ) → Some k ≡ position (λ m. m == n) ns → k ≡ place n ns
place-some n ns k h = by (nat_lt (place n ns) (length ns)) h
  where
    by : (b : Bool) → Some k ≡ cond b (Some (place n ns)) None → k ≡ place n ns
    by true e = cc e
    by false e = cc e

pub place-none : (n : ℕ) (ns : List ℕ) → None ≡ position (λ m. m == n) ns → length ns ≡ place n ns
place-none n ns h = by (nat_lt (place n ns) (length ns)) refl h
  where
    by : (b : Bool) → nat_lt (place n ns) (length ns) ≡ b → None ≡ cond b (Some (place n ns)) None → length ns ≡ place n ns
    by true e g = cc g
    by false e g = let most = place-most n ns in grind (arith, nat_tests, e, most)
