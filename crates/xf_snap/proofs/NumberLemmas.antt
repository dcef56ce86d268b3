-- Numbers are read as they were written, and written as they were read.
use Rattle.std.proofs.Common.{◌≡◌, ◌≤◌, ◌<◌, inl, inr, ℕ, suc, ◌+◌, ◌^◌, List, [], ◌∷◌, ◌++◌, length, get_or, take, drop, Some, None, refl, sym, ◌∙◌, ap, arith, take-append-drop, length-append, length-take}
use Rattle.std.specs.Int.{w16, w32, w64, to_le_bytes, from_le_bytes}
use Rattle.std.specs.Prelude.{Bool, true, false, Option, nat_le, if◌then◌else◌}
use Rattle.std.proofs.lemmas.Bool.{cases_lt, leb-true, le-leb}
use Rattle.std.proofs.lemmas.List.{take_at, drop_at, get_or-drop, get_or-take, get_or_past}
use Rattle.std.proofs.lemmas.Nat.{le_bytes_2, le_bytes_4, le_bytes_8, from_le_bytes-to_le_bytes_2, from_le_bytes-to_le_bytes_4, from_le_bytes-to_le_bytes_8}
use Rattle.xf_snap.specs.Numbers.{two, four, eight, from_two, from_four, from_eight}
use Rattle.xf_snap.specs.Reading.{◌>>=◌, Front, number_at}

abbrev pub IsBytes : List ℕ → Type 0
IsBytes bytes = (i : ℕ) → get_or bytes i 0 < 256

pub bytes-drop : (n : ℕ) (bytes : List ℕ) → IsBytes bytes → IsBytes (drop n bytes)
bytes-drop n bytes h i = rw get_or-drop (h (n + i))

pub bytes-take : (n : ℕ) (bytes : List ℕ) → IsBytes bytes → IsBytes (take n bytes)
bytes-take n bytes h i =
    elim (cases_lt i n) [
      | inl lt ↦ rw (get_or-take n bytes i 0 lt) (h i)
      | inr le ↦ rw (get_or_past (take n bytes) i 0 (omega (arith, length-take n bytes))) (omega arith)
    ]

-- what was read from the front: its bytes, and the bytes behind it
pub record Takes (bytes text rest : List ℕ) : Type 0 where
  pub parts : bytes ≡ text ++ rest
  pub rest_fits : IsBytes rest

-- the value of a step that gave one
pub bind_some : {A B : Type 0} (r : Option A) (f : A → Option B) (y : B) → (r >>= f) ≡ Some y → (x : A) × (r ≡ Some x) × (f x ≡ Some y)
bind_some (Some x) f y e = (x, refl, e)
bind_some None f y e = cc

-- a test that was met
pub guard_some : {A : Type 0} (b : Bool) (x y : A) → (if b then Some x else None) ≡ Some y → (b ≡ true) × (x ≡ y)
guard_some true x y e = (refl, cc)
guard_some false x y e = cc

pub guard_met : {A : Type 0} (b : Bool) (o : Option A) → b ≡ true → (if b then o else None) ≡ o
guard_met true o is = refl
guard_met false o is = cc

-- numbers of so many bytes
pub record IsWide (size : ℕ) (write : ℕ → List ℕ) (read : List ℕ → ℕ) (limit : ℕ) : Type 0 where
  pub len : (n : ℕ) → length (write n) ≡ size
  pub back : (bytes : List ℕ) → size ≤ length bytes → IsBytes bytes → write (read bytes) ≡ take size bytes
  pub again : (n : ℕ) (rest : List ℕ) → n < limit → read (write n ++ rest) ≡ n
  pub below : (bytes : List ℕ) → IsBytes bytes → read bytes < limit

two-len : (n : ℕ) → length (two n) ≡ 2
unfolding two
two-len n = refl

from_two-take : (bytes : List ℕ) → 2 ≤ length bytes → from_two bytes ≡ from_le_bytes w16 (take 2 bytes)
unfolding from_two
from_two-take (a ∷ b ∷ bytes) long = refl
from_two-take [] long = absurd (omega arith)
from_two-take (a ∷ []) long = absurd (omega arith)

two-back : (bytes : List ℕ) → 2 ≤ length bytes → IsBytes bytes → two (from_two bytes) ≡ take 2 bytes
unfolding two
two-back bytes long fits = le_bytes_2 (take 2 bytes) (from_two bytes) (omega (arith, length-take 2 bytes)) (bytes-take 2 bytes fits) (from_two-take bytes long)

two-again : (n : ℕ) (rest : List ℕ) → n < 2 ^ 16 → from_two (two n ++ rest) ≡ n
unfolding two from_two
two-again n rest small = from_le_bytes-to_le_bytes_2 n small

two-below : (bytes : List ℕ) → IsBytes bytes → from_two bytes < 2 ^ 16
unfolding from_two
two-below bytes fits = omega (arith, fits 0, fits 1)

pub wide_two : IsWide 2 two from_two (2 ^ 16)
wide_two = record { len = two-len; back = two-back; again = two-again; below = two-below }

four-len : (n : ℕ) → length (four n) ≡ 4
unfolding four
four-len n = refl

from_four-take : (bytes : List ℕ) → 4 ≤ length bytes → from_four bytes ≡ from_le_bytes w32 (take 4 bytes)
unfolding from_four
from_four-take (a ∷ b ∷ c ∷ d ∷ bytes) long = refl
from_four-take [] long = absurd (omega arith)
from_four-take (a ∷ []) long = absurd (omega arith)
from_four-take (a ∷ b ∷ []) long = absurd (omega arith)
from_four-take (a ∷ b ∷ c ∷ []) long = absurd (omega arith)

four-back : (bytes : List ℕ) → 4 ≤ length bytes → IsBytes bytes → four (from_four bytes) ≡ take 4 bytes
unfolding four
four-back bytes long fits = le_bytes_4 (take 4 bytes) (from_four bytes) (omega (arith, length-take 4 bytes)) (bytes-take 4 bytes fits) (from_four-take bytes long)

four-again : (n : ℕ) (rest : List ℕ) → n < 2 ^ 32 → from_four (four n ++ rest) ≡ n
unfolding four from_four
four-again n rest small = from_le_bytes-to_le_bytes_4 n small

four-below : (bytes : List ℕ) → IsBytes bytes → from_four bytes < 2 ^ 32
unfolding from_four
four-below bytes fits = omega (arith, fits 0, fits 1, fits 2, fits 3)

pub wide_four : IsWide 4 four from_four (2 ^ 32)
wide_four = record { len = four-len; back = four-back; again = four-again; below = four-below }

eight-len : (n : ℕ) → length (eight n) ≡ 8
unfolding eight
eight-len n = refl

from_eight-take : (bytes : List ℕ) → 8 ≤ length bytes → from_eight bytes ≡ from_le_bytes w64 (take 8 bytes)
unfolding from_eight
from_eight-take (a ∷ b ∷ c ∷ d ∷ e ∷ f ∷ g ∷ h ∷ bytes) long = refl
from_eight-take [] long = absurd (omega arith)
from_eight-take (a ∷ []) long = absurd (omega arith)
from_eight-take (a ∷ b ∷ []) long = absurd (omega arith)
from_eight-take (a ∷ b ∷ c ∷ []) long = absurd (omega arith)
from_eight-take (a ∷ b ∷ c ∷ d ∷ []) long = absurd (omega arith)
from_eight-take (a ∷ b ∷ c ∷ d ∷ e ∷ []) long = absurd (omega arith)
from_eight-take (a ∷ b ∷ c ∷ d ∷ e ∷ f ∷ []) long = absurd (omega arith)
from_eight-take (a ∷ b ∷ c ∷ d ∷ e ∷ f ∷ g ∷ []) long = absurd (omega arith)

eight-back : (bytes : List ℕ) → 8 ≤ length bytes → IsBytes bytes → eight (from_eight bytes) ≡ take 8 bytes
unfolding eight
eight-back bytes long fits = le_bytes_8 (take 8 bytes) (from_eight bytes) (omega (arith, length-take 8 bytes)) (bytes-take 8 bytes fits) (from_eight-take bytes long)

eight-again : (n : ℕ) (rest : List ℕ) → n < 2 ^ 64 → from_eight (eight n ++ rest) ≡ n
unfolding eight from_eight
eight-again n rest small = from_le_bytes-to_le_bytes_8 n small

eight-below : (bytes : List ℕ) → IsBytes bytes → from_eight bytes < 2 ^ 64
unfolding from_eight
eight-below bytes fits = omega (arith, fits 0, fits 1, fits 2, fits 3, fits 4, fits 5, fits 6, fits 7)

pub wide_eight : IsWide 8 eight from_eight (2 ^ 64)
wide_eight = record { len = eight-len; back = eight-back; again = eight-again; below = eight-below }

pub number_takes : (size : ℕ) (write : ℕ → List ℕ) (read : List ℕ → ℕ) (limit : ℕ) → IsWide size write read limit → (bytes : List ℕ) (x : ℕ × List ℕ) → IsBytes bytes → number_at size read bytes ≡ Some x → Takes bytes (write x.0) x.1 × (x.0 < limit)
number_takes size write read limit wide bytes x fits is =
    let g = guard_some (nat_le size (length bytes)) (read bytes, drop size bytes) x is in
    let long : size ≤ length bytes = leb-true size (length bytes) g.0 in
    let number : read bytes ≡ x.0 = ap (λ (p : ℕ × List ℕ). p.0) g.1 in
    let behind : drop size bytes ≡ x.1 = ap (λ (p : ℕ × List ℕ). p.1) g.1 in
    let front : write x.0 ≡ take size bytes = ap write (sym number) ∙ wide.back bytes long fits in
    (record { parts = sym (take-append-drop size bytes) ∙ (λ i. sym front i ++ behind i); rest_fits = rw (← behind) (bytes-drop size bytes fits) }, rw (← number) (wide.below bytes fits))

pub number_again : (size : ℕ) (write : ℕ → List ℕ) (read : List ℕ → ℕ) (limit : ℕ) → IsWide size write read limit → (n : ℕ) (rest : List ℕ) → n < limit → number_at size read (write n ++ rest) ≡ Some (n, rest)
number_again size write read limit wide n rest small =
    let long : nat_le size (length (write n ++ rest)) ≡ true = le-leb size (length (write n ++ rest)) (omega (arith, length-append (write n) rest, wide.len n)) in
    guard_met (nat_le size (length (write n ++ rest))) (Some (read (write n ++ rest), drop size (write n ++ rest))) long
    ∙ (λ i. Some (wide.again n rest small i, drop_at (write n) rest size (wide.len n) i))
