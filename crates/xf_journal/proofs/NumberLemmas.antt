-- Numbers are read as they were written.
use Rattle.std.proofs.Common.{◌≡◌, ℕ, ◌<◌, ◌≤◌, ◌^◌, List, [], ◌∷◌, ◌++◌, length, take, refl, sym, ◌∙◌, ap, arith}
use Rattle.std.proofs.lemmas.Nat.{from_le_bytes-to_le_bytes_4, from_le_bytes-to_le_bytes_8}
use Rattle.xf_journal.specs.Numbers.{four, eight, from_four, from_eight}

pub length-four : (n : ℕ) → length (four n) ≡ 4
unfolding four
length-four n = refl

pub length-eight : (n : ℕ) → length (eight n) ≡ 8
unfolding eight
length-eight n = refl

pub from_four-four : (n : ℕ) (rest : List ℕ) → n < 2 ^ 32 → from_four (four n ++ rest) ≡ n
unfolding four from_four
from_four-four n rest small = from_le_bytes-to_le_bytes_4 n small

pub from_eight-eight : (n : ℕ) (rest : List ℕ) → n < 2 ^ 64 → from_eight (eight n ++ rest) ≡ n
unfolding eight from_eight
from_eight-eight n rest small = from_le_bytes-to_le_bytes_8 n small

-- a number is read of its own bytes alone
pub from_four-same : (a b c d : ℕ) (xs ys : List ℕ) → from_four (a ∷ b ∷ c ∷ d ∷ xs) ≡ from_four (a ∷ b ∷ c ∷ d ∷ ys)
unfolding from_four
from_four-same a b c d xs ys = refl

pub from_eight-same : (a b c d e f g h : ℕ) (xs ys : List ℕ) → from_eight (a ∷ b ∷ c ∷ d ∷ e ∷ f ∷ g ∷ h ∷ xs) ≡ from_eight (a ∷ b ∷ c ∷ d ∷ e ∷ f ∷ g ∷ h ∷ ys)
unfolding from_eight
from_eight-same a b c d e f g h xs ys = refl

-- and of no more than eight
pub from_eight-take : (xs : List ℕ) → 8 ≤ length xs → from_eight (take 8 xs) ≡ from_eight xs
from_eight-take (a ∷ b ∷ c ∷ d ∷ e ∷ f ∷ g ∷ h ∷ xs) long = from_eight-same a b c d e f g h [] xs
from_eight-take [] long = absurd (omega arith)
from_eight-take (a ∷ []) long = absurd (omega arith)
from_eight-take (a ∷ b ∷ []) long = absurd (omega arith)
from_eight-take (a ∷ b ∷ c ∷ []) long = absurd (omega arith)
from_eight-take (a ∷ b ∷ c ∷ d ∷ []) long = absurd (omega arith)
from_eight-take (a ∷ b ∷ c ∷ d ∷ e ∷ []) long = absurd (omega arith)
from_eight-take (a ∷ b ∷ c ∷ d ∷ e ∷ f ∷ []) long = absurd (omega arith)
from_eight-take (a ∷ b ∷ c ∷ d ∷ e ∷ f ∷ g ∷ []) long = absurd (omega arith)

pub from_eight-front : (xs ys : List ℕ) → 8 ≤ length xs → 8 ≤ length ys → take 8 xs ≡ take 8 ys → from_eight xs ≡ from_eight ys
from_eight-front xs ys long long' same = sym (from_eight-take xs long) ∙ ap from_eight same ∙ from_eight-take ys long'

pub from_four-take : (xs : List ℕ) → 4 ≤ length xs → from_four (take 4 xs) ≡ from_four xs
from_four-take (a ∷ b ∷ c ∷ d ∷ xs) long = from_four-same a b c d [] xs
from_four-take [] long = absurd (omega arith)
from_four-take (a ∷ []) long = absurd (omega arith)
from_four-take (a ∷ b ∷ []) long = absurd (omega arith)
from_four-take (a ∷ b ∷ c ∷ []) long = absurd (omega arith)

pub from_four-front : (xs ys : List ℕ) → 4 ≤ length xs → 4 ≤ length ys → take 4 xs ≡ take 4 ys → from_four xs ≡ from_four ys
from_four-front xs ys long long' same = sym (from_four-take xs long) ∙ ap from_four same ∙ from_four-take ys long'
