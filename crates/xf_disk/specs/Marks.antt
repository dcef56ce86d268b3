-- Bytes with the marks of those that were written since the last sync, and what a crash may leave of them.
use Rattle.std.specs.Prelude.{◌≡◌, ◌≤◌, ℕ, ◌+◌, List, [], ◌∷◌, ◌++◌, Bool, true, false, length, take, drop, Option, unwrap_or, if◌then◌else◌}

-- a byte that was not written since the last sync is as it was
abbrev pub Stays : Bool → ℕ → ℕ → Type 0
Stays true byte left = Unit {0}
Stays false byte left = left ≡ byte

-- so is each byte of what is left
abbrev pub Agrees : List Bool → List ℕ → List ℕ → Type 0
Agrees written bytes [] = Unit {0}
Agrees [] bytes (left ∷ image) = ⊥
Agrees (w ∷ written) [] (left ∷ image) = ⊥
Agrees (w ∷ written) (byte ∷ bytes) (left ∷ image) = Stays w byte left × Agrees written bytes image

-- what a crash may leave of a slot: some length from the last sync's to the present one,
-- and the bytes that were not written in between
pub record MayHold (written : List Bool) (bytes : List ℕ) (len synced : ℕ) (image : List ℕ) : Type 0 where
  pub no_shorter : synced ≤ length image
  pub no_longer : length image ≤ len
  pub agrees : Agrees written bytes image

-- these bytes at this offset, in place of what stood there
abbrev pub spliced : {X : Type 0} → ℕ → List X → List X → List X
spliced at new old = take at old ++ new ++ drop (at + length new) old

-- a byte that was written takes the filling, if there is one
abbrev pub filling_of : Option ℕ → Bool → ℕ → ℕ
filling_of fill is_written byte = if is_written then unwrap_or fill byte else byte

abbrev pub filled : Option ℕ → List Bool → List ℕ → List ℕ
filled fill [] bytes = []
filled fill (w ∷ written) [] = []
filled fill (w ∷ written) (byte ∷ bytes) = filling_of fill w byte ∷ filled fill written bytes
