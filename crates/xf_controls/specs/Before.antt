-- Where the copies of a list stand by the innermost rows of their chains (XForms 1.1, section 9.3.1).
use Rattle.std.specs.Prelude.{ℕ, zero, suc, ◌-◌, ◌≡◌, ◌==◌, nat_eq, Bool, true, false, List, [], ◌∷◌, length, Option, Some, None, option_map, slice_get, if◌then◌else◌}
use Rattle.indexmap.specs.IndexMap.{IndexMap, get}
use Rattle.xf_controls.specs.declared.before.Before.{Before}
use Rattle.xf_controls.specs.declared.copy.ControlCopy.{ControlCopy}
use Rattle.xf_controls.specs.Rising.{is_rising}

-- the last row of a chain
abbrev pub innermost : List ℕ → Option ℕ
innermost rows = slice_get rows (length rows - 1)

abbrev pub is_row : ℕ → Option ℕ → Bool
is_row n None = false
is_row n (Some m) = m == n

-- the copy stands in the row, and in none further in
abbrev pub in_row : ℕ → ControlCopy → Bool
in_row n c = is_row n (innermost c.rows)

-- the first place of a copy in a row
abbrev pub first_in : ℕ → List ControlCopy → Option ℕ
first_in n [] = None
first_in n (c ∷ cs) = if in_row n c then Some zero else option_map suc (first_in n cs)

-- a copy in no row may stand anywhere
abbrev pub first_by : Option ℕ → List ControlCopy → Option ℕ
first_by None cs = Some zero
first_by (Some n) cs = first_in n cs

abbrev pub first_from : ControlCopy → List ControlCopy → Option ℕ
first_from c cs = first_by (innermost c.rows) cs

-- ---- in a map

-- what was found, else the place where it holds
abbrev pub first_or : Option ℕ → Bool → ℕ → Option ℕ
first_or (Some old) holds place = Some old
first_or None true place = Some place
first_or None false place = None

abbrev pub AreFirst : {S : Type 0} → IndexMap ℕ ℕ S → List ControlCopy → Type 0
AreFirst places cs = (n : ℕ) → get nat_eq places n ≡ first_in n cs

pub record Knows (b : Before) : Type 0 where
  pub rising : b.rising ≡ is_rising b.copies.now
  pub places : AreFirst b.places b.copies.now
