-- Detached trees stay such through each change but the one that takes them: a top that stands stays a top, what is cut off is one, and so is a copy.
use Rattle.std.specs.Prelude.{ℕ, ◌≡◌, ◌==◌, true, false, Ok}
use Rattle.xf_def_forest.specs.Changes.{attached, copied, detached}
use Rattle.xf_def_forest.specs.Forest.{Forest, has_number}
use Rattle.xf_def_forest.specs.Limits.{Limits}
use Rattle.xf_def_forest.specs.Needs.{is_top}

abbrev pub TopsDetached : Type 0
TopsDetached = (n m : ℕ) (forest : Forest) → is_top m forest.nodes ≡ true → is_top m (detached n forest).nodes ≡ true

-- what is cut off is a top
abbrev pub CutIsTop : Type 0
CutIsTop = (n : ℕ) (forest : Forest) → has_number n forest.nodes ≡ true → is_top n (detached n forest).nodes ≡ true

abbrev pub TopsCopied : Type 0
TopsCopied = (l : Limits) (n c m : ℕ) (forest after : Forest) → copied l n forest ≡ Ok (c, after) → is_top m forest.nodes ≡ true → is_top m after.nodes ≡ true

-- so is the copy of what stands
abbrev pub CopyIsTop : Type 0
CopyIsTop = (l : Limits) (n c : ℕ) (forest after : Forest) → copied l n forest ≡ Ok (c, after) → has_number n forest.nodes ≡ true → is_top c after.nodes ≡ true

-- another tree that comes below a node leaves it
abbrev pub TopsAttached : Type 0
TopsAttached = (l : Limits) (n parent place m : ℕ) (forest after : Forest) → attached l n parent place forest ≡ Ok after → (m == n) ≡ false → is_top m forest.nodes ≡ true → is_top m after.nodes ≡ true

pub record TopLaws : Type 0 where
  pub detached : TopsDetached
  pub cut : CutIsTop
  pub copied : TopsCopied
  pub copy : CopyIsTop
  pub attached : TopsAttached
