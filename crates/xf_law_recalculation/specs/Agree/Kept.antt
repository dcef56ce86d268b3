-- Forests without the texts that are not known to be the same in both.
use Rattle.std.specs.Prelude.{ℕ, Bool, true, not, ◌||◌, List, [], ◌∷◌, filter}
use Rattle.xf_def_forest.specs.Forest.{is_text}
use Rattle.xf_def_forest.specs.Visit.{Visit}

-- whether the texts in the node above are known
abbrev pub is_known : (ℕ → Bool) → List ℕ → Bool
is_known known [] = true
is_known known (p ∷ ps) = known p

abbrev pub keeps : (ℕ → Bool) → Visit → Bool
keeps known y = not (is_text y.content) || is_known known y.above

-- without the texts that are not known
abbrev pub kept : (ℕ → Bool) → List Visit → List Visit
kept known all = filter (keeps known) all
