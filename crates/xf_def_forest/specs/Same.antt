-- Forests that are the same but for the numbers of their nodes. Definitions compare numbers and do nothing else with them, so that each
-- goes with a renumbering; shapes, which have numbers of their own for texts, go with one that keeps these. What says that numbers are
-- new or old goes with none: `without_from` and what it needs, and that all numbers are below the next one.
use Rattle.std.specs.Prelude.{ℕ, ◌≡◌, ◌==◌, map}
use Rattle.xf_def_forest.specs.declared.content.Node.{Node}
use Rattle.xf_def_forest.specs.Forest.{Forest}
use Rattle.xf_def_forest.specs.Visit.{Visit}
use Rattle.xf_def_forest.specs.Shape.{text_number}

-- equal numbers stay equal, and different ones different
abbrev pub IsRenumbering : (ℕ → ℕ) → Type 0
IsRenumbering f = (a b : ℕ) → (f a == f b) ≡ (a == b)

-- the number of the one text of an element goes with that of the element
abbrev pub KeepsTexts : (ℕ → ℕ) → Type 0
KeepsTexts f = (n : ℕ) → f (text_number n) ≡ text_number (f n)

abbrev pub renumbered : (ℕ → ℕ) → Node → Node
renumbered f x = record x { number = f x.number }

abbrev pub renumbered_visit : (ℕ → ℕ) → Visit → Visit
renumbered_visit f x = record { number = f x.number; above = map f x.above; content = x.content }

-- one renumbering makes the nodes of the first forest those of the second; the next numbers do not count
pub record IsSame (first second : Forest) : Type 0 where
  pub by : ℕ → ℕ
  pub renumbers : IsRenumbering by
  -- so that shapes go with it too
  pub texts : KeepsTexts by
  pub nodes : map (renumbered by) first.nodes ≡ second.nodes
