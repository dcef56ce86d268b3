-- Two forests of which the nodes are the same one by one, but for their numbers: one renumbering makes the nodes of the first those of the second, and
-- goes on through the numbers that both give next.
use Rattle.std.specs.Prelude.{ℕ, ◌≡◌, ◌≤◌, ◌<◌, ◌+◌, ◌^◌, map}
use Rattle.xf_def_forest.specs.Forest.{Forest}
use Rattle.xf_def_forest.specs.Same.{IsRenumbering, KeepsTexts, renumbered}
use Rattle.xf_def_forest.specs.WellFormed.{HasTrees}
use Rattle.xf_law_sessions.specs.Step.Fixed.{without_number}

-- so many new nodes have numbers below those that texts have in shapes
abbrev pub HasRoomFor : ℕ → Forest → Type 0
HasRoomFor made forest = forest.next + made < 2 ^ 128

pub record Renumbers (made : ℕ) (one two : Forest) : Type 0 where
  pub by : ℕ → ℕ
  pub renumbers : IsRenumbering by
  pub keeps_texts : KeepsTexts by
  pub nodes : map (renumbered by) one.nodes ≡ two.nodes
  pub continues : (k : ℕ) → k ≤ made → by (one.next + k) ≡ two.next + k

abbrev pub ContentsRenumber : Type 0
ContentsRenumber = (made : ℕ) (one two : Forest) → HasTrees one → HasTrees two → HasRoomFor made one → HasRoomFor made two
    → map without_number one.nodes ≡ map without_number two.nodes → Renumbers made one two
