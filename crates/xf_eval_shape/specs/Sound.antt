-- What holds of every forest: its nodes are those of trees, and their numbers are not those of texts of its shape.
use Rattle.std.specs.Prelude.{ℕ, ◌≡◌, ◌^◌, true, nat_lt}
use Rattle.xf_def_forest.specs.Forest.{Forest}
use Rattle.xf_def_forest.specs.Visit.{has, visits}
use Rattle.xf_def_forest.specs.WellFormed.{HasTrees}
use Rattle.xf_def_xpath.specs.Agree.{numbers_of}

pub record Sound (forest : Forest) : Type 0 where
  pub trees : HasTrees forest
  pub below : (k : ℕ) → has k (numbers_of (visits forest.nodes)) ≡ true → nat_lt k (2 ^ 128) ≡ true
