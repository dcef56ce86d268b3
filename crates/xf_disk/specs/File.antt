-- What is known of a disk over two files.
use Rattle.std.specs.Prelude.{ℕ, List}

-- the paths of the files, and how often a call has failed
pub record TwoFiles : Type 0 where
  pub a : List ℕ
  pub b : List ℕ
  pub faults : ℕ
