use Rattle.std.proofs.Common.{◌≡◌, ℕ, ◌≤◌, ◌<◌, ◌-◌, length}
use Rattle.std.specs.Ordering.{nat_cmp}
use Rattle.std.specs.Cmp.Lexicographic.{slice_cmp}
use Rattle.std.specs.declared.cmp.Ordering.TheVariants.{Less, Greater}
use Rattle.xf_table.specs.Rows.{entries_of}
use Rattle.xf_table.specs.Places.{name_at}
use Rattle.xf_table.proofs.look_up.find.Given as goal

abbrev pub invariant-loop-low : goal.invariant-loop-low
invariant-loop-low l = record {
  ordered : l.low ≤ l.high;
  within : l.high ≤ length l.rows;
  below : (k : ℕ) → k < l.low → slice_cmp nat_cmp (name_at (entries_of l.rows) k) l.name ≡ Less;
  above : (k : ℕ) → l.high ≤ k → k < length l.rows → slice_cmp nat_cmp (name_at (entries_of l.rows) k) l.name ≡ Greater;
}

abbrev pub decreases-loop-low : goal.decreases-loop-low
decreases-loop-low l = l.high - l.low
