use Rattle.std.proofs.Common.{◌≡◌}
use Rattle.xf_def_forest.specs.Plant.{is_less, written_of}
use Rattle.xf_tree_contents.specs.Seen.{seen_content}
use Rattle.xf_tree_contents.proofs.WrittenLemmas.{less_from}
use Rattle.xf_tree_contents.proofs.written.written_less.Given as goal

abbrev pub invariant-loop-at : goal.invariant-loop-at
invariant-loop-at l = less_from l.at (written_of (seen_content l.first)) (written_of (seen_content l.second)) ≡ is_less (written_of (seen_content l.first)) (written_of (seen_content l.second))
