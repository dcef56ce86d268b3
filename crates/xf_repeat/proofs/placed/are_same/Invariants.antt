use Rattle.std.proofs.Common.{◌≡◌, length, map}
use Rattle.xf_def_ui.specs.Index.{same_indexes}
use Rattle.xf_eval_context.specs.Indexes.{seen_index}
use Rattle.xf_repeat.proofs.placed.are_same.Given as goal

abbrev pub invariant-loop-one : goal.invariant-loop-one
invariant-loop-one l = same_indexes (map seen_index l.left) (map seen_index l.others_left) ≡ same_indexes (map seen_index l.some) (map seen_index l.others)

abbrev pub decreases-loop-one : goal.decreases-loop-one
decreases-loop-one l = length l.left
