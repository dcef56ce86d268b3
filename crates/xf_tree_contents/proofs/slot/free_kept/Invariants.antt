use Rattle.std.proofs.Common.{◌≤◌, ℕ, map, take}
use Rattle.slab.specs.Slab.{get}
use Rattle.xf_def_forest.specs.Limits.{size_of}
use Rattle.xf_tree_contents.specs.Keys.{kept_of, content_in, KeepsButKept}
use Rattle.xf_tree_contents.proofs.slot.free_kept.Given as goal

abbrev pub invariant-loop-key : goal.invariant-loop-key
invariant-loop-key l = record {
  rest : KeepsButKept l.fn.slots l.slots (map (kept_of l.fn.slots) (take l.key-index l.keys));
  less : (key : ℕ) → size_of (content_in (get l.slots key)) ≤ size_of (content_in (get l.fn.slots key));
}
