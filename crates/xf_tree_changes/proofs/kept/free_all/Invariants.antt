use Rattle.std.proofs.Common.{◌≤◌, ℕ, map, take}
use Rattle.slab.specs.Slab.{get}
use Rattle.xf_def_forest.specs.Limits.{size_of}
use Rattle.xf_tree_contents.specs.Keys.{kept_of, content_in, KeepsButKept}
use Rattle.xf_tree_changes.specs.Texts.{places_of}
use Rattle.xf_tree_changes.proofs.kept.free_all.Given as goal

abbrev pub invariant-loop-text : goal.invariant-loop-text
invariant-loop-text l = record {
  rest : KeepsButKept l.fn.slots l.slots (map (kept_of l.fn.slots) (places_of (take l.text-index l.texts)));
  less : (key : ℕ) → size_of (content_in (get l.slots key)) ≤ size_of (content_in (get l.fn.slots key));
}
