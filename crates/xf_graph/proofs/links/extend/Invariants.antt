use Rattle.std.proofs.Common.{◌≡◌, ◌-◌, ◌<◌, ◌≤◌, vec_len}
use Rattle.xf_graph.proofs.ExtendState.{ExtendedSoFar}
use Rattle.xf_graph.proofs.links.extend.Given as goal

abbrev pub invariant-loop-alloc : goal.invariant-loop-alloc
invariant-loop-alloc l = record {
  so_far : ExtendedSoFar l.initial.sets.items l.sets.items;
  count : l.count ≡ vec_len l.initial.sets;
  size : (vec_len l.initial.sets < vec_len l.sets) → vec_len l.sets ≤ l.size;
}

abbrev pub decreases-loop-alloc : goal.decreases-loop-alloc
decreases-loop-alloc l = l.size - vec_len l.sets
