use Rattle.std.proofs.Common.{◌≡◌, ℕ, ◌==◌, ◌&&◌, ◌||◌, map, take}
use Rattle.xf_def_forest.specs.declared.node.NodeId.{NodeId}
use Rattle.xf_def_forest.specs.Visit.{has}
use Rattle.xf_binds.specs.Readers.{readers_at}
use Rattle.xf_binds.proofs.readers.add_all.Given as goal

abbrev pub invariant-loop-node : goal.invariant-loop-node
invariant-loop-node l = (n other : ℕ) → has other (readers_at l.readers n)
    ≡ ((has n (map (λ (i : NodeId). i.number) (take l.node-index l.nodes)) && (l.place == other)) || has other (readers_at l.fn.readers n))
