use Rattle.std.proofs.Common.{◌≡◌, map, drop}
use Rattle.xf_def_xpath.specs.Setting.{each}
use Rattle.xf_eval.specs.Sides.{plain_on}
use Rattle.xf_eval.proofs.Lists.{onto}
use Rattle.xf_eval.proofs.Made.{plain_made}
use Rattle.xf_eval.proofs.compare.sides_of.Given as goal

abbrev pub invariant-loop-node : goal.invariant-loop-node
invariant-loop-node l =
    let made = plain_made l.forest.forest.nodes in
    onto (map plain_on l.sides.items) (each made (map (λ n. n.number) (drop l.node-index l.node-items))) ≡ each made (map (λ n. n.number) l.node-items)
