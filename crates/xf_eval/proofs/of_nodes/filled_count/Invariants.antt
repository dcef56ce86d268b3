use Rattle.std.proofs.Common.{◌≡◌, ◌≤◌, map, drop}
use Rattle.xf_def_xpath.specs.Setting.{each}
use Rattle.xf_eval.proofs.Lists.{counted}
use Rattle.xf_eval.proofs.Made.{text_made}
use Rattle.xf_eval.proofs.of_nodes.filled_count.Given as goal

abbrev pub invariant-loop-node : goal.invariant-loop-node
invariant-loop-node l =
    let made = text_made l.forest.forest.nodes in record {
      so_far : counted l.count (each made (map (λ n. n.number) (drop l.node-index l.node-items))) ≡ counted 0 (each made (map (λ n. n.number) l.node-items));
      small : l.count ≤ l.node-index;
    }
