use Rattle.std.proofs.Common.{◌≡◌, ◌≤◌, ◌++◌, true, None, map, drop, length, option_map}
use Rattle.std.specs.List.{list_all}
use Rattle.xf_def_xpath.specs.Binding.{as_list}
use Rattle.xf_eval_shape.specs.Spots.{AreSpots, numbers_at}
use Rattle.xf_eval_shape.specs.Woven.{is_attribute_of, is_owner, woven}
use Rattle.xf_eval_shape.proofs.order.weave.Given as goal

abbrev pub invariant-loop-node : goal.invariant-loop-node
invariant-loop-node l =
    let own = is_attribute_of l.forest.forest.nodes in record {
      left : numbers_at l.found.items ++ woven own (option_map (λ n. n.number) l.waiting) (map (λ n. n.number) (drop l.node-index l.node-items)) (map (λ n. n.number) (drop l.node_at l.nodes)) (map (λ n. n.number) (drop l.owner_at l.owners))
          ≡ woven own None (map (λ n. n.number) l.node-items) (map (λ n. n.number) l.nodes) (map (λ n. n.number) l.owners);
      spots : AreSpots l.forest.forest.nodes l.found.items;
      waits : list_all (is_owner l.forest.forest.nodes) (as_list (option_map (λ n. n.number) l.waiting)) ≡ true;
      nodes : l.node_at ≤ length l.nodes;
      owners : l.owner_at ≤ length l.owners;
    }
