use Rattle.std.proofs.Common.{◌≡◌, map, take, sum_by}
use Rattle.xf_form.specs.Data.{extent_of}
use Rattle.xf_form.proofs.data.+nodes.Given as goal

abbrev pub invariant-nodes_of_all-loop-child : goal.invariant-nodes_of_all-loop-child
invariant-nodes_of_all-loop-child l = l.nodes ≡ sum_by (λ c. c.nodes) (map extent_of (take l.child-index l.children))
