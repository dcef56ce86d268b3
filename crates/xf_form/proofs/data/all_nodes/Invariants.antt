use Rattle.std.proofs.Common.{◌≡◌, take, sum_by}
use Rattle.xf_form.specs.Data.{extent_in}
use Rattle.xf_form.proofs.data.all_nodes.Given as goal

abbrev pub invariant-loop-instance : goal.invariant-loop-instance
invariant-loop-instance l = l.nodes ≡ sum_by (λ i. (extent_in l.form i).nodes) (take l.instance-index l.instances)
