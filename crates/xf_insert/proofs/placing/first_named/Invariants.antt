use Rattle.std.proofs.Common.{◌≡◌, drop}
use Rattle.xf_def_forest.specs.Visit.{visits}
use Rattle.xf_insert.specs.Numbers.{numbers}
use Rattle.xf_insert.specs.Placing.{first_named}
use Rattle.xf_insert.proofs.placing.first_named.Given as goal

abbrev pub invariant-loop-other : goal.invariant-loop-other
invariant-loop-other l =
    let all = visits l.forest.forest.nodes in
    first_named all l.node.number (numbers (drop l.other-index l.nodes)) ≡ first_named all l.node.number (numbers l.nodes)
