use Rattle.std.proofs.Common.{◌≡◌, ◌++◌, drop}
use Rattle.xf_def_forest.specs.Forest.{is_element}
use Rattle.xf_def_forest.specs.Visit.{visits}
use Rattle.xf_insert.specs.Numbers.{numbers}
use Rattle.xf_insert.specs.Placing.{among}
use Rattle.xf_insert.proofs.placing.elements_among.Given as goal

abbrev pub invariant-loop-node : goal.invariant-loop-node
invariant-loop-node l =
    let all = visits l.forest.forest.nodes in
    l.all ++ among is_element all (numbers (drop l.node-index l.nodes)) ≡ among is_element all (numbers l.nodes)
