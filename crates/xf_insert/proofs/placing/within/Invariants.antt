use Rattle.std.proofs.Common.{◌≡◌, [], ◌++◌, drop, map}
use Rattle.xf_def_forest.specs.Visit.{visits}
use Rattle.xf_def_model.specs.Places as model
use Rattle.xf_actions.specs.Seen.{place_of}
use Rattle.xf_insert.specs.Numbers.{numbers}
use Rattle.xf_insert.proofs.placing.within.Given as goal

abbrev pub invariant-loop-node : goal.invariant-loop-node
invariant-loop-node l =
    let all = visits l.forest.forest.nodes in
    map place_of l.all ++ model.within all l.parent.number l.next (map place_of l.all) (numbers (drop l.node-index l.nodes))
    ≡ model.within all l.parent.number l.before [] (numbers l.nodes)
