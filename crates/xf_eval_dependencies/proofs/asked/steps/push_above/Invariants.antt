use Rattle.std.proofs.Common.{◌≡◌, ◌++◌, take}
use Rattle.std.specs.Prelude.{filter}
use Rattle.std.specs.List.{flat_map}
use Rattle.xf_def_xpath.specs.Asked.{lists_below, read_for}
use Rattle.xf_def_xpath.specs.AskedSteps.{read_if}
use Rattle.xf_eval_shape.specs.Spots.{numbers_at, shaped}
use Rattle.xf_eval_dependencies.specs.Asked.Tells.{is_list}
use Rattle.xf_eval_dependencies.proofs.asked.steps.push_above.Given as goal

abbrev pub invariant-loop-spot : goal.invariant-loop-spot
invariant-loop-spot l =
    let nodes = l.forest.forest.nodes in record {
      reads : l.reads ≡ l.initial.reads ++ flat_map (λ n. read_if l.is_pair (read_for (shaped nodes) n)) (numbers_at (take l.spot-index l.set));
      looks : l.looks ≡ l.initial.looks ++ flat_map (λ n. filter (is_list nodes) (lists_below (shaped nodes) n)) (numbers_at (take l.spot-index l.set));
    }
