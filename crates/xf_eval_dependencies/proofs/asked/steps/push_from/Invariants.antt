use Rattle.std.proofs.Common.{◌≡◌, ◌++◌, take}
use Rattle.std.specs.Prelude.{filter}
use Rattle.std.specs.List.{flat_map}
use Rattle.xf_def_xpath.specs.AskedSteps.{kind_read, lists_of, read_if}
use Rattle.xf_eval_shape.specs.Spots.{numbers_at, shaped}
use Rattle.xf_eval_dependencies.specs.Asked.Tells.{is_list}
use Rattle.xf_eval_dependencies.proofs.asked.steps.push_from.Given as goal

abbrev pub invariant-loop-spot : goal.invariant-loop-spot
invariant-loop-spot l =
    let nodes = l.forest.forest.nodes in record {
      reads : l.reads ≡ l.initial.reads ++ flat_map (λ n. read_if l.tells_kinds (kind_read l.step.axis (shaped nodes) n)) (numbers_at (take l.spot-index l.from));
      looks : l.looks ≡ l.initial.looks ++ flat_map (λ n. filter (is_list nodes) (lists_of l.step.axis (shaped nodes) n)) (numbers_at (take l.spot-index l.from));
    }
