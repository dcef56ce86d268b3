use Rattle.std.proofs.Common.{◌≡◌, ◌++◌, take}
use Rattle.std.specs.List.{flat_map}
use Rattle.xf_eval_shape.specs.Spots.{AreSpots, numbers_at, shaped}
use Rattle.xf_eval_dependencies.specs.Asked.Beside.{text_of}
use Rattle.xf_eval_dependencies.proofs.asked.steps.with_texts.Given as goal

abbrev pub invariant-loop-spot : goal.invariant-loop-spot
invariant-loop-spot l =
    let nodes = l.forest.forest.nodes in record {
      so_far : numbers_at l.all.items ≡ numbers_at l.initial.all.items ++ flat_map (text_of (shaped nodes)) (numbers_at (take l.spot-index l.from));
      spots : AreSpots nodes l.all.items;
    }
