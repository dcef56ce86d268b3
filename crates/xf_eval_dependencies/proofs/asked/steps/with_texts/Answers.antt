use Rattle.std.proofs.Common.{refl}
use Rattle.xf_eval_shape.specs.Spots.{shaped}
use Rattle.xf_eval_dependencies.specs.Asked.Beside.{text_of}
use Rattle.xf_eval_dependencies.proofs.AskedLemmas.Tellings.{onward}
use Rattle.xf_eval_dependencies.proofs.asked.steps.with_texts.Goals as goal

pub loop-spot-preserved : goal.loop-spot-preserved
loop-spot-preserved c =
    let nodes = c.args.forest.now.forest.nodes in record {
      so_far = onward (text_of (shaped nodes)) c.args.from.now c.loop-spot.spot-index _ _ _ _ _ c.loop-spot.invariant.so_far c.loop-spot-test.true c.in_ok-push_text.ensures.value refl;
      spots = c.in_ok-push_text.ensures.spots c.loop-spot.invariant.spots;
    }
