use Rattle.xf_def_xpath.specs.Meaning.{meaning}
use Rattle.xf_eval_shape.specs.Over.{shape_at}
use Rattle.xf_eval_shape.proofs.Rounds.{all-at, kept-are, kept-left, spots-append}
use Rattle.std.proofs.Common.{subst, sym, ◌<◌, length}
use Rattle.std.proofs.lemmas.Result.{IfOk-weaker}
use Rattle.xf_eval_shape.specs.Spots.{AreSpots, is_spot}
use Rattle.xf_eval_shape.proofs.predicates.kept_by.Goals as goal

pub loop-at-preserved : goal.loop-at-preserved
loop-at-preserved g c =
    let nodes = c.args.forest.now.forest.nodes in
    let inside : c.loop-at.at < length c.args.spots.now = subst (λ k. c.loop-at.at < k) c.loop-at.invariant.all c.loop-at-test.true in record {
      all = c.loop-at.invariant.all;
      spots = subst (AreSpots nodes) (sym c.in_ok-push_if.ensures) (spots-append nodes c.loop-at.left.items _ c.loop-at.invariant.spots (kept-are nodes c.in_ok-truth.truth _ (all-at (is_spot nodes) c.args.spots.now c.loop-at.at _ c.requires.spots inside)));
      left = kept-left (shape_at (g.A.Around.given c.args.around.now) nodes c.args.context.now) (meaning c.args.predicate.now) c.args.spots.now c.loop-at.at c.in-Ok.size _ c.in_ok-truth.truth c.loop-at.left.items c.push_if.new.spots.items _ c.loop-at.invariant.all c.loop-at.invariant.left c.loop-at-test.true c.in_ok-truth.ensures c.in_ok-push_if.ensures;
    }

pub returns-in-Number-clause-spots : goal.returns-in-Number-clause-spots
returns-in-Number-clause-spots g c = IfOk-weaker c.placed.result _ _ (λ left h. h c.args.forest.now.forest.nodes c.requires.spots) c.placed.ensures.spots
