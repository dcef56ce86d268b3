use Rattle.xf_events.proofs.OriginLaws.{origin-end, origin-next}
use Rattle.xf_events.proofs.changed.origins_of.Goals as goal

pub loop-place-preserved : goal.loop-place-preserved
loop-place-preserved c = origin-next c.args.places.now c.loop-place.place-index _ c.loop-place.origins c.push.new.self _ c.loop-place-test.true c.in_ok-push.ensures.ok c.loop-place.invariant

pub returns : goal.returns
returns c = origin-end c.args.places.now c.loop-place.place-index c.loop-place.origins _ c.loop-place-test.false c.loop-place.invariant
