use Rattle.std.proofs.Common.{◌<◌, get_or, take, sym, subst}
use Rattle.xf_def_forest.specs.Visit.{has}
use Rattle.xf_binds.specs.Table.{kept_at}
use Rattle.xf_recalc_pertinent.proofs.Lists.{has-next, there-has}
use Rattle.xf_recalc_pertinent.proofs.Spreads.{reaches-more}
use Rattle.xf_recalc_pertinent.proofs.spreading.reach_all.Goals as goal

pub reach-requires : goal.reach-requires
reach-requires c =
    subst (λ k. get_or c.args.places.now c.loop-place.place-index 0 < k) (sym c.loop-place.invariant.size)
    (c.requires (get_or c.args.places.now c.loop-place.place-index 0) (there-has c.args.places.now c.loop-place.place-index 0 c.loop-place-test.true))

pub loop-place-preserved : goal.loop-place-preserved
loop-place-preserved c =
    let k = kept_at c.args.table.now c.args.model in
    let at = c.loop-place.place-index in
    reaches-more k.entries k.asks c.args.marks.now c.loop-place.marks c.reach.new.marks c.args.heard.now c.loop-place.heard c.reach.new.heard
    (λ place. has place (take at c.args.places.now)) _ _ c.loop-place.invariant c.in_ok-reach.ensures
    (λ place. has-next place c.args.places.now at 0 c.loop-place-test.true)
