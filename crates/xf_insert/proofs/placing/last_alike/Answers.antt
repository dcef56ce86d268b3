use Rattle.std.proofs.Common.{◌≡◌, sym, ◌∙◌, arith}
use Rattle.xf_def_forest.specs.Visit.{visits}
use Rattle.xf_insert.proofs.LoopLaws.{alike-before, alike-end, alike-found}
use Rattle.xf_insert.proofs.placing.last_alike.Goals as goal

pub returns-then-is_alike : goal.returns-then-is_alike
returns-then-is_alike c =
    alike-found (visits c.args.forest.now.forest.nodes) c.args.node.number c.args.places.now c.loop-at.at _ c.loop-at-test.true c.loop-at.invariant.within
    (sym c.is_alike.ensures ∙ c.if-is_alike.true) c.loop-at.invariant.none

pub loop-at-preserved : goal.loop-at-preserved
loop-at-preserved c = record {
  within = omega (arith, c.loop-at-test.true, c.loop-at.invariant.within);
  none =
      alike-before (visits c.args.forest.now.forest.nodes) c.args.node.number c.args.places.now c.loop-at.at _ c.loop-at-test.true c.loop-at.invariant.within
      (sym c.is_alike.ensures ∙ c.if-is_alike.false) c.loop-at.invariant.none;
}

pub returns : goal.returns
returns c =
    let first : c.loop-at.at ≡ 0 = omega (arith, c.loop-at-test.false) in
    alike-end (visits c.args.forest.now.forest.nodes) c.args.node.number c.args.places.now c.loop-at.at first c.loop-at.invariant.none
