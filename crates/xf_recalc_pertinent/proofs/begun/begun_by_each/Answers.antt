use Rattle.std.proofs.Common.{◌≡◌, map, length, arith}
use Rattle.xf_def_model.specs.Rules.{rule_of}
use Rattle.xf_binds.specs.Table.{kept_at}
use Rattle.xf_recalc_pertinent.proofs.Begins.{begun-all, begun-next}
use Rattle.xf_recalc_pertinent.proofs.begun.begun_by_each.Goals as goal

pub loop-place-preserved : goal.loop-place-preserved
loop-place-preserved c =
    begun-next (map rule_of c.args.tables.now.binds) (kept_at c.args.table.now c.args.model) c.loop-place.marks c.push.new.self c.loop-place.place c.is_begun-is_begun.result
    c.loop-place.invariant c.is_begun-is_begun.ensures c.in_ok-push.ensures.ok

pub returns : goal.returns
returns c =
    let k = kept_at c.args.table.now c.args.model in
    let whole : c.loop-place.place ≡ length k.entries = omega (arith, c.loop-place.auto.place-end, c.loop-place-test.false, c.len-place-end.ensures) in
    begun-all (map rule_of c.args.tables.now.binds) k c.loop-place.marks c.loop-place.place c.loop-place.invariant whole
