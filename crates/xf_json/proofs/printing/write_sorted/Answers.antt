use Rattle.xf_json.proofs.Sorted.{inserted}
use Rattle.xf_json.proofs.printing.write_sorted.Goals as goal

pub loop-pair-preserved : goal.loop-pair-preserved
loop-pair-preserved c =
    inserted c.loop-pair.sorted.entries c.insert.new.self.entries c.args.attributes.now c.loop-pair.pair-index c.pair-item.result c.as_str.result c.as_str-in-loop-pair.result c.loop-pair-test.true c.pair-item.is c.as_str.ensures
    c.as_str-in-loop-pair.ensures c.loop-pair.invariant c.in_ok-insert.ensures.entries
