use Rattle.std.proofs.Common.{arith}
use Rattle.xf_disk.proofs.CellsLemmas.{agrees_one}
use Rattle.xf_disk.proofs.cells.agrees.Goals as goal

pub loop-i-preserved : goal.loop-i-preserved
loop-i-preserved c =
    let one = agrees_one c.loop-i.i c.args.written.now c.args.bytes.now c.args.image.now (omega arith) (omega arith) (omega arith) in
    let stays = c.stays.ensures.0 c.if-not-stays.false in
    (λ rest. c.loop-i.invariant.0 (one.1 (stays, rest)), λ all. (one.0 (c.loop-i.invariant.1 all)).1)
