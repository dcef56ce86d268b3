use Rattle.std.proofs.Common.{arith}
use Rattle.xf_snap.proofs.SnapLemmas.{is_found, is_only}
use Rattle.xf_snap.proofs.reading.decode.Goals as goal

pub returns-clause-found : goal.returns-clause-found
returns-clause-found c = is_found c.args.bytes.now c.snap_in.result (λ i. omega (arith, c.type_inv.bytes i)) c.snap_in.ensures

pub returns-clause-only : goal.returns-clause-only
returns-clause-only c = λ s within typed same. is_only c.args.bytes.now c.snap_in.result c.snap_in.ensures s within typed same
