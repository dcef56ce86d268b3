use Rattle.std.proofs.Common.{◌≤◌, ◌^◌, ◌*◌, ap, length, subst, sym, ◌∙◌}
use Rattle.xf_snap.specs.Reading.{snap_in}
use Rattle.xf_snap.proofs.SizeLemmas.{bytes_few}
use Rattle.xf_snap.proofs.SnapLemmas.{snap_again}
use Rattle.xf_snap.proofs.writing.encode.Goals as goal

pub returns-clause-again : goal.returns-clause-again
returns-clause-again c = ap snap_in c.in_ok-bytes.ensures.bytes ∙ snap_again c.args.snap.now c.requires c.in_ok-bytes.ensures.typed

pub returns-clause-most : goal.returns-clause-most
returns-clause-most c = subst (λ bytes. length bytes ≤ 12 * 2 ^ 20) (sym c.in_ok-bytes.ensures.bytes) (bytes_few c.args.snap.now c.requires)
