use Rattle.std.proofs.Common.{[], length, ap, arith}
use Rattle.xf_journal.specs.declared.image.Image.{Image}
use Rattle.xf_session.proofs.Offsets.{answers-size}
use Rattle.xf_session.proofs.starting.first_journal.Goals as goal

pub create-requires-clause-room : goal.create-requires-clause-room
create-requires-clause-room g c =
    let sizes = answers-size [] c.in_ok-answers.answers c.in_ok-answers.ensures.within in
    let form = ap (λ (i : Image). length i.form) c.in_ok-image.ensures in
    let base = ap (λ (i : Image). length i.base) c.in_ok-image.ensures in
    let small = c.requires.small in
    omega (arith, sizes.2, form, base, small)
