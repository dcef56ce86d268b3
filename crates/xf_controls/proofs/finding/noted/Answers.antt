use Rattle.std.proofs.Common.{sym, ◌∙◌, subst}
use Rattle.std.proofs.lemmas.List.{with_items_is}
use Rattle.xf_def_ui.specs.Interface.{interface_of}
use Rattle.xf_controls.specs.Known.{AreNoted, IsNoted}
use Rattle.xf_controls.proofs.NotedLaws.{noted-length, noted-more}
use Rattle.xf_controls.proofs.finding.noted.Goals as goal

pub loop-copy-preserved : goal.loop-copy-preserved
loop-copy-preserved c =
    let f = interface_of c.args.form.now in
    let noted : IsNoted f c.copy-item.result c.loop-copy.known.items c.note.new.known = subst (λ ks. IsNoted f c.copy-item.result ks c.note.new.known) c.as_mut_slice.ensures.value c.in_ok-note.ensures in
    let items = with_items_is c.loop-copy.known c.note.new.known (noted-length f c.copy-item.result c.loop-copy.known.items c.note.new.known noted ∙ sym c.loop-copy.known.ok.0) in
    subst (AreNoted f c.args.copies.now) (sym items)
    (noted-more f c.args.copies.now c.loop-copy.copy-index c.copy-item.result c.loop-copy.known.items c.note.new.known c.loop-copy-test.true c.copy-item.is c.loop-copy.invariant noted)
