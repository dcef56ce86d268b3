use Rattle.std.proofs.Common.{◌≡◌, false, length, refl, sym, ap, ◌∙◌}
use Rattle.std.specs.Prelude.{replicate}
use Rattle.xf_binds.specs.Table.{kept_at}
use Rattle.xf_recalc_pertinent.proofs.Calculated.{begun-texts, calculated-start}
use Rattle.xf_recalc_pertinent.proofs.begun.begun_by_texts.Goals as goal

pub returns-in-Some : goal.returns-in-Some
returns-in-Some c = λ rules.
    let k = kept_at c.args.table.now c.args.model in
    begun-texts rules k c.requires.settled c.requires.lists _ c.in_ok-marks.marks c.mark_calculates.new.marks
    (c.as_slice.ensures ∙ c.in-Some.ensures) (c.in_ok-marks.ensures ∙ ap (λ n. replicate n false) c.len.ensures) c.mark_calculates.ensures

pub returns-in-None : goal.returns-in-None
returns-in-None c = λ rules.
    let k = kept_at c.args.table.now c.args.model in
    begun-texts rules k c.requires.settled c.requires.lists _ c.in_ok-marks.marks c.in_ok-marks.marks
    c.in-None.ensures (c.in_ok-marks.ensures ∙ ap (λ n. replicate n false) c.len.ensures) (calculated-start k.entries c.in_ok-marks.marks)
