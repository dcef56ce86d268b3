use Rattle.std.proofs.Common.{◌∙◌, sym, map}
use Rattle.xf_form_refusals.specs.Rows.{shown}
use Rattle.xf_form_explain.proofs.DetailLemmas.{detail_more}
use Rattle.xf_form_explain.proofs.elements.first_detail.Goals as goal

pub loop-place-preserved : goal.loop-place-preserved
loop-place-preserved c =
    let s = c.args.search.now in
    let r = c.index-rows-place.result in
    c.loop-place.invariant
    ∙ detail_more s.number s.decimals s.prefixes.now (map shown s.rows.now) s.first_model s.rows.now c.loop-place.place r c.loop-place-test.true c.index-rows-place.is (sym c.in_ok-detail.ensures ∙ c.in_default.is)
