use Rattle.std.proofs.Common.{◌∙◌, ap, sym, map}
use Rattle.xf_form_refusals.specs.Decimals.{decimals_of}
use Rattle.xf_form_refusals.specs.Refusals.{first_model, refusal_at}
use Rattle.xf_form_refusals.specs.Rows.{shown}
use Rattle.xf_form_refusals.proofs.RefusalLemmas.{first_more}
use Rattle.xf_form_refusals.proofs.refusals.first_refusal.Goals as goal

pub loop-place-preserved : goal.loop-place-preserved
loop-place-preserved c =
    let all = map shown c.args.rows.now in
    let b = c.args.prefixes.now in
    let d = decimals_of b all in
    let place = c.loop-place.place in
    let r = c.index-rows-place.result in
    c.loop-place.invariant
    ∙ first_more d b all (first_model all) c.args.rows.now place r c.loop-place-test.true c.index-rows-place.is
    (sym (ap (λ m. refusal_at d b all m place (shown r)) c.first_model.ensures) ∙ sym (ap (λ n. refusal_at n b all c.first_model.result place (shown r)) c.in_ok-decimals.ensures) ∙ sym c.in_ok-number.ensures ∙ c.in_default.is)
