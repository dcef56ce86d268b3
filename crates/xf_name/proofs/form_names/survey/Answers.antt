use Rattle.std.proofs.Common.{◌∙◌, ap, map, sym}
use Rattle.xf_name.specs.Shown.{shown_by}
use Rattle.xf_name.specs.FirstShown.{first_shown}
use Rattle.xf_name.proofs.SurveyLemmas.{collected_all, survey_failed, survey_done}
use Rattle.xf_name.proofs.form_names.survey.Goals as goal

pub returns-in-Err : goal.returns-in-Err
returns-in-Err c =
    let all = ap (map shown_by) c.deref.ensures.value ∙ collected_all c.new-elements.result.items c.push_elements.new.elements.items c.args.form.now c.new-elements.ensures.items c.in_ok-push_elements.ensures in
    survey_failed c.in-Err.fault (map shown_by c.deref.result.now) c.args.form.now all c.in-Err.ensures

pub returns : goal.returns
returns c =
    let all = ap (map shown_by) c.deref.ensures.value ∙ collected_all c.new-elements.result.items c.push_elements.new.elements.items c.args.form.now c.new-elements.ensures.items c.in_ok-push_elements.ensures in
    let first = c.in_ok-fault.ensures ∙ ap (λ es. first_shown c.in-Ok.prefixes 0 (map shown_by es)) (c.deref-2.ensures.value ∙ sym c.deref.ensures.value) in
    survey_done c.in-Ok.prefixes c.in_ok-fault.fault (map shown_by c.deref.result.now) c.args.form.now all c.in-Ok.ensures.0 c.in-Ok.ensures.1 first
