use Rattle.std.proofs.Common.{◌++◌, codes, ap, sym, ◌∙◌}
use Rattle.std.specs.Prelude.{string_bytes}
use Rattle.xf_def_machine.specs.StateText.{line_of}
use Rattle.xf_report.specs.Refusals.{construct_text, details}
use Rattle.xf_report.proofs.AnswerLaws.{then-ok}
use Rattle.xf_report.proofs.refusal.push_construct_refusal.Goals as goal

pub returns-in-Circular : goal.returns-in-Circular
returns-in-Circular c =
    let old = string_bytes c.args.text.now in
    then-ok c.push_named-in-Circular.result (λ e. e ∙ ap (λ r. old ++ line_of (codes "form F15 Circular" ++ details r)) c.in-Circular.is ∙ sym (ap (λ r. old ++ construct_text r) c.in-Circular.is)) c.push_named-in-Circular.ensures

pub returns-in-CalculateOnParent : goal.returns-in-CalculateOnParent
returns-in-CalculateOnParent c =
    let old = string_bytes c.args.text.now in
    then-ok c.push_named-in-CalculateOnParent.result (λ e. e ∙ ap (λ r. old ++ line_of (codes "form F16 CalculateOnParent" ++ details r)) c.in-CalculateOnParent.is ∙ sym (ap (λ r. old ++ construct_text r) c.in-CalculateOnParent.is)) c.push_named-in-CalculateOnParent.ensures

pub returns-in-Limit : goal.returns-in-Limit
returns-in-Limit c =
    let old = string_bytes c.args.text.now in
    then-ok c.push_named-in-Limit.result (λ e. e ∙ ap (λ r. old ++ line_of (codes "form F17 Limit" ++ details r)) c.in-Limit.is ∙ sym (ap (λ r. old ++ construct_text r) c.in-Limit.is)) c.push_named-in-Limit.ensures
