use Rattle.std.proofs.Common.{◌∙◌, ap, map}
use Rattle.xf_form_vocabulary.specs.Rules.{wanted_of}
use Rattle.xf_form_refusals.specs.Rows.{shown, is_handler}
use Rattle.xf_form_refusals.proofs.RefusalLemmas.{missing_by}
use Rattle.xf_form_refusals.proofs.refusals.names_nothing_by.Goals as goal

pub returns-in-Some : goal.returns-in-Some
returns-in-Some c =
    let all = map shown c.args.rows.now in
    let r = c.args.row.now in
    missing_by all c.in-Some.wanted (wanted_of r.tag (is_handler (shown r)) c.args.one.code) c.args.one.text.now c.class_of.result c.called.result
    (c.in-Some.ensures ∙ ap (λ x. wanted_of r.tag x c.args.one.code) c.is_handler-handles.ensures) c.class_of.ensures (c.called.ensures all c.requires)
