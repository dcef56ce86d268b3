use Rattle.std.proofs.Common.{◌∙◌, sym}
use Rattle.xf_form.proofs.PlaceLemmas.{start_ok, start_err}
use Rattle.xf_form.proofs.controls.start_of.Goals as goal

pub returns-in-Ok : goal.returns-in-Ok
returns-in-Ok c = start_ok c.args.text.now c.parse.result c.in-Ok.index c.parse.ensures.value.0 (sym c.is_count.ensures ∙ c.if-not-is_count.false) c.in-Ok.is

pub returns-in-Err : goal.returns-in-Err
returns-in-Err c = start_err c.args.text.now c.parse.result c.in-Err.field-0 1 c.parse.ensures.value.0 (sym c.is_count.ensures ∙ c.if-not-is_count.false) c.in-Err.is
