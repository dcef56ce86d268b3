use Rattle.std.proofs.Common.{ap, sym, ◌∙◌}
use Rattle.xf_submit.specs.Responding.{text}
use Rattle.xf_submit.proofs.TextLaws.{no-text, text-of}
use Rattle.xf_submit.proofs.responding.as_text.Goals as goal

pub returns-in_ok-from_str-in-Ok : goal.returns-in_ok-from_str-in-Ok
returns-in_ok-from_str-in-Ok c =
    ap text (c.in_ok-from_str-in-Ok.ensures ∙ c.in-Ok.ensures.cases.0) ∙ sym (text-of c.args.bytes.now c.in-Ok.ensures.cases.1)

pub returns-in-Err : goal.returns-in-Err
returns-in-Err c = sym (no-text c.args.bytes.now c.in-Err.ensures.cases.0)
