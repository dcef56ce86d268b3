use Rattle.std.proofs.Common.{◌≤◌, length, arith}
use Rattle.xf_snap.proofs.FieldLemmas.{text_found, text_lost}
use Rattle.xf_snap.proofs.reading.text_of.Goals as goal

pub returns-in_ok-from_str-in-Ok : goal.returns-in_ok-from_str-in-Ok
returns-in_ok-from_str-in-Ok c =
    let fits : c.args.size ≤ length c.args.bytes.now = omega (arith, c.if-size-bytes.false) in
    text_found c.args.size c.args.bytes.now c.in_ok-from_str-in-Ok.field-0 c.in-Ok.text.now fits c.in-Ok.ensures.cases.0 c.in-Ok.ensures.cases.1 c.in_ok-from_str-in-Ok.ensures

pub returns-in-Err : goal.returns-in-Err
returns-in-Err c = text_lost c.args.size c.args.bytes.now c.in-Err.ensures.cases.0
