use Rattle.xf_types.proofs.PartLemmas.{no_utf8, part_of_utf8}
use Rattle.xf_types.proofs.parts.is_name_part.Goals as goal

pub returns-in-Ok : goal.returns-in-Ok
returns-in-Ok c =
    part_of_utf8 c.args.text.now c.in-Ok.part.now c.is_part.result c.in-Ok.ensures.cases.0 c.in-Ok.ensures.cases.1 c.is_part.ensures

pub returns-in-Err : goal.returns-in-Err
returns-in-Err c = no_utf8 c.args.text.now c.in-Err.ensures.cases.0
