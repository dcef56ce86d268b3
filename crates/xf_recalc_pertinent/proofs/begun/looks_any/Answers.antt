use Rattle.xf_recalc_pertinent.proofs.Begins.{any-none}
use Rattle.xf_recalc_pertinent.proofs.begun.looks_any.Goals as goal

pub returns-then-is_empty : goal.returns-then-is_empty
returns-then-is_empty c = any-none c.args.lists.now (c.is_empty.ensures.0 c.if-is_empty.true) _
