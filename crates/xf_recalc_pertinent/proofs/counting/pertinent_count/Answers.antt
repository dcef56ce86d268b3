use Rattle.std.proofs.Common.{◌∙◌}
use Rattle.xf_recalc_pertinent.proofs.Counted.{counted}
use Rattle.xf_recalc_pertinent.proofs.counting.pertinent_count.Goals as goal

pub returns : goal.returns
returns c = λ scope all entries changes is. c.count.ensures ∙ counted scope all entries changes c.args.marks.now is
